use Rattle.ubi_reading.proofs.Prelude.{◌≡◌, ℕ, ◌<◌, ◌++◌, ◌∙◌, List, get_or, length, ap, sym, subst, arith, flat_map, Sizes, rec_fault, VolumeRecord, Source, AreRecords, Records, Volume, listed_at, listed_item, places_narrowed, ArePlacesOf, volume_line, None}
use Rattle.std.specs.Prelude.{Some}
use Rattle.std.specs.FinMap as finite
use Rattle.ubi_reading.proofs.ListedLines.{lines_all, lines_more}
use Rattle.ubi_reading.proofs.list.put_volumes.Goals as goal

pub amount_of-requires-clause-places : goal.amount_of-requires-clause-places
amount_of-requires-clause-places g c =
    let s = c.args.geometry.now in
    let agrees = g.S.BlockSource.agrees c.loop-listed.source in
    subst (λ (k : Source). ArePlacesOf s k agrees c.args.places.now) (sym c.loop-listed.invariant.source)
    (places_narrowed s _ _ agrees c.args.places.now c.loop-listed.invariant.narrows c.requires.places)

pub amount_of-requires-clause-recorded : goal.amount_of-requires-clause-recorded
amount_of-requires-clause-recorded g c =
    let same = c.entries-listed-items.ensures.value ∙ ap (λ (x : Records). finite.entries x.of) c.table.ensures in
    listed_item c.args.places.now.records c.entries-listed-items.result.now c.loop-listed.listed-index c.listed-item.result same
    c.loop-listed-test.true c.listed-item.is

pub amount_of-requires-clause-sound : goal.amount_of-requires-clause-sound
amount_of-requires-clause-sound g c =
    let e = c.listed-item.result in
    let are = subst AreRecords c.table.ensures c.entries-listed-items.ensures.table in
    subst (λ (z : Sizes). rec_fault z e.1 ≡ None) c.requires.places.sizes
    (are.sound e.0 e.1 (amount_of-requires-clause-recorded g c))

pub put_volume-requires : goal.put_volume-requires
put_volume-requires g c =
    let t = c.args.places.now.records in
    let e = c.listed-item.result in
    let i = c.loop-listed.listed-index in
    let entries = c.entries-listed-items.ensures.value ∙ ap (λ (x : Records). finite.entries x.of) c.table.ensures in
    let here : e ≡ get_or (finite.entries t.of) i e = c.listed-item.is ∙ ap (λ es. get_or es i e) entries in
    let inside : i < length (finite.entries t.of) = omega (arith, ap length entries) in
    let are = subst AreRecords c.table.ensures c.entries-listed-items.ensures.table in
    let recorded : finite.get t.of e.0 ≡ Some e.1 = subst (λ (x : ℕ × VolumeRecord). finite.get t.of x.0 ≡ Some x.1)
    (sym here) (listed_at t i e inside) in
    subst (λ (z : Sizes). rec_fault z e.1 ≡ None) c.requires.places.sizes (are.sound e.0 e.1 recorded)

pub loop-listed-preserved : goal.loop-listed-preserved
loop-listed-preserved g c =
    let e = c.listed-item.result in
    let i = c.loop-listed.listed-index in
    let entries = c.entries-listed-items.ensures.value ∙ ap (λ (x : Records). finite.entries x.of) c.table.ensures in
    let here : e ≡ get_or (finite.entries c.args.places.now.records.of) i e = c.listed-item.is
    ∙ ap (λ es. get_or es i e) entries in
    let inside : i < length (finite.entries c.args.places.now.records.of) = omega (arith, ap length entries) in
    record {
      source = c.in-Ok.ensures.known ∙ c.loop-listed.invariant.source;
      narrows = λ bytes holds. c.loop-listed.invariant.narrows bytes (c.in-Ok.ensures.narrows bytes holds);
      text = λ bytes holds h.
          lines_more c.args.geometry.now c.args.places.now bytes h i e c.in-Ok.amount c.args.text.now.items
          c.loop-listed.text.items c.put_volume.new.text.items inside here
          (c.in-Ok.ensures.amount bytes holds)
          (c.loop-listed.invariant.text bytes (c.in-Ok.ensures.narrows bytes holds) h) c.in_ok-put_volume-in-Ok.ensures;
    }

pub returns-clause-text : goal.returns-clause-text
returns-clause-text g c = λ bytes holds h.
    let s = c.args.geometry.now in
    let p = c.args.places.now in
    let i = c.loop-listed.listed-index in
    let entries = c.entries-listed-items.ensures.value ∙ ap (λ (x : Records). finite.entries x.of) c.table.ensures in
    let all : i ≡ length (finite.entries p.records.of) =
    (let end = c.loop-listed.auto.listed-index-end in let test = c.loop-listed-test.false in
    omega (arith, end, test, ap length entries)) in
    c.loop-listed.invariant.text bytes holds h
    ∙ ap (λ (es : List (ℕ × Volume)). c.args.text.now.items ++ flat_map (volume_line s) es)
    (lines_all s p bytes h i all)
