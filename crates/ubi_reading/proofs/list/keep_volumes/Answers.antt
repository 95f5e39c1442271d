use Rattle.ubi_reading.proofs.Prelude.{◌≡◌, ℕ, ◌<◌, ◌∙◌, List, get_or, length, ap, sym, subst, arith, Sizes, rec_fault, VolumeRecord, Source, AreRecords, Records, Volume, listed_at, listed_item, places_narrowed, ArePlacesOf, listed_volume, None}
use Rattle.std.specs.Prelude.{map}
use Rattle.std.specs.Prelude.{Some}
use Rattle.std.specs.FinMap as finite
use Rattle.ubi_reading.proofs.ListedLines.{lines_all, sound_more, volumes_more}
use Rattle.ubi_reading.proofs.list.keep_volumes.Goals as goal

pub amount_of-requires-clause-places : goal.amount_of-requires-clause-places
amount_of-requires-clause-places g c =
    let s = c.args.geometry.now in
    let agrees = g.S.BlockSource.agrees c.loop-kept.source in
    subst (λ (k : Source). ArePlacesOf s k agrees c.args.places.now) (sym c.loop-kept.invariant.source)
    (places_narrowed s _ _ agrees c.args.places.now c.loop-kept.invariant.narrows c.requires.places)

pub amount_of-requires-clause-recorded : goal.amount_of-requires-clause-recorded
amount_of-requires-clause-recorded g c =
    let same = c.entries-kept-items.ensures.value ∙ ap (λ (x : Records). finite.entries x.of) c.table.ensures in
    listed_item c.args.places.now.records c.entries-kept-items.result.now c.loop-kept.kept-index c.kept-item.result same
    c.loop-kept-test.true c.kept-item.is

pub amount_of-requires-clause-sound : goal.amount_of-requires-clause-sound
amount_of-requires-clause-sound g c =
    let e = c.kept-item.result in
    let are = subst AreRecords c.table.ensures c.entries-kept-items.ensures.table in
    subst (λ (z : Sizes). rec_fault z e.1 ≡ None) c.requires.places.sizes
    (are.sound e.0 e.1 (amount_of-requires-clause-recorded g c))

pub loop-kept-preserved : goal.loop-kept-preserved
loop-kept-preserved g c =
    let e = c.kept-item.result in
    let i = c.loop-kept.kept-index in
    let entries = c.entries-kept-items.ensures.value ∙ ap (λ (x : Records). finite.entries x.of) c.table.ensures in
    let here : e ≡ get_or (finite.entries c.args.places.now.records.of) i e = c.kept-item.is
    ∙ ap (λ es. get_or es i e) entries in
    let inside : i < length (finite.entries c.args.places.now.records.of) = omega (arith, ap length entries) in
    let t = c.args.places.now.records in
    let are = subst AreRecords c.table.ensures c.entries-kept-items.ensures.table in
    let recorded : finite.get t.of e.0 ≡ Some e.1 = subst (λ (x : ℕ × VolumeRecord). finite.get t.of x.0 ≡ Some x.1)
    (sym here) (listed_at t i e inside) in
    let sound : rec_fault c.args.geometry.now e.1 ≡ None =
    subst (λ (z : Sizes). rec_fault z e.1 ≡ None) c.requires.places.sizes (are.sound e.0 e.1 recorded) in
    record {
      source = c.in-Ok.ensures.known ∙ c.loop-kept.invariant.source;
      narrows = λ bytes holds. c.loop-kept.invariant.narrows bytes (c.in-Ok.ensures.narrows bytes holds);
      sound = sound_more c.args.geometry.now c.loop-kept.listed.items c.push.new.self.items
          (record { id = e.0; entry = e.1; amount = c.in-Ok.amount }) c.loop-kept.invariant.sound sound c.in_ok-push-in-Ok.ensures.items;
      volumes = λ bytes holds h.
          volumes_more c.args.geometry.now c.args.places.now bytes h i e c.in-Ok.amount
          c.loop-kept.listed.items c.push.new.self.items inside here
          (c.in-Ok.ensures.amount bytes holds)
          (c.loop-kept.invariant.volumes bytes (c.in-Ok.ensures.narrows bytes holds) h) c.in_ok-push-in-Ok.ensures.items;
    }

pub returns-clause-volumes : goal.returns-clause-volumes
returns-clause-volumes g c = λ bytes holds h.
    let s = c.args.geometry.now in
    let p = c.args.places.now in
    let i = c.loop-kept.kept-index in
    let entries = c.entries-kept-items.ensures.value ∙ ap (λ (x : Records). finite.entries x.of) c.table.ensures in
    let all : i ≡ length (finite.entries p.records.of) =
    (let end = c.loop-kept.auto.kept-index-end in let test = c.loop-kept-test.false in
    omega (arith, end, test, ap length entries)) in
    c.loop-kept.invariant.volumes bytes holds h
    ∙ ap (λ (es : List (ℕ × Volume)). map listed_volume es) (lines_all s p bytes h i all)
