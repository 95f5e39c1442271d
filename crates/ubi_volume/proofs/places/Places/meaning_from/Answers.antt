use Rattle.ubi_volume.proofs.Prelude.{◌≡◌, ◌+◌, ◌∙◌, [], ◌∷◌, ◌++◌, refl, sym, subst, ap, take, arith, None, take_more, Sizes, rec_fault, Source, Records, IsContentOf, ArePlacesOf}
use Rattle.std.specs.FinMap as finite
use Rattle.ubi_volume.proofs.Gathered.{contents_more, listed_item}
use Rattle.ubi_volume.proofs.MeaningOf.{meaning_is, volumes_are}
use Rattle.ubi_volume.proofs.NarrowedPlaces.{contents_narrowed, places_narrowed}
use Rattle.ubi_volume.proofs.places.Places.meaning_from.Goals as goal

pub content_from-requires-clause-places : goal.content_from-requires-clause-places
content_from-requires-clause-places g c =
    let s = c.args.geometry.now in
    let agrees = g.S.BlockSource.agrees c.loop-listed.source in
    subst (λ (k : Source). ArePlacesOf s k agrees c.args.self.now) (sym c.loop-listed.invariant.source)
    (places_narrowed s _ _ agrees c.args.self.now c.loop-listed.invariant.narrows c.requires.places)

pub content_from-requires-clause-recorded : goal.content_from-requires-clause-recorded
content_from-requires-clause-recorded g c =
    let same = c.entries-listed-items.ensures.value ∙ ap (λ (x : Records). finite.entries x.of) c.table.ensures in
    listed_item c.args.self.now.records c.entries-listed-items.result.now c.loop-listed.listed-index c.listed-item.result same
    c.loop-listed-test.true c.listed-item.is

pub content_from-requires-clause-sound : goal.content_from-requires-clause-sound
content_from-requires-clause-sound g c =
    let e = c.listed-item.result in
    let records = rw c.table.ensures at c.entries-listed-items.ensures.table in
    subst (λ (z : Sizes). rec_fault z e.1 ≡ None) c.requires.places.sizes
    (records.sound e.0 e.1 (content_from-requires-clause-recorded g c))

pub loop-listed-preserved : goal.loop-listed-preserved
loop-listed-preserved g c =
    let s = c.args.geometry.now in
    let e = c.listed-item.result in
    let es = c.entries-listed-items.result.now in
    let i = c.loop-listed.listed-index in
    let agrees = g.S.BlockSource.agrees c.content_from.new.source in
    let next : take (i + 1) es ≡ take i es ++ e ∷ [] = take_more es i e (omega arith)
    ∙ ap (λ x. take i es ++ x ∷ []) (sym c.listed-item.is) in
    record {
      source = c.in_ok-content.ensures.known ∙ c.loop-listed.invariant.source;
      narrows = λ bytes holds. c.loop-listed.invariant.narrows bytes (c.in_ok-content.ensures.narrows bytes holds);
      contents = rw (next, c.in-Ok.ensures.items)
          (contents_more (IsContentOf s agrees) (take i es) c.loop-listed.volumes.items e _
          (contents_narrowed s _ agrees (take i es) c.loop-listed.volumes.items c.in_ok-content.ensures.narrows
          c.loop-listed.invariant.contents) refl c.in_ok-content.ensures.content);
    }

pub of-requires : goal.of-requires
of-requires g c = volumes_are c.args.geometry.now _ _ (g.S.BlockSource.agrees c.loop-listed.source) c.args.self.now
    c.requires.places c.table.result.now c.table.ensures c.entries-listed-items.ensures.table
    c.entries-listed-items.result.now c.entries-listed-items.ensures.value c.loop-listed.listed-index (omega arith)
    c.loop-listed.volumes.items c.loop-listed.invariant.contents c.image_seq.result c.image_seq.ensures
    c.image_seq.type_inv

pub returns-clause-meaning : goal.returns-clause-meaning
returns-clause-meaning g c = λ bytes holds.
    rw c.of.ensures
    (meaning_is c.args.geometry.now _ _ (g.S.BlockSource.agrees c.loop-listed.source) c.args.self.now
    c.requires.places c.table.result.now c.table.ensures c.entries-listed-items.ensures.table
    c.entries-listed-items.result.now c.entries-listed-items.ensures.value c.loop-listed.listed-index (omega arith)
    c.loop-listed.volumes.items c.loop-listed.invariant.contents c.image_seq.result c.image_seq.ensures
    c.image_seq.type_inv bytes (c.loop-listed.invariant.narrows bytes holds) holds)
