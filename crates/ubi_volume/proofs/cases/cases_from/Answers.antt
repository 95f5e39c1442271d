use Rattle.ubi_volume.proofs.Prelude.{◌≡◌, ◌+◌, ◌∙◌, [], ◌∷◌, ◌++◌, sym, subst, ap, take, arith, None, take_more, Sizes, rec_fault, Source, blocks_of, AreChecked}
use Rattle.ubi_volume.proofs.Gathered.{listed_item}
use Rattle.ubi_volume.proofs.NarrowedPlaces.{checked_narrowed}
use Rattle.ubi_volume.proofs.PlacesOf.{cases_more, numbered_more}
use Rattle.ubi_volume.proofs.cases.cases_from.Goals as goal

pub case_of-requires-clause-scan : goal.case_of-requires-clause-scan
case_of-requires-clause-scan g c =
    let s = c.args.geometry.now in
    let agrees = g.S.BlockSource.agrees c.loop-listed.source in
    (subst (λ (k : Source). AreChecked s k agrees c.args.scan.now c.args.table.now) (sym c.loop-listed.invariant.source)
    (checked_narrowed s _ _ agrees c.args.scan.now c.args.table.now c.loop-listed.invariant.narrows c.requires.checked)).scan

pub case_of-requires-clause-alike : goal.case_of-requires-clause-alike
case_of-requires-clause-alike g c = λ bytes holds. c.requires.checked.alike bytes (c.loop-listed.invariant.narrows bytes holds)

pub case_of-requires-clause-recorded : goal.case_of-requires-clause-recorded
case_of-requires-clause-recorded g c = listed_item c.args.table.now c.entries-listed-items.result.now
    c.loop-listed.listed-index c.listed-item.result c.entries-listed-items.ensures.value c.loop-listed-test.true
    c.listed-item.is

pub case_of-requires-clause-sound : goal.case_of-requires-clause-sound
case_of-requires-clause-sound g c =
    let e = c.listed-item.result in
    subst (λ (z : Sizes). rec_fault z e.1 ≡ None) c.requires.checked.table.sizes
    (c.entries-listed-items.ensures.table.sound e.0 e.1 (case_of-requires-clause-recorded g c))

pub loop-listed-preserved : goal.loop-listed-preserved
loop-listed-preserved g c =
    let e = c.listed-item.result in
    let es = c.entries-listed-items.result.now in
    let i = c.loop-listed.listed-index in
    let next : take (i + 1) es ≡ take i es ++ e ∷ [] = take_more es i e (omega arith)
    ∙ ap (λ x. take i es ++ x ∷ []) (sym c.listed-item.is) in
    record {
      source = c.in_ok-case.ensures.known ∙ c.loop-listed.invariant.source;
      narrows = λ bytes holds. c.loop-listed.invariant.narrows bytes (c.in_ok-case.ensures.narrows bytes holds);
      numbered = rw (next, c.in-Ok.ensures.items)
          (numbered_more c.args.scan.now.winners (take i es) c.loop-listed.cases.items e c.in_ok-case.case c.loop-listed.invariant.numbered
          c.in_ok-case.ensures.fits);
      cases = λ bytes holds.
          let s = c.args.geometry.now in
          let before = c.in_ok-case.ensures.narrows bytes holds in
          rw (next, c.in-Ok.ensures.items)
          (cases_more s (blocks_of s bytes) (take i es) c.loop-listed.cases.items e c.in_ok-case.case
          (c.loop-listed.invariant.cases bytes before) (c.in_ok-case.ensures.case bytes holds));
    }
