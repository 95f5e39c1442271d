use Rattle.ubi_volume.proofs.Prelude.{◌∙◌, sym, subst, image_of, Source, blocks_of, AreChecked}
use Rattle.ubi_volume.proofs.AttachedOf.{attached}
use Rattle.ubi_volume.proofs.NarrowedPlaces.{checked_narrowed}
use Rattle.ubi_volume.proofs.PlacesOf.{are_listed, are_places}
use Rattle.ubi_volume.proofs.attached.attach_from.Goals as goal

pub cases_from-requires-clause-checked : goal.cases_from-requires-clause-checked
cases_from-requires-clause-checked g c =
    let s = c.args.geometry.now in
    let agrees = g.S.BlockSource.agrees c.checked_from.new.source in
    let found = c.in_ok-scan.field-0 in
    subst (λ (k : Source). AreChecked s k agrees found.scan found.table) (sym c.in_ok-scan.ensures.known)
    c.in_ok-scan.ensures.checked

pub invariant_of-places : goal.invariant_of-places
invariant_of-places g c = are_listed c.in_ok-scan.field-0.scan.winners c.in_ok-scan.field-0.table c.in_ok-contents.contents.items
    c.in_ok-contents.ensures.numbered

pub meaning_from-requires-clause-places : goal.meaning_from-requires-clause-places
meaning_from-requires-clause-places g c =
    let s = c.args.geometry.now in
    let agrees = g.S.BlockSource.agrees c.cases_from.new.source in
    let found = c.in_ok-scan.field-0 in
    are_places s _ agrees found.scan found.table
    (subst (λ (k : Source). AreChecked s k agrees found.scan found.table)
    (sym (c.in_ok-contents.ensures.known ∙ c.in_ok-scan.ensures.known))
    (checked_narrowed s _ _ agrees found.scan found.table c.in_ok-contents.ensures.narrows c.in_ok-scan.ensures.checked))
    c.in_ok-contents.contents.items c.in_ok-contents.ensures.numbered c.in_ok-contents.ensures.cases

pub returns-in_err-meaning-clause-narrows : goal.returns-in_err-meaning-clause-narrows
returns-in_err-meaning-clause-narrows g c = λ bytes holds.
    c.in_ok-scan.ensures.narrows bytes
    (c.in_ok-contents.ensures.narrows bytes (c.in_err-meaning.ensures.narrows bytes holds))

pub returns-clause-narrows : goal.returns-clause-narrows
returns-clause-narrows g c = λ bytes holds.
    c.in_ok-scan.ensures.narrows bytes
    (c.in_ok-contents.ensures.narrows bytes (c.in_ok-meaning.ensures.narrows bytes holds))

pub returns-clause-attached : goal.returns-clause-attached
returns-clause-attached g c = λ bytes holds.
    let s = c.args.geometry.now in
    let found = c.in_ok-scan.field-0 in
    let checked = c.in_ok-contents.ensures.narrows bytes (c.in_ok-meaning.ensures.narrows bytes holds) in
    let scan = c.in_ok-scan.ensures.checked.scan.held bytes checked in
    attached (image_of s bytes) found.scan found.table c.in_ok-meaning.meaning
    c.in_ok-states.states.items (c.in_ok-meaning.ensures.meaning bytes holds)
    scan (c.in_ok-scan.ensures.checked.table.held bytes checked)
    (c.in_ok-states.ensures.states s (blocks_of s bytes) scan)
