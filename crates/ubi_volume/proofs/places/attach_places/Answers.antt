use Rattle.ubi_volume.proofs.NarrowedPlaces.{checked_narrowed}
use Rattle.ubi_volume.proofs.PlacesOf.{are_listed, are_places}
use Rattle.ubi_volume.proofs.places.attach_places.Goals as goal

pub invariant_of-result : goal.invariant_of-result
invariant_of-result g c = are_listed c.in_ok-scan.field-0.scan.winners c.in_ok-scan.field-0.table c.in_ok-contents.contents.items
    c.in_ok-contents.ensures.numbered

pub returns-clause-places : goal.returns-clause-places
returns-clause-places g c =
    let s = c.args.geometry.now in
    let known = g.S.BlockSource.known c.args.source.now in
    let agrees = g.S.BlockSource.agrees c.cases_from.new.source in
    let found = c.in_ok-scan.field-0 in
    are_places s known agrees found.scan found.table
    (checked_narrowed s known _ agrees found.scan found.table c.in_ok-contents.ensures.narrows
    c.in_ok-scan.ensures.checked)
    c.in_ok-contents.contents.items c.in_ok-contents.ensures.numbered c.in_ok-contents.ensures.cases
