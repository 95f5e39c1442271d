use Rattle.ubi_reading.proofs.Prelude.{source_narrowed, refuses, places_narrowed, unlisted, listed}
use Rattle.ubi_reading.specs.List.{accepted, refused}
use Rattle.ubi_reading.proofs.list.run_list_from.Goals as goal

pub returns-in_ok-text-in-Ok-clause-listed : goal.returns-in_ok-text-in-Ok-clause-listed
returns-in_ok-text-in-Ok-clause-listed g c =
    let known = g.S.BlockSource.known c.args.source.now in
    listed c.in-Ok.places c.in_ok-text-in-Ok.text.items
    (places_narrowed c.args.geometry.now known _ _ c.in-Ok.places c.in_ok-text-in-Ok.ensures.narrows c.in-Ok.ensures.places)
    c.saying.ensures

pub returns-in_ok-text-in-Ok-clause-lists : goal.returns-in_ok-text-in-Ok-clause-lists
returns-in_ok-text-in-Ok-clause-lists g c = λ bytes holds.
    let h = c.in-Ok.ensures.places.held bytes (c.in_ok-text-in-Ok.ensures.narrows bytes holds) in
    let text = c.in_ok-text-in-Ok.ensures.text bytes holds h in
    accepted h.meaning h.accepted (rw text at c.saying.ensures)

pub returns-in_ok-line-in-Err-Refused-clause-listed : goal.returns-in_ok-line-in-Err-Refused-clause-listed
returns-in_ok-line-in-Err-Refused-clause-listed g c =
    unlisted c.in-Err-Refused.cause (rw c.in-Err-Refused.field-0-is at c.in-Err-Refused.ensures.refused)
    (rw c.in_ok-line-in-Err-Refused.ensures at c.saying-in-Err-Refused.ensures)

pub returns-in_ok-line-in-Err-Refused-clause-lists : goal.returns-in_ok-line-in-Err-Refused-clause-lists
returns-in_ok-line-in-Err-Refused-clause-lists g c = λ bytes holds.
    let known = g.S.BlockSource.known c.args.source.now in
    let agrees = g.S.BlockSource.agrees c.attach_places.new.source in
    refused c.in-Err-Refused.cause
    (refuses c.args.geometry.now known agrees bytes c.in-Err-Refused.cause
    (source_narrowed known _ agrees c.in-Err-Refused.ensures.narrows (g.met.S.BlockSource.sized c.args.source.now)) holds
    (rw c.in-Err-Refused.field-0-is at c.in-Err-Refused.ensures.refused))
    (rw c.in_ok-line-in-Err-Refused.ensures at c.saying-in-Err-Refused.ensures)
