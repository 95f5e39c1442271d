use Rattle.ubi_volume.proofs.Prelude.{holds, still, IsAttachedOf}
use Rattle.ubi_volume.proofs.PlacesOf.{refused_in_memory}
use Rattle.ubi_volume.proofs.attached.attach.Goals as goal

pub returns-in-Ok-clause-attached : goal.returns-in-Ok-clause-attached
returns-in-Ok-clause-attached c =
    let image = c.args.image.now in
    let left = c.attach_from.new.source in
    let is : IsAttachedOf c.args.geometry.now (holds left) c.in-Ok.attached = c.in-Ok.ensures.attached in
    is image (still image left (rw c.new.ensures at c.in-Ok.ensures.narrows))

pub returns-in-Err-Refused-clause-refused : goal.returns-in-Err-Refused-clause-refused
returns-in-Err-Refused-clause-refused c =
    refused_in_memory c.args.geometry.now c.args.image.now c.attach_from.new.source c.in-Err-Refused.cause
    (rw c.new.ensures at c.in-Err-Refused.ensures.narrows)
    (rw (c.in-Err-Refused.field-0-is, c.new.ensures) at c.in-Err-Refused.ensures.refused)
