use Rattle.ubi_writing.proofs.Prelude.{inl, Keeps-refl, source_narrowed, refused_from, refuses, refused}
use Rattle.ubi_writing.proofs.extract.run_extract_from.Goals as goal

pub returns-in_ok-refusal_line-in-Err-Refused-clause-ok : goal.returns-in_ok-refusal_line-in-Err-Refused-clause-ok
returns-in_ok-refusal_line-in-Err-Refused-clause-ok g c =
    refused_from c.in-Err-Refused.cause (rw c.in-Err-Refused.field-0-is at c.in-Err-Refused.ensures.refused)
    (rw c.in_ok-refusal_line-in-Err-Refused.ensures at c.saying.ensures) (Keeps-refl _)

pub returns-in_ok-refusal_line-in-Err-Refused-clause-image : goal.returns-in_ok-refusal_line-in-Err-Refused-clause-image
returns-in_ok-refusal_line-in-Err-Refused-clause-image g c = λ bytes holds.
    let known = g.S.BlockSource.known c.args.source.now in
    let agrees = g.S.BlockSource.agrees c.attach_places.new.source in
    refused c.in-Err-Refused.cause
    (refuses c.args.geometry.now known agrees bytes c.in-Err-Refused.cause
    (source_narrowed known _ agrees c.in-Err-Refused.ensures.narrows (g.met.S.BlockSource.sized c.args.source.now)) holds
    (rw c.in-Err-Refused.field-0-is at c.in-Err-Refused.ensures.refused))
    (rw c.in_ok-refusal_line-in-Err-Refused.ensures at c.saying.ensures) (Keeps-refl _)

pub returns-in-Err-Read-clause-err : goal.returns-in-Err-Read-clause-err
returns-in-Err-Read-clause-err g c = inl (Keeps-refl _)
