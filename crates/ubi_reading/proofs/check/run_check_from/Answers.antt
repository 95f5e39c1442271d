use Rattle.ubi_reading.proofs.Prelude.{source_narrowed, refuses, surveyed, unsurveyed, accepted, refused}
use Rattle.ubi_reading.proofs.check.run_check_from.Goals as goal

pub returns-in_ok-check_told-in-Ok-clause-checked : goal.returns-in_ok-check_told-in-Ok-clause-checked
returns-in_ok-check_told-in-Ok-clause-checked g c =
    surveyed c.in-Ok.surveyed c.in-Ok.ensures.survey (rw c.in_ok-check_told-in-Ok.ensures at c.saying.ensures)

pub returns-in_ok-line-in-Err-Refused-clause-checked : goal.returns-in_ok-line-in-Err-Refused-clause-checked
returns-in_ok-line-in-Err-Refused-clause-checked g c =
    unsurveyed c.in-Err-Refused.cause (rw c.in-Err-Refused.field-0-is at c.in-Err-Refused.ensures.refused)
    (rw c.in_ok-line-in-Err-Refused.ensures at c.saying-in-Err-Refused.ensures)

pub returns-in_ok-check_told-in-Ok-clause-checks : goal.returns-in_ok-check_told-in-Ok-clause-checks
returns-in_ok-check_told-in-Ok-clause-checks g c = λ bytes holds.
    accepted c.in-Ok.surveyed (c.in-Ok.ensures.survey.held bytes holds) (rw c.in_ok-check_told-in-Ok.ensures at c.saying.ensures)

pub returns-in_ok-line-in-Err-Refused-clause-checks : goal.returns-in_ok-line-in-Err-Refused-clause-checks
returns-in_ok-line-in-Err-Refused-clause-checks g c = λ bytes holds.
    let known = g.S.BlockSource.known c.args.source.now in
    let agrees = g.S.BlockSource.agrees c.survey_from.new.source in
    refused c.in-Err-Refused.cause
    (refuses c.args.geometry.now known agrees bytes c.in-Err-Refused.cause
    (source_narrowed known _ agrees c.in-Err-Refused.ensures.narrows (g.met.S.BlockSource.sized c.args.source.now)) holds
    (rw c.in-Err-Refused.field-0-is at c.in-Err-Refused.ensures.refused))
    (rw c.in_ok-line-in-Err-Refused.ensures at c.saying-in-Err-Refused.ensures)
