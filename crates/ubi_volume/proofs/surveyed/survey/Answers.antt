use Rattle.ubi_volume.proofs.Prelude.{holds, memory, still, IsSurveyOf}
use Rattle.ubi_volume.proofs.PlacesOf.{refused_in_memory}
use Rattle.ubi_volume.proofs.surveyed.survey.Goals as goal

pub returns-in-Ok-clause-survey : goal.returns-in-Ok-clause-survey
returns-in-Ok-clause-survey c =
    let image = c.args.image.now in
    let left = c.survey_from.new.source in
    let is : IsSurveyOf c.args.geometry.now (memory image) (holds left) c.in-Ok.survey =
    rw c.new.ensures at c.in-Ok.ensures.survey in
    is.held image (still image left (rw c.new.ensures at c.in-Ok.ensures.narrows))

pub returns-in-Err-Refused-clause-refused : goal.returns-in-Err-Refused-clause-refused
returns-in-Err-Refused-clause-refused c =
    refused_in_memory c.args.geometry.now c.args.image.now c.survey_from.new.source c.in-Err-Refused.cause
    (rw c.new.ensures at c.in-Err-Refused.ensures.narrows)
    (rw (c.in-Err-Refused.field-0-is, c.new.ensures) at c.in-Err-Refused.ensures.refused)
