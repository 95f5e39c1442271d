use Rattle.ubi_volume.proofs.Prelude.{◌∙◌, blocks_of}
use Rattle.ubi_volume.proofs.SurveyOf.{is_survey}
use Rattle.ubi_volume.proofs.surveyed.survey_from.Goals as goal

pub returns-clause-survey : goal.returns-clause-survey
returns-clause-survey g c =
    let s = c.args.geometry.now in
    let known = g.S.BlockSource.known c.args.source.now in
    let agrees = g.S.BlockSource.agrees c.checked_from.new.source in
    let found = c.in_ok-scan.field-0 in
    let checked = c.in_ok-scan.ensures.checked in
    is_survey s known agrees found.scan found.table c.in_ok-states.states.items checked
    (record {
      count = c.in_ok-states.ensures.count ∙ c.in_ok-scan.ensures.count ∙ checked.scan.within.states;
      held = λ bytes holds. c.in_ok-states.ensures.states s (blocks_of s bytes) (checked.scan.held bytes holds);
    })
