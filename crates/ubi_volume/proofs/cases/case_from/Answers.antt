use Rattle.ubi_volume.proofs.Prelude.{IfOk-weaker, sym, subst, blocks_of, NoMismatch}
use Rattle.ubi_volume.proofs.OfSurvey.{survey_alike, tells_case}
use Rattle.ubi_volume.proofs.cases.case_from.Goals as goal

pub case_of-requires-clause-alike : goal.case_of-requires-clause-alike
case_of-requires-clause-alike g c = λ bytes holds.
    let s = c.args.geometry.now in
    subst (NoMismatch s (blocks_of s bytes)) (sym c.table-table.ensures)
    (survey_alike s bytes c.args.survey.now (c.requires.survey.held bytes holds))

pub returns-clause-case : goal.returns-clause-case
returns-clause-case g c =
    IfOk-weaker c.case_of.result _ _
    (λ case is bytes holds h w at.
    tells_case c.args.geometry.now bytes c.args.survey.now h c.args.id c.args.entry.now case c.requires.recorded
    (is bytes holds) w at)
    c.case_of.ensures.case
