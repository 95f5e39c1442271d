use Rattle.ubi_change.proofs.Prelude.{◌∙◌, sym, ap, subst, map, take_all, Source, IsSurveyOf, survey_narrowed}
use Rattle.ubi_change.proofs.known.wholes_from.Goals as goal

pub reads_whole-requires-clause-survey : goal.reads_whole-requires-clause-survey
reads_whole-requires-clause-survey g c =
    let s = c.args.geometry.now in
    let agrees = g.S.BlockSource.agrees c.loop-i.source in
    subst (λ (k : Source). IsSurveyOf s k agrees c.args.surveyed.now) (sym c.loop-i.invariant.source)
    (survey_narrowed s _ _ agrees c.args.surveyed.now c.loop-i.invariant.narrows c.requires.survey)

pub returns-clause-wholes : goal.returns-clause-wholes
returns-clause-wholes g c = λ bytes held h.
    c.loop-i.invariant.wholes bytes held h ∙ ap (map _) (take_all c.loop-i.i c.args.edits.now c.loop-i-test.false)
