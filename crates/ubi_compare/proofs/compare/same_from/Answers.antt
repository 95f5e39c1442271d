use Rattle.ubi_compare.proofs.Prelude.{subst, sym, IfErr-weaker, IfOk-weaker, Source, blocks_in, IsSidesError, IsGeometry}
use Rattle.ubi_compare.proofs.Refusals.{sides_refused}
use Rattle.ubi_compare.proofs.compare.same_from.Goals as goal

pub returns-in-Err-survey_from-clause-refused : goal.returns-in-Err-survey_from-clause-refused
returns-in-Err-survey_from-clause-refused g c = (
  λ bytes holds. (let v = c.in-Ok.ensures.survey.held bytes holds in (v.meaning, v.attached.accepted)),
  c.in-Err-survey_from.ensures.refused,
)

pub returns-clause-answer : goal.returns-clause-answer
returns-clause-answer g c =
    IfOk-weaker c.same_surveyed.result _ _
    (λ answer tells x xs y ys.
    let h = c.in-Ok.ensures.survey.held x (c.same_surveyed.ensures.left_narrows x xs) in
    let k = c.in-Ok-survey_from.ensures.survey.held y (c.same_surveyed.ensures.right_narrows y ys) in
    let meanings = tells x xs y ys h k in
    record {
      left = h.meaning;
      right = k.meaning;
      left_means = h.attached.accepted;
      right_means = k.attached.accepted;
      limits = subst IsGeometry (sym h.attached.accepted.accepted.means.sizes) c.peb_size.ensures.limits;
      meanings = meanings;
    })
    c.same_surveyed.ensures.answer

pub returns-clause-refused : goal.returns-clause-refused
returns-clause-refused g c =
    let s = c.args.geometry.now in
    IfErr-weaker c.same_surveyed.result _ _
    (λ e h. sides_refused s (g.L.BlockSource.known c.args.left.now) _ (g.R.BlockSource.known c.args.right.now) _ e
    c.in-Ok.ensures.survey.scan.whole c.in-Ok-survey_from.ensures.survey.scan.whole
    (λ bytes holds. (let v = c.in-Ok.ensures.survey.held bytes (c.same_surveyed.ensures.left_narrows bytes holds) in
    (v.meaning, v.attached.accepted)))
    (subst (λ (k : Source). IsSidesError (blocks_in s k) (blocks_in s (g.R.BlockSource.known c.args.right.now)) e)
    c.in-Ok.ensures.known
    (subst (λ (k : Source). IsSidesError (blocks_in s (g.L.BlockSource.known c.survey_from.new.source))
    (blocks_in s k) e) c.in-Ok-survey_from.ensures.known h)))
    c.same_surveyed.ensures.failed
