use Rattle.ubi_compare.proofs.Prelude.{◌∙◌, subst, sym, IfErr-weaker, IfOk-weaker, Source, blocks_in, IsSidesError}
use Rattle.ubi_compare.proofs.NothingDiffers.{nothing_differs}
use Rattle.ubi_compare.proofs.Refusals.{sides_refused}
use Rattle.ubi_compare.proofs.compare.diff_from.Goals as goal

pub returns-in-Err-survey_from-clause-refused : goal.returns-in-Err-survey_from-clause-refused
returns-in-Err-survey_from-clause-refused g c = (
  λ bytes holds. (let v = c.in-Ok.ensures.survey.held bytes holds in (v.meaning, v.attached.accepted)),
  c.in-Err-survey_from.ensures.refused,
)

pub returns-clause-left_narrows : goal.returns-clause-left_narrows
returns-clause-left_narrows g c = λ x xs. c.in-Ok.ensures.narrows x (c.found_in.ensures.left_narrows x xs)

pub returns-clause-right_narrows : goal.returns-clause-right_narrows
returns-clause-right_narrows g c = λ y ys. c.in-Ok-survey_from.ensures.narrows y (c.found_in.ensures.right_narrows y ys)

pub returns-clause-told : goal.returns-clause-told
returns-clause-told g c =
    IfOk-weaker c.found_in.result _ _
    (λ told is x xs y ys.
    let h = c.in-Ok.ensures.survey.held x (c.found_in.ensures.left_narrows x xs) in
    let k = c.in-Ok-survey_from.ensures.survey.held y (c.found_in.ensures.right_narrows y ys) in
    let left = h.attached.accepted.accepted.means in
    let right = k.attached.accepted.accepted.means in
    let differ = is x xs y ys h k in
    let law = nothing_differs h.meaning k.meaning left.meaning right.meaning (left.sizes ∙ sym right.sizes) in
    record {
      left = h.meaning;
      right = k.meaning;
      left_means = h.attached.accepted;
      right_means = k.attached.accepted;
      differences = differ;
      none = ((λ none. law.0 (sym differ ∙ none)), (λ same. differ ∙ law.1 same));
    })
    c.found_in.ensures.told

pub returns-clause-refused : goal.returns-clause-refused
returns-clause-refused g c =
    let s = c.args.geometry.now in
    IfErr-weaker c.found_in.result _ _
    (λ e h. sides_refused s (g.L.BlockSource.known c.args.left.now) _ (g.R.BlockSource.known c.args.right.now) _ e
    c.in-Ok.ensures.survey.scan.whole c.in-Ok-survey_from.ensures.survey.scan.whole
    (λ bytes holds. (let v = c.in-Ok.ensures.survey.held bytes (c.found_in.ensures.left_narrows bytes holds) in
    (v.meaning, v.attached.accepted)))
    (subst (λ (k : Source). IsSidesError (blocks_in s k) (blocks_in s (g.R.BlockSource.known c.args.right.now)) e)
    c.in-Ok.ensures.known
    (subst (λ (k : Source). IsSidesError (blocks_in s (g.L.BlockSource.known c.survey_from.new.source))
    (blocks_in s k) e) c.in-Ok-survey_from.ensures.known h)))
    c.found_in.ensures.failed
