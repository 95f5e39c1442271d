use Rattle.ubi_compare.proofs.Prelude.{ℕ, sym, subst, Source, survey_narrowed, IsSurveyOf, AreToldApart}
use Rattle.ubi_compare.proofs.texts.whole_texts.Goals as goal

pub length_from-requires-clause-survey : goal.length_from-requires-clause-survey
length_from-requires-clause-survey g c =
    let s = c.args.geometry.now in
    let agrees = g.L.BlockSource.agrees c.texts_beside.new.left in
    let survey = c.args.here.survey.now in
    subst (λ (k : Source). IsSurveyOf s k agrees survey) (sym c.in_ok-texts.ensures.left)
    (survey_narrowed s _ _ agrees survey c.in_ok-texts.ensures.left_narrows c.requires.here.survey)

pub length_from-requires-2-clause-survey : goal.length_from-requires-2-clause-survey
length_from-requires-2-clause-survey g c =
    let s = c.args.geometry.now in
    let agrees = g.R.BlockSource.agrees c.texts_beside.new.right in
    let survey = c.args.there.survey.now in
    subst (λ (k : Source). IsSurveyOf s k agrees survey) (sym c.in_ok-texts.ensures.right)
    (survey_narrowed s _ _ agrees survey c.in_ok-texts.ensures.right_narrows c.requires.there.survey)

pub returns-clause-read : goal.returns-clause-read
returns-clause-read g c = λ x xs y ys.
    let read = rw c.in-Some.is at c.in_ok-texts.ensures.read in
    let first = read x (c.in-Ok-Some.ensures.narrows x xs) y (c.in-Ok-Some-length_from.ensures.narrows y ys) in
    let left = rw c.in-Ok-Some.field-0-is at c.in-Ok-Some.ensures.read in
    let right = rw c.in-Ok-Some-length_from.field-0-is at c.in-Ok-Some-length_from.ensures.read in
    record {
      left = left x xs first.left;
      right = right y ys first.right;
      found = subst (λ (n : ℕ). AreToldApart c.args.is_brief c.args.geometry.now c.args.id c.args.lebs n c.args.here.survey.now
          c.args.there.survey.now x y c.in-Some.texts.ranges) c.min-count.ensures first.found;
    }
