use Rattle.ubi_compare.proofs.Prelude.{◌∙◌, ◌++◌, List, refl, sym, subst, Source, survey_narrowed, IsSurveyOf, condition_of, leb_differences, length_differences, same_condition, unless, Difference, Tells, Bool, text_case}
use Rattle.ubi_volume.specs.declared.places.PlaceContent.TheVariants as place
use Rattle.ubi_compare.proofs.Adding.{adds_alike, adds_more, adds_none}
use Rattle.ubi_compare.proofs.Differing.{both_cases}
use Rattle.ubi_compare.proofs.TextsRead.{all_texts, text_of}
use Rattle.ubi_compare.specs.declared.difference.Difference.TheVariants as difference
use Rattle.ubi_compare.proofs.texts.compare_texts.Goals as goal

pub whole_texts-requires-clause-here : goal.whole_texts-requires-clause-here
whole_texts-requires-clause-here g c =
    let s = c.args.geometry.now in
    let agrees = g.L.BlockSource.agrees c.lebs_of_both.new.left in
    let is = c.requires.here in
    record {
      survey = subst (λ (k : Source). IsSurveyOf s k agrees c.args.here.survey.now) (sym c.in_ok-lebs.ensures.left)
          (survey_narrowed s _ _ agrees c.args.here.survey.now c.in_ok-lebs.ensures.left_narrows is.survey);
      recorded = is.recorded;
      sound = is.sound;
      unmarked = is.unmarked;
      static = is.static;
    }

pub whole_texts-requires-clause-there : goal.whole_texts-requires-clause-there
whole_texts-requires-clause-there g c =
    let s = c.args.geometry.now in
    let agrees = g.R.BlockSource.agrees c.lebs_of_both.new.right in
    let is = c.requires.there in
    record {
      survey = subst (λ (k : Source). IsSurveyOf s k agrees c.args.there.survey.now) (sym c.in_ok-lebs.ensures.right)
          (survey_narrowed s _ _ agrees c.args.there.survey.now c.in_ok-lebs.ensures.right_narrows is.survey);
      recorded = is.recorded;
      sound = is.sound;
      unmarked = is.unmarked;
      static = is.static;
    }

pub returns-in_err-extend-clause-left_narrows : goal.returns-in_err-extend-clause-left_narrows
returns-in_err-extend-clause-left_narrows g c = λ x xs. c.in_ok-lebs.ensures.left_narrows x (c.in_ok-texts.ensures.left_narrows x xs)

pub returns-in_err-extend-clause-right_narrows : goal.returns-in_err-extend-clause-right_narrows
returns-in_err-extend-clause-right_narrows g c = λ x xs. c.in_ok-lebs.ensures.right_narrows x (c.in_ok-texts.ensures.right_narrows x xs)

pub returns-clause-left_narrows : goal.returns-clause-left_narrows
returns-clause-left_narrows g c = λ x xs. c.in_ok-lebs.ensures.left_narrows x (c.in_ok-texts.ensures.left_narrows x xs)

pub returns-clause-right_narrows : goal.returns-clause-right_narrows
returns-clause-right_narrows g c = λ x xs. c.in_ok-lebs.ensures.right_narrows x (c.in_ok-texts.ensures.right_narrows x xs)

pub returns-clause-told : goal.returns-clause-told
returns-clause-told g c = λ done x xs y ys h k v w at bt.
    let s = c.args.geometry.now in
    let id = c.args.id in
    let p = c.args.here.survey.now in
    let q = c.args.there.survey.now in
    let r = c.args.here.entry.now in
    let o = c.args.there.entry.now in
    let here = c.requires.here in
    let there = c.requires.there in
    let lebs = c.in-Some.lebs in
    let t = c.in-Some-2.texts in
    let texts = rw c.in-Some-2.is at c.in_ok-texts.ensures.read in
    let read = texts x xs y ys in
    let lie_so = rw c.in-Some.is at c.in_ok-lebs.ensures.lebs in
    let lie = lie_so x (c.in_ok-texts.ensures.left_narrows x xs) y (c.in_ok-texts.ensures.right_narrows y ys) in
    let left = text_case s x p h id r here.recorded v at here.sound here.unmarked here.static lebs.left t.left lie.0 read.left in
    let right = text_case s y q k id o there.recorded w bt there.sound there.unmarked there.static lebs.right t.right lie.1 read.right in
    let f = c.args.found.now in
    let e = c.add_unless.new.self in
    let front = both_cases s id v w (place.Static lebs.left t.left) (place.Static lebs.right t.right) left right f f e (adds_none f)
    c.in_ok-add_unless.ensures in
    adds_more f e c.extend.new.self (unless (same_condition (condition_of v.content) (condition_of w.content))
    (difference.Condition id (condition_of v.content) (condition_of w.content)) ++ length_differences id v.content w.content)
    (leb_differences s id v w) front
    (adds_alike e c.extend.new.self c.as_slice.result.now (leb_differences s id v w)
    (subst (λ (brief : Bool). Tells brief c.as_slice.result.now (leb_differences s id v w))
    (sym c.in_ok-add_unless.ensures.brief)
    (subst (λ (ds : List Difference). Tells f.is_brief ds (leb_differences s id v w))
    (sym (c.as_slice.ensures.value ∙ c.in_ok-told.ensures))
    (all_texts f.is_brief s id lebs p q x y r o here.recorded there.recorded here.sound there.sound c.requires.size t read h k
    v w at bt (text_of s lebs.left t.left v v.content refl left) (text_of s lebs.right t.right w w.content refl right))))
    c.in_ok-extend.ensures)
