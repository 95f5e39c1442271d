use Rattle.ubi_compare.proofs.Prelude.{sym, subst, on_ok_weaker, Source, survey_narrowed, IsSurveyOf, Found, Adds, content_differences}
use Rattle.ubi_compare.proofs.volumes.compare_reading.Goals as goal

pub compare_texts-requires-clause-here : goal.compare_texts-requires-clause-here
compare_texts-requires-clause-here g c =
    let texts = c.are_texts.ensures.entry c.if-not-are_texts.false in
    record {
      survey = c.requires.here;
      recorded = c.requires.entry;
      sound = c.requires.entry_sound;
      unmarked = texts.0;
      static = texts.1;
    }

pub compare_texts-requires-clause-there : goal.compare_texts-requires-clause-there
compare_texts-requires-clause-there g c =
    let texts = c.are_texts.ensures.other c.if-not-are_texts.false in
    record {
      survey = c.requires.there;
      recorded = c.requires.other;
      sound = c.requires.other_sound;
      unmarked = texts.0;
      static = texts.1;
    }

pub compare_cases-requires-2-clause-here : goal.compare_cases-requires-2-clause-here
compare_cases-requires-2-clause-here g c =
    let s = c.args.geometry.now in
    let agrees = g.L.BlockSource.agrees c.compare_texts.new.left in
    subst (λ (k : Source). IsSurveyOf s k agrees c.args.here.now) (sym c.in_ok-compare_texts.ensures.left)
    (survey_narrowed s _ _ agrees c.args.here.now c.in_ok-compare_texts.ensures.left_narrows c.requires.here)

pub compare_cases-requires-2-clause-there : goal.compare_cases-requires-2-clause-there
compare_cases-requires-2-clause-there g c =
    let s = c.args.geometry.now in
    let agrees = g.R.BlockSource.agrees c.compare_texts.new.right in
    subst (λ (k : Source). IsSurveyOf s k agrees c.args.there.now) (sym c.in_ok-compare_texts.ensures.right)
    (survey_narrowed s _ _ agrees c.args.there.now c.in_ok-compare_texts.ensures.right_narrows c.requires.there)

pub returns-then-branch-clause-told : goal.returns-then-branch-clause-told
returns-then-branch-clause-told g c = c.in_ok-compare_texts.ensures.told c.if-branch.true

pub returns-clause-told : goal.returns-clause-told
returns-clause-told g c = on_ok_weaker c.compare_cases-2.result (λ told x xs y ys h k v w at bt.
    subst (λ (f : Found). Adds f c.compare_cases-2.new.found (content_differences c.args.geometry.now c.args.id v w))
    (c.in_ok-compare_texts.ensures.kept c.if-branch.false) (told x xs y ys h k v w at bt))
    c.compare_cases-2.ensures.told
