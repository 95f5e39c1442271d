use Rattle.ubi_compare.proofs.Prelude.{sym, subst, Source, survey_narrowed, IsSurveyOf}
use Rattle.ubi_compare.proofs.volumes.compare_cases.Goals as goal

pub compare_contents-requires-clause-here : goal.compare_contents-requires-clause-here
compare_contents-requires-clause-here g c =
    let s = c.args.geometry.now in
    let agrees = g.L.BlockSource.agrees c.case_from.new.source in
    record {
      survey = subst (λ (k : Source). IsSurveyOf s k agrees c.args.here.now) (sym c.in-Ok.ensures.known)
          (survey_narrowed s _ _ agrees c.args.here.now c.in-Ok.ensures.narrows c.requires.here);
      recorded = c.requires.entry;
      sound = c.requires.entry_sound;
      case = c.in-Ok.ensures.case;
    }

pub compare_contents-requires-clause-there : goal.compare_contents-requires-clause-there
compare_contents-requires-clause-there g c =
    let s = c.args.geometry.now in
    let agrees = g.R.BlockSource.agrees c.case_from-2.new.source in
    record {
      survey = subst (λ (k : Source). IsSurveyOf s k agrees c.args.there.now) (sym c.in-Ok-case_from.ensures.known)
          (survey_narrowed s _ _ agrees c.args.there.now c.in-Ok-case_from.ensures.narrows c.requires.there);
      recorded = c.requires.other;
      sound = c.requires.other_sound;
      case = c.in-Ok-case_from.ensures.case;
    }
