use Rattle.ubi_change.proofs.Prelude.{subst, Source, states_avoiding, AreTaken, survey_narrowed}
use Rattle.ubi_change.proofs.ground.ground_of.Goals as goal

pub returns-clause-ground : goal.returns-clause-ground
returns-clause-ground g c =
    let s = c.args.geometry.now in
    let agrees = g.S.BlockSource.agrees c.first_takeable.new.source in
    let seen = c.in_ok-surveyed.surveyed in
    record {
      survey = survey_narrowed s _ _ agrees seen c.in_ok-taken.ensures.narrows c.in_ok-surveyed.ensures.survey;
      taken = subst (λ (k : Source). AreTaken s k agrees (states_avoiding c.args.avoided.now seen.states) c.args.most c.in_ok-taken.taken.items) c.in_ok-surveyed.ensures.known c.in_ok-taken.ensures.taken;
    }
