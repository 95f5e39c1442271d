use Rattle.ubi_change.proofs.Prelude.{◌∙◌, sym, subst, Source, IsSurveyOf, survey_narrowed}
use Rattle.ubi_change.proofs.Grounded.{holders_known}
use Rattle.ubi_change.proofs.known.known_from.Goals as goal

pub holders_of-requires-clause-survey : goal.holders_of-requires-clause-survey
holders_of-requires-clause-survey g c =
    let s = c.args.geometry.now in
    let agrees = g.S.BlockSource.agrees c.wholes_from.new.source in
    let seen = c.in_ok-surveyed.surveyed in
    subst (λ (k : Source). IsSurveyOf s k agrees seen) (sym c.in_ok-wholes.ensures.known)
    (survey_narrowed s _ _ agrees seen c.in_ok-wholes.ensures.narrows
    (subst (λ (k : Source). IsSurveyOf s k (g.S.BlockSource.agrees c.survey_from.new.source) seen) (sym c.in_ok-surveyed.ensures.known)
    c.in_ok-surveyed.ensures.survey))

pub returns-clause-read : goal.returns-clause-read
returns-clause-read g c =
    let s = c.args.geometry.now in
    let agrees = g.S.BlockSource.agrees c.holders_of.new.source in
    let seen = c.in_ok-surveyed.surveyed in
    record {
      survey = survey_narrowed s _ _ agrees seen
          (λ bytes held. c.in_ok-wholes.ensures.narrows bytes (c.in_ok-holders.ensures.narrows bytes held))
          c.in_ok-surveyed.ensures.survey;
      count = c.in_ok-wholes.ensures.count;
      wholes = λ bytes held. c.in_ok-wholes.ensures.wholes bytes (c.in_ok-holders.ensures.narrows bytes held);
      holders = holders_known s _ _ agrees c.args.avoided.now seen c.in_ok-holders.holders
          (c.in_ok-wholes.ensures.known ∙ c.in_ok-surveyed.ensures.known) c.in_ok-holders.ensures.holders;
    }
