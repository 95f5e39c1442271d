use Rattle.ubi_change.proofs.Prelude.{sym, subst, ◌∙◌, Source, blocks_of, IsSurveyOf, site_at, states_avoiding, survey_narrowed}
use Rattle.ubi_change.proofs.Sited.{fits_some, site_there}
use Rattle.ubi_change.proofs.copies.holders_of.Goals as goal

pub returns-then-not-branch-clause-holders : goal.returns-then-not-branch-clause-holders
returns-then-not-branch-clause-holders g c =
    record { fits = tt; held = c.in_ok-are_both_good.ensures.bad c.if-not-branch.true }

pub winner_site-requires-clause-survey : goal.winner_site-requires-clause-survey
winner_site-requires-clause-survey g c =
    let s = c.args.geometry.now in
    let agrees = g.S.BlockSource.agrees c.are_both_good.new.source in
    subst (λ (k : Source). IsSurveyOf s k agrees c.args.surveyed.now) (sym c.in_ok-are_both_good.ensures.known)
    (survey_narrowed s _ _ agrees c.args.surveyed.now c.in_ok-are_both_good.ensures.narrows c.requires.survey)

pub winner_site-requires-2-clause-survey : goal.winner_site-requires-2-clause-survey
winner_site-requires-2-clause-survey g c =
    let s = c.args.geometry.now in
    let agrees = g.S.BlockSource.agrees c.winner_site.new.source in
    subst (λ (k : Source). IsSurveyOf s k agrees c.args.surveyed.now)
    (sym (c.in_ok-first.ensures.known ∙ c.in_ok-are_both_good.ensures.known))
    (survey_narrowed s _ _ agrees c.args.surveyed.now
    (λ bytes holds. c.in_ok-are_both_good.ensures.narrows bytes (c.in_ok-first.ensures.narrows bytes holds))
    c.requires.survey)

pub returns-clause-holders : goal.returns-clause-holders
returns-clause-holders g c =
    let s = c.args.geometry.now in
    let states = states_avoiding c.args.avoided.now c.args.surveyed.now.states in
    let first_known = c.in_ok-are_both_good.ensures.known in
    let second_known = c.in_ok-first.ensures.known ∙ first_known in
    record {
      fits = record {
        first = fits_some s _ _ _ _ c.in-Some.is first_known c.in_ok-first.ensures.site.fits;
        second = fits_some s _ _ _ _ c.in-Some-2.is second_known c.in_ok-second.ensures.site.fits;
      };
      held = λ bytes holds.
          let bs = blocks_of s bytes in
          let before = c.in_ok-second.ensures.narrows bytes holds in (
            c.in_ok-are_both_good.ensures.good c.if-not-branch.false bytes (c.in_ok-first.ensures.narrows bytes before),
            site_there (site_at s bs states) _ c.in-Some.first (sym c.in-Some.is ∙ c.in_ok-first.ensures.site.held bytes before),
            site_there (site_at s bs states) _ c.in-Some-2.second
                (sym c.in-Some-2.is ∙ c.in_ok-second.ensures.site.held bytes holds),
          );
    }
