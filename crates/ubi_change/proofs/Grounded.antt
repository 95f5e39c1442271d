-- What was read for a plan, once more is read.
use Rattle.ubi_change.proofs.Prelude.{◌≡◌, ℕ, subst, List, Option, Sizes, Agreed, Narrows, Source, Seen, BlockState, AreHoldersOf, IsSiteAt, IsGroundOf, Avoided, Ground, Holders, Site, survey_narrowed}

module _ (s : Sizes) (k : Source) (old new : Agreed) where
  pub ground_narrowed : (av : Avoided) (most : ℕ) (ground : Ground) → Narrows old new → IsGroundOf s k old av most ground → IsGroundOf s k new av most ground
  ground_narrowed av most ground narrows h = record {
    survey = survey_narrowed s k old new ground.surveyed narrows h.survey;
    taken = record {
      fit = h.taken.fit;
      held = λ bytes agrees. h.taken.held bytes (narrows bytes agrees);
    };
  }

-- reads that succeeded before changed nothing of a source
module _ (s : Sizes) (k j : Source) (agrees : Agreed) where
  pub site_known : (states : List BlockState) (o : Option ℕ) (t : Option Site) → j ≡ k → IsSiteAt s j agrees states o t
      → IsSiteAt s k agrees states o t
  site_known states o t same h = subst (λ (k : Source). IsSiteAt s k agrees states o t) same h

  pub holders_known : (av : Avoided) (seen : Seen) (o : Option Holders) → j ≡ k → AreHoldersOf s j agrees av seen o
      → AreHoldersOf s k agrees av seen o
  holders_known av seen o same h = subst (λ (k : Source). AreHoldersOf s k agrees av seen o) same h
