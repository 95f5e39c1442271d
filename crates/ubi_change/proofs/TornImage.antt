-- What is left of eraseblocks if the power fails during a step is left of their image.
use Rattle.ubi_change.proofs.Prelude.{ℕ, List, inl, inr, subst, sym, IsGeometry, Image, of_blocks, AcceptsBlocks, AttachValue, Meant, AllFit, target, Step, AcceptsHarmed, AcceptsTorn, SurvivesHarm, SurvivesTears}
use Rattle.ubi_change.proofs.PlanPremises.{IsShown}
use Rattle.ubi_change.proofs.PlanSurvives.{torn_cut, torn_whole}

-- what holds of the eraseblocks holds of the image
module _ (image : Image) (g : IsGeometry image.sizes) (a : AttachValue) (att : IsShown image a) (m n : Meant)
    (steps : List Step) (at last : ℕ) (fit : of_blocks AllFit image steps) where
  pub image_torn : of_blocks SurvivesTears image m n steps at → AcceptsTorn image m n steps at
  image_torn tears k next t e size left c =
      let whole = torn_whole image g a att steps fit k (target next) t size in
      let cut = torn_cut image g a att steps fit k (target next) t size in
      elim (tears.each k next t e left c) [
        | inl y ↦ inl (y.0, record { whole = whole; accepted = subst (λ bs. AcceptsBlocks image.sizes bs m) (sym cut) y.1 })
        | inr y ↦ inr (y.0, record { whole = whole; accepted = subst (λ bs. AcceptsBlocks image.sizes bs n) (sym cut) y.1 })
      ]

  pub image_harmed : of_blocks SurvivesHarm image m n steps at last → AcceptsHarmed image m n steps at last
  image_harmed tears k next t e size left c =
      let whole = torn_whole image g a att steps fit k (target next) t size in
      let cut = torn_cut image g a att steps fit k (target next) t size in
      elim (tears.each k next t e left c) [
        | inl y ↦ inl (y.0, record { whole = whole; accepted = subst (λ bs. AcceptsBlocks image.sizes bs m) (sym cut) y.1 })
        | inr y ↦ inr (y.0, record { whole = whole; accepted = subst (λ bs. AcceptsBlocks image.sizes bs n) (sym cut) y.1 })
      ]
