-- If nothing is avoided, a plan that avoids it is one that doesn't.
use Rattle.ubi_change.proofs.Prelude.{◌≡◌, ℕ, List, subst, None, Some, Image, of_blocks, AttachValue, IsFrugal, plan_of, IsChangeRefusal, IsChangeRefusalAvoiding, IsFrugalOf, IsFrugalAvoiding, IsThePlan, IsPlanAvoiding, first_cause, rename_plan, IsFrugalRename, IsFrugalRenameOf, IsFrugalRenameAvoiding, IsTheRename, IsRenameRefusal, IsRenameRefusalAvoiding, IsRenameAvoiding, IsFirstCause, MayBeNamed, nothing, avoiding, ChangeRefusal, RenameRefusal, Step}
use Rattle.ubi_change.specs.declared.errors.ChangeRefusal.TheVariants as change
use Rattle.ubi_change.specs.declared.errors.RenameRefusal.TheVariants as rename
use Rattle.ubi_change.proofs.PlanPremises.{avoiding_nothing}

-- a fact of what a plan sees
as_is : (fact : AttachValue → Type 0) (a : AttachValue) → fact (avoiding nothing a) → fact a
as_is fact a h = subst fact (avoiding_nothing a) h

module _ (image : Image) (id lnum : ℕ) (new : List ℕ) where
  pub plan_nothing : (steps : List Step) → IsPlanAvoiding image nothing id lnum new steps → IsThePlan image id lnum new steps
  plan_nothing steps h = record {
    from = h.from;
    attached = h.attached;
    allowed = as_is (λ a. of_blocks first_cause image a id lnum new ≡ None) h.from h.allowed;
    volume = h.volume;
    there = h.there;
    plan = as_is (λ a. steps ≡ of_blocks plan_of image a h.volume.entry id lnum new) h.from h.plan;
  }

  pub frugal_nothing : (steps : List Step) → IsFrugalAvoiding image nothing id lnum new steps → IsFrugalOf image id lnum new steps
  frugal_nothing steps h = (h.0, h.1, as_is (λ a. of_blocks IsFrugal image a id lnum new steps) h.0 h.2)

  abbrev Causes : ChangeRefusal → AttachValue → Type 0
  Causes c a = of_blocks first_cause image a id lnum new ≡ Some c

  pub refusal_nothing : (c : ChangeRefusal) → IsChangeRefusalAvoiding image nothing id lnum new c → IsChangeRefusal image id lnum new c
  refusal_nothing change.Memory h = tt
  refusal_nothing (change.Attach x) h = h
  refusal_nothing change.NoVolume h = (h.0, h.1, as_is (Causes change.NoVolume) h.0 h.2)
  refusal_nothing change.StaticVolume h = (h.0, h.1, as_is (Causes change.StaticVolume) h.0 h.2)
  refusal_nothing change.Updating h = (h.0, h.1, as_is (Causes change.Updating) h.0 h.2)
  refusal_nothing change.OutOfRange h = (h.0, h.1, as_is (Causes change.OutOfRange) h.0 h.2)
  refusal_nothing change.BadLength h = (h.0, h.1, as_is (Causes change.BadLength) h.0 h.2)
  refusal_nothing (change.WeakCheck k) h = (h.0, h.1, as_is (Causes (change.WeakCheck k)) h.0 h.2)
  refusal_nothing change.Exhausted h = (h.0, h.1, as_is (Causes change.Exhausted) h.0 h.2)
  refusal_nothing change.NoFree h = (h.0, h.1, as_is (Causes change.NoFree) h.0 h.2)

module _ (image : Image) (id : ℕ) (name : List ℕ) where
  pub rename_nothing : (steps : List Step) → IsRenameAvoiding image nothing id name steps → IsTheRename image id name steps
  rename_nothing steps h = record {
    from = h.from;
    attached = h.attached;
    allowed = as_is (λ a. of_blocks MayBeNamed image a id name) h.from h.allowed;
    plan = as_is (λ a. steps ≡ of_blocks rename_plan image a id name) h.from h.plan;
  }

  pub frugal_rename_nothing : (steps : List Step) → IsFrugalRenameAvoiding image nothing id name steps → IsFrugalRenameOf image id name steps
  frugal_rename_nothing steps h = (h.0, h.1, as_is (λ a. of_blocks IsFrugalRename image a id name steps) h.0 h.2)

  abbrev Stops : RenameRefusal → AttachValue → Type 0
  Stops c a = of_blocks IsFirstCause image a id name c

  pub rename_refusal_nothing : (c : RenameRefusal) → IsRenameRefusalAvoiding image nothing id name c → IsRenameRefusal image id name c
  rename_refusal_nothing rename.Memory h = tt
  rename_refusal_nothing (rename.Attach x) h = h
  rename_refusal_nothing rename.NoVolume h = (h.0, h.1, as_is (Stops rename.NoVolume) h.0 h.2)
  rename_refusal_nothing rename.BadName h = (h.0, h.1, as_is (Stops rename.BadName) h.0 h.2)
  rename_refusal_nothing (rename.SameName slot) h = (h.0, h.1, as_is (Stops (rename.SameName slot)) h.0 h.2)
  rename_refusal_nothing rename.NeedsRepair h = (h.0, h.1, as_is (Stops rename.NeedsRepair) h.0 h.2)
  rename_refusal_nothing (rename.WeakCheck k) h = (h.0, h.1, as_is (Stops (rename.WeakCheck k)) h.0 h.2)
  rename_refusal_nothing rename.Exhausted h = (h.0, h.1, as_is (Stops rename.Exhausted) h.0 h.2)
  rename_refusal_nothing rename.NoFree h = (h.0, h.1, as_is (Stops rename.NoFree) h.0 h.2)
