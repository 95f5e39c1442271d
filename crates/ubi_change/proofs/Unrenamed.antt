-- Why the rename of bytes in memory isn't planned.
use Rattle.ubi_change.proofs.Prelude.{◌≡◌, ℕ, List, length, subst, Sizes, IsWholeSize, image_of, of_blocks, Narrows, WhereHeld, holds, memory, still, refused_in_memory, IsRenameError, IsRenameRefusal, IsRenameRefusalAvoiding, ReadBlank, Avoided, nothing, PlanError, RenameRefusal}
use Rattle.ubi_change.specs.declared.errors.PlanError.TheVariants as error
use Rattle.ubi_change.specs.declared.errors.RenameRefusal.TheVariants as refusal
use Rattle.ubi_change.proofs.NothingAvoided.{rename_refusal_nothing}

-- why the rename of bytes in memory isn't planned
module _ (s : Sizes) (image left : List ℕ) (narrows : Narrows (holds image) (holds left)) (av : Avoided) (id : ℕ) (name : List ℕ) where
  stands : (c : RenameRefusal)
      → IsWholeSize s (length image) × WhereHeld (holds left) (λ bytes. of_blocks ReadBlank (image_of s bytes) av × IsRenameRefusalAvoiding (image_of s bytes) av id name c)
      → IsRenameRefusalAvoiding (image_of s image) av id name c
  stands c h = (h.1 image (still image left narrows)).1

  pub by_cause : (c : RenameRefusal) → IsRenameError s (memory image) (holds left) av id name (error.Refused c)
      → IsRenameRefusalAvoiding (image_of s image) av id name c
  by_cause refusal.Memory h = tt
  by_cause (refusal.Attach x) h = refused_in_memory s image left x narrows h
  by_cause refusal.NoVolume h = stands refusal.NoVolume h
  by_cause refusal.BadName h = stands refusal.BadName h
  by_cause (refusal.SameName slot) h = stands (refusal.SameName slot) h
  by_cause refusal.NeedsRepair h = stands refusal.NeedsRepair h
  by_cause (refusal.WeakCheck n) h = stands (refusal.WeakCheck n) h
  by_cause refusal.Exhausted h = stands refusal.Exhausted h
  by_cause refusal.NoFree h = stands refusal.NoFree h

pub error_in_memory : (s : Sizes) (bytes old left : List ℕ) → old ≡ bytes → Narrows (holds old) (holds left) → (id : ℕ) (name : List ℕ)
    → (e : PlanError RenameRefusal) (c : RenameRefusal) → e ≡ error.Refused c
    → IsRenameError s (memory old) (holds left) nothing id name e → IsRenameRefusal (image_of s bytes) id name c
error_in_memory s bytes old left same narrows id name e c is h =
    subst (λ (b : List ℕ). IsRenameRefusal (image_of s b) id name c) same
    (rename_refusal_nothing (image_of s old) id name c
    (by_cause s old left narrows nothing id name c (subst (IsRenameError s (memory old) (holds left) nothing id name) is h)))
