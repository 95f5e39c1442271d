-- What private functions find on the way to the plan of a rename, and the eraseblocks that hold the copies of the volume table.
use Rattle.std.specs.Prelude.{◌≡◌, ℕ, ◌==◌, if◌then◌else◌, List, Option, Some, None, IfSome}
use Rattle.std.specs.FinMap.{get}
use Rattle.ubi_media.specs.Geometry.{Sizes}
use Rattle.ubi_scan.specs.Members.{layout}
use Rattle.ubi_scan.specs.Source.{Agreed, Source, WhereHeld, blocks_in, blocks_of}
use Rattle.ubi_table.specs.Records.{Records}
use Rattle.ubi_volume.specs.Survey.{Seen}
use Rattle.ubi_change.specs.RenameRefused.{BothGood}
use Rattle.ubi_change.specs.Avoided.{Avoided, states_avoiding}
use Rattle.ubi_change.specs.Sites.{BothFit}
use Rattle.ubi_change.specs.UpdateRefused.{StopsRenames}
use Rattle.ubi_change.specs.inner.Sites.{site_at}
use Rattle.ubi_change.specs.declared.copies.Holders.{Holders}
use Rattle.ubi_change.specs.declared.errors.EditFault.TheVariants as fault
use Rattle.ubi_change.specs.declared.errors.PlanError.{PlanError}
use Rattle.ubi_change.specs.declared.errors.PlanError.TheVariants as plan
use Rattle.ubi_change.specs.declared.errors.RenameRefusal.{RenameRefusal}
use Rattle.ubi_change.specs.declared.errors.RenameRefusal.TheVariants as refusal
use Rattle.ubi_change.specs.declared.errors.UpdateError.{UpdateError}
use Rattle.ubi_change.specs.declared.errors.UpdateError.TheVariants as error
use Rattle.ubi_change.specs.declared.errors.UpdateRefusal.{UpdateRefusal}
use Rattle.ubi_change.specs.declared.errors.UpdateRefusal.TheVariants as cause

-- the eraseblocks that hold the copies of these eraseblocks, both of which are good; there are none if they aren't
abbrev pub AreHolders : Sizes → List (List ℕ) → Avoided → Seen → Option Holders → Type 0
AreHolders s bs av seen None = (t : Records) → BothGood s bs t → ⊥
AreHolders s bs av seen (Some two) =
    ((t : Records) × BothGood s bs t)
    × ((p : ℕ) × (get seen.scan.winners (layout, 0) ≡ Some p) × (two.first ≡ site_at s bs (states_avoiding av seen.states) p))
    × ((p : ℕ) × (get seen.scan.winners (layout, 1) ≡ Some p) × (two.second ≡ site_at s bs (states_avoiding av seen.states) p))

-- the eraseblocks of a source that hold the copies: they lie in it, and hold the copies of whatever it may hold
pub record AreHoldersOf (s : Sizes) (k : Source) (agrees : Agreed) (av : Avoided) (seen : Seen) (o : Option Holders) : Type 0 where
  pub fits : IfSome o (BothFit (blocks_in s k))
  pub held : WhereHeld agrees (λ bytes. AreHolders s (blocks_of s bytes) av seen o)

-- why an edit that is a rename has no plan
abbrev pub StopsRename : UpdateError → Type 0
StopsRename (error.Refused c) = StopsRenames c
StopsRename (error.Read p) = Unit {0}
StopsRename (error.NotBlank p) = Unit {0}
StopsRename _ = ⊥

-- what a cause against the edit says about the rename: of two volumes that would have one name it tells the other
abbrev pub rename_cause : ℕ → UpdateRefusal → RenameRefusal
rename_cause id (cause.Attach c) = refusal.Attach c
rename_cause id (cause.Edit i fault.NoVolume) = refusal.NoVolume
rename_cause id (cause.Edit i _) = refusal.BadName
rename_cause id (cause.SameName i j) = refusal.SameName (if i == id then j else i)
rename_cause id cause.NeedsRepair = refusal.NeedsRepair
rename_cause id (cause.WeakCheck k) = refusal.WeakCheck k
rename_cause id cause.Exhausted = refusal.Exhausted
rename_cause id (cause.NoFree n k) = refusal.NoFree
rename_cause id _ = refusal.Memory

-- what the error of the edit says about the rename
abbrev pub rename_error : ℕ → UpdateError → PlanError RenameRefusal
rename_error id (error.Refused c) = plan.Refused (rename_cause id c)
rename_error id (error.Read p) = plan.Read p
rename_error id (error.NotBlank p) = plan.NotBlank p
rename_error id _ = plan.Refused refusal.Memory
