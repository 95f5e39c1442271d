-- What private functions find while edits are judged.
use Rattle.std.specs.Prelude.{◌≡◌, ℕ, ◌||◌, Bool, List, Option, Some, is_some, map}
use Rattle.std.specs.FinMap.{FinMap}
use Rattle.ubi_media.specs.Geometry.{Sizes}
use Rattle.ubi_scan.specs.Scan.{IsNextWinner, leb_cmp}
use Rattle.ubi_table.specs.Records.{Records}
use Rattle.ubi_change.specs.EditFaults.{first_edit_fault}
use Rattle.ubi_change.specs.Listed.{is_hidden}
use Rattle.ubi_change.specs.declared.edit.Edit.{Edit}
use Rattle.ubi_change.specs.declared.errors.EditFault.{EditFault}
use Rattle.ubi_change.specs.declared.errors.UpdateRefusal.{UpdateRefusal}
use Rattle.ubi_change.specs.declared.errors.UpdateRefusal.TheVariants as refusal

-- from which number on the LEBs of each volume are taken, by the winners and the ends of what is hidden
abbrev pub TellsUsed : FinMap leb_cmp ℕ → List ℕ → (ℕ → ℕ → Bool) → Type 0
TellsUsed winners ends used = (vol from : ℕ) (next : Option (ℕ × ℕ)) → IsNextWinner winners vol from next
    → (is_some next || is_hidden ends vol from) ≡ used vol from

-- the first fault of edits, by the winners, what is hidden, and what is known of each volume that gets another size
abbrev pub IsFirstEditFault : Sizes → FinMap leb_cmp ℕ → List ℕ → List Bool → Records → List Edit → Option (ℕ × EditFault) → Type 0
IsFirstEditFault s winners ends wholes t es first = (used : ℕ → ℕ → Bool) (whole : Edit → Bool) → TellsUsed winners ends used
    → wholes ≡ map whole es → first_edit_fault s used whole 0 t es ≡ first

-- why edits aren't made: one of them has a fault; or memory ran out
abbrev pub IsUndrafted : Sizes → FinMap leb_cmp ℕ → List ℕ → List Bool → Records → List Edit → UpdateRefusal → Type 0
IsUndrafted s winners ends wholes t es refusal.Memory = Unit {0}
IsUndrafted s winners ends wholes t es (refusal.Edit i f) = IsFirstEditFault s winners ends wholes t es (Some (i, f))
IsUndrafted s winners ends wholes t es _ = ⊥
