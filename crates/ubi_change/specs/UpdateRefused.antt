-- Why edits aren't planned: the causes in their order.
use Rattle.std.specs.Prelude.{◌≡◌, ℕ, ◌+◌, ◌<◌, Bool, List, length, Some}
use Rattle.std.specs.FinMap.{entries}
use Rattle.ubi_media.specs.Geometry.{Sizes}
use Rattle.ubi_table.specs.Records.{Records, space, twice}
use Rattle.ubi_volume.specs.Attached.{AttachValue}
use Rattle.ubi_volume.specs.Meant.{records_of}
use Rattle.ubi_change.specs.CommitAllowed.{commit_needs}
use Rattle.ubi_change.specs.EditFaults.{first_edit_fault, is_taken, reads_whole}
use Rattle.ubi_change.specs.EditsAsked.{all_asked, news_of}
use Rattle.ubi_change.specs.Placed.{autoresized_twice, edited_parts, edited_records, free_slots}
use Rattle.ubi_change.specs.RenamePlan.{table_pages}
use Rattle.ubi_change.specs.RenameRefused.{BothGood}
use Rattle.ubi_change.specs.Takeable.{takeable}
use Rattle.ubi_change.specs.Weak.{weak_pages}
use Rattle.ubi_laid.specs.declared.part.Part.{Part}
use Rattle.ubi_change.specs.declared.edit.Edit.{Edit}
use Rattle.ubi_change.specs.declared.edit.Edit.TheVariants as edit
use Rattle.ubi_change.specs.declared.errors.EditFault.{EditFault}
use Rattle.ubi_change.specs.declared.errors.EditFault.TheVariants as fault
use Rattle.ubi_change.specs.declared.errors.UpdateRefusal.{UpdateRefusal}
use Rattle.ubi_change.specs.declared.errors.UpdateRefusal.TheVariants as refusal

-- the place of a cause in their order
abbrev pub update_rank : UpdateRefusal → ℕ
update_rank (refusal.Edit _ _) = 1
update_rank (refusal.SameName _ _) = 2
update_rank (refusal.NoSlot _ _) = 3
update_rank (refusal.NoSpace _ _) = 4
update_rank (refusal.Autoresize _ _) = 5
update_rank refusal.NeedsRepair = 6
update_rank (refusal.WeakCheck _) = 7
update_rank refusal.Exhausted = 8
update_rank (refusal.NoFree _ _) = 9
update_rank _ = 0

-- an edit that gives a volume another name
abbrev pub IsRename : Edit → Type 0
IsRename (edit.Rename id name) = Unit {0}
IsRename _ = ⊥

-- why such an edit isn't made
abbrev pub IsNamingFault : EditFault → Type 0
IsNamingFault fault.NoVolume = Unit {0}
IsNamingFault fault.BadName = Unit {0}
IsNamingFault _ = ⊥

-- what can stop such edits: they write no volume, and no volume reserves more
abbrev pub StopsRenames : UpdateRefusal → Type 0
StopsRenames (refusal.Edit i f) = IsNamingFault f
StopsRenames (refusal.NoSlot n k) = ⊥
StopsRenames (refusal.NoSpace n k) = ⊥
StopsRenames (refusal.Autoresize i j) = ⊥
StopsRenames _ = Unit {0}

module _ (s : Sizes) (used : ℕ → ℕ → Bool) (whole : Edit → Bool) (t : Records) (room : ℕ) (es : List Edit) where
  -- a cause that the records and the members say applies: from which number on the LEBs of each volume are taken, whether the
  -- volume that an edit gives another size reads whole, and how many eraseblocks may be touched
  abbrev pub RecordsStand : UpdateRefusal → Type 0
  RecordsStand (refusal.Edit i f) = first_edit_fault s used whole 0 t es ≡ Some (i, f)
  RecordsStand (refusal.SameName i j) = twice (entries (edited_records used t es).of) ≡ Some (i, j)
  RecordsStand (refusal.NoSlot n k) = (n ≡ length (news_of es)) × (k ≡ length (free_slots used t)) × (k < n)
  RecordsStand (refusal.NoSpace n k) =
      (n ≡ space (edited_records used t es) + 2) × (k ≡ room) × (space t < space (edited_records used t es)) × (k < n)
  RecordsStand (refusal.Autoresize i j) = autoresized_twice (edited_parts used t es) (entries (edited_records used t es).of) ≡ Some (i, j)
  RecordsStand _ = ⊥

-- the volumes that edits of an attached image write, each in its slot
abbrev pub asked_parts : Sizes → List (List ℕ) → List ℕ → AttachValue → List Edit → List Part
asked_parts s bs ends a es = edited_parts (is_taken s bs ends) (records_of a.meaning) es

-- the records that edits make of an attached image
abbrev pub asked_records : Sizes → List (List ℕ) → List ℕ → AttachValue → List Edit → Records
asked_records s bs ends a es = edited_records (is_taken s bs ends) (records_of a.meaning) es

module _ (s : Sizes) (bs : List (List ℕ)) (ends : List ℕ) (a : AttachValue) (contents : List ℕ) (room : ℕ) (es : List Edit) where
  -- how many eraseblocks and sequence numbers they need, by the bytes of the source of contents
  abbrev asked_needs : ℕ
  asked_needs = commit_needs s bs ends a (all_asked s contents es)

  -- a cause applies, if so many eraseblocks may be touched
  abbrev pub UpdateStands : UpdateRefusal → Type 0
  UpdateStands refusal.NeedsRepair = (t : Records) → BothGood s bs t → ⊥
  UpdateStands (refusal.WeakCheck k) = weak_pages s (table_pages s (asked_records s bs ends a es)) ≡ Some k
  UpdateStands refusal.Exhausted = 0xFFFFFFFFFFFFFFFF < a.scan.top_sqnum + asked_needs
  UpdateStands (refusal.NoFree n k) = (n ≡ asked_needs) × (k ≡ length (takeable s bs a.states)) × (k < n)
  UpdateStands c = RecordsStand s (is_taken s bs ends) (reads_whole a.meaning) (records_of a.meaning) room es c
