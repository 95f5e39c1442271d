-- Why an edit isn't made, and the records that edits leave.
use Rattle.std.specs.Prelude.{ℕ, ◌+◌, ◌==◌, ◌&&◌, ◌||◌, Bool, true, false, not, min, nat_lt, List, [], ◌∷◌, find, is_some, Option, Some, None, option_map}
use Rattle.std.specs.Bool.{then_some}
use Rattle.std.specs.FinMap.{get}
use Rattle.std.specs.Option.{option_map_or, option_or}
use Rattle.ubi_media.specs.Geometry.{Sizes}
use Rattle.ubi_media.specs.Name.{is_name}
use Rattle.ubi_media.specs.Record.{rec_fault}
use Rattle.ubi_media.specs.declared.record.VolumeRecord.{VolumeRecord}
use Rattle.ubi_scan.specs.Members.{member}
use Rattle.ubi_table.specs.Drafted.{with_record, without_record}
use Rattle.ubi_table.specs.Named.{with_name}
use Rattle.ubi_table.specs.Records.{Records}
use Rattle.ubi_laid.specs.Parts.{is_long_part}
use Rattle.ubi_volume.specs.Meant.{Meant}
use Rattle.ubi_volume.specs.declared.content.Content.{Content}
use Rattle.ubi_volume.specs.declared.content.Content.TheVariants as content
use Rattle.ubi_change.specs.EditsAsked.{part_in}
use Rattle.ubi_change.specs.Listed.{is_hidden}
use Rattle.ubi_change.specs.declared.edit.Edit.{Edit}
use Rattle.ubi_change.specs.declared.edit.Edit.TheVariants as edit
use Rattle.ubi_change.specs.declared.edit.NewVolume.{NewVolume}
use Rattle.ubi_change.specs.declared.errors.EditFault.{EditFault}
use Rattle.ubi_change.specs.declared.errors.EditFault.TheVariants as fault

-- a record that reserves another number of eraseblocks
abbrev pub with_size : VolumeRecord → ℕ → VolumeRecord
with_size r n = record r { reserved = n }

-- records, one of which is changed, if it is there
abbrev pub with_changed : Records → ℕ → (VolumeRecord → VolumeRecord) → Records
with_changed t id f = option_map_or (λ r. with_record t id (f r)) (get t.of id) t

-- what an edit leaves of records; a volume that is written isn't among them yet
abbrev pub records_left : Records → Edit → Records
records_left t (edit.Rename id name) = with_changed t id (λ r. with_name r name)
records_left t (edit.Resize id n) = with_changed t id (λ r. with_size r n)
records_left t (edit.Remove id) = without_record t id
records_left t (edit.Replace id v) = without_record t id
records_left t (edit.Create v) = t

-- what edits leave, one after the other
abbrev pub all_records_left : Records → List Edit → Records
all_records_left t [] = t
all_records_left t (e ∷ es) = all_records_left (records_left t e) es

-- whether an eraseblock is a member of a LEB of a volume, at or above a number
abbrev pub is_at_least : Sizes → ℕ → ℕ → List ℕ → Bool
is_at_least s vol from b = option_map_or (λ h. (h.vol_id == vol) && not (nat_lt h.lnum from)) (member s b) false

-- whether some eraseblock is
abbrev pub is_used : Sizes → List (List ℕ) → ℕ → ℕ → Bool
is_used s bs vol from = is_some (find (is_at_least s vol from) bs)

-- whether some eraseblock is a member of such a LEB, or it is hidden
abbrev pub is_taken : Sizes → List (List ℕ) → List ℕ → ℕ → ℕ → Bool
is_taken s bs ends vol from = is_used s bs vol from || is_hidden ends vol from

-- whether a content is neither updating nor damaged
abbrev pub is_whole : Content → Bool
is_whole content.Updating = false
is_whole content.Damaged = false
is_whole _ = true

-- the volume that gets another size
abbrev pub sized_by : Edit → Option ℕ
sized_by (edit.Resize id n) = Some id
sized_by _ = None

-- whether the volume that gets another size reads whole, as far as there is one
abbrev pub reads_whole : Meant → Edit → Bool
reads_whole m e = option_map_or (λ id. option_map_or (λ v. is_whole v.content) (get m.volumes id) true) (sized_by e) true

-- whether a new volume has more bytes than it holds
abbrev pub is_too_large : Sizes → NewVolume → Bool
is_too_large s v = is_long_part s (part_in v 0)

-- why a volume isn't written
abbrev pub writing_fault : Sizes → NewVolume → Option EditFault
writing_fault s v = option_or (option_map fault.Record (rec_fault s (part_in v 0).entry)) (then_some (is_too_large s v) fault.TooLarge)

-- why a volume with this record doesn't get another size: by whether it reads whole, and from which number on its LEBs are taken
abbrev pub sizing_fault : (ℕ → ℕ → Bool) → Bool → ℕ → VolumeRecord → ℕ → Option EditFault
sizing_fault used whole id r n =
    option_or (then_some (not (n == r.reserved) && not whole) fault.NotWhole)
    (then_some (not (n == r.reserved) && used id (min r.reserved n)) fault.InUse)

-- why an edit of a volume isn't made: it isn't there, or what its record says
abbrev pub fault_on : Records → ℕ → (VolumeRecord → Option EditFault) → Option EditFault
fault_on t id f = option_map_or f (get t.of id) (Some fault.NoVolume)

-- why an edit isn't made, by the records that the edits before leave
abbrev pub fault_of : Sizes → (ℕ → ℕ → Bool) → Bool → Records → Edit → Option EditFault
fault_of s used whole t (edit.Rename id name) = fault_on t id (λ r. then_some (not (is_name name)) fault.BadName)
fault_of s used whole t (edit.Resize id n) =
    fault_on t id (λ r. option_or (option_map fault.Record (rec_fault s (with_size r n))) (sizing_fault used whole id r n))
fault_of s used whole t (edit.Remove id) = fault_on t id (λ r. None)
fault_of s used whole t (edit.Replace id v) = fault_on t id (λ r. writing_fault s v)
fault_of s used whole t (edit.Create v) = writing_fault s v

-- the first edit that isn't made, and why: its number, counted from i, by whether the volume of each reads whole
abbrev pub first_edit_fault : Sizes → (ℕ → ℕ → Bool) → (Edit → Bool) → ℕ → Records → List Edit → Option (ℕ × EditFault)
first_edit_fault s used whole i t [] = None
first_edit_fault s used whole i t (e ∷ es) =
    option_map_or (λ f. Some (i, f)) (fault_of s used (whole e) t e) (first_edit_fault s used whole (i + 1) (records_left t e) es)
