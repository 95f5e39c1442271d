-- The edits that are asked for: the bytes of the volumes that they write lie in a source of contents.
use Rattle.std.specs.Prelude.{ℕ, ◌+◌, Bool, false, filter_map, List, map, nat_lt, Option, Some, None, position}
use Rattle.std.specs.Option.{option_map_or}
use Rattle.ubi_media.specs.Geometry.{Sizes}
use Rattle.ubi_volume.specs.Made.{item_without_blank}
use Rattle.ubi_volume.specs.declared.content.Volume.{Volume}
use Rattle.ubi_laid.specs.Parts.{item_of}
use Rattle.ubi_laid.specs.declared.part.Part.{Part}
use Rattle.ubi_change.specs.Edited as edited
use Rattle.ubi_change.specs.declared.edit.Edit.{Edit}
use Rattle.ubi_change.specs.declared.edit.Edit.TheVariants as edit
use Rattle.ubi_change.specs.declared.edit.NewVolume.{NewVolume}

-- a new volume in a slot, with the update marker clear
abbrev pub part_in : NewVolume → ℕ → Part
part_in v id = record { id = id; entry = record v.entry { marker = false }; start = v.start; len = v.len }

-- what a new volume is, by the bytes of the source of contents: LEBs that are 0xFF throughout are left out
abbrev pub volume_of : Sizes → List ℕ → NewVolume → Volume
volume_of s contents v = (item_without_blank (item_of s contents (part_in v 0))).1

-- the new volume of an edit
abbrev pub new_of : Edit → Option NewVolume
new_of (edit.Replace id v) = Some v
new_of (edit.Create v) = Some v
new_of _ = None

-- the new volumes of edits, in order
abbrev pub news_of : List Edit → List NewVolume
news_of es = filter_map new_of es

-- the edit of volumes that is asked for
abbrev pub asked : Sizes → List ℕ → Edit → edited.Edit
asked s contents (edit.Rename id name) = edited.Rename id name
asked s contents (edit.Resize id n) = edited.Resize id n
asked s contents (edit.Remove id) = edited.Remove id
asked s contents (edit.Replace id v) = edited.Replace id (volume_of s contents v)
asked s contents (edit.Create v) = edited.Create (volume_of s contents v)

-- all of them
abbrev pub all_asked : Sizes → List ℕ → List Edit → List edited.Edit
all_asked s contents es = map (asked s contents) es

-- whether the bytes of the volume that an edit writes end past a size
abbrev pub is_beyond : ℕ → Edit → Bool
is_beyond size e = option_map_or (λ v. nat_lt size (v.start + v.len)) (new_of e) false

-- the first edit for which they do: its number, counted from 0
abbrev pub first_beyond : ℕ → List Edit → Option ℕ
first_beyond size es = position (is_beyond size) es
