-- Edits of volumes, and a meaning after them.
use Rattle.std.specs.Prelude.{ℕ, ◌==◌, ◌&&◌, ◌||◌, Bool, false, not, List, [], ◌∷◌, filter, filter_map, find, is_some, Option, Some, None}
use Rattle.std.specs.FinMap.{empty, get, insert, remove}
use Rattle.std.specs.List.{range_with_len}
use Rattle.std.specs.Option.{option_map_or}
use Rattle.ubi_media.specs.Geometry.{Sizes, slots}
use Rattle.ubi_scan.specs.Members.{member}
use Rattle.ubi_volume.specs.Meant.{Meant, VolumeMap}
use Rattle.ubi_volume.specs.declared.content.Volume.{Volume}
use Rattle.ubi_change.specs.Listed.{is_hidden}
use Rattle.ubi_change.specs.Renamed.{volume_named}

-- an edit: a volume gets another name, or reserves another number of eraseblocks, or is removed; or a volume is written,
-- in the place of another or beside the others
pub data Edit : Type 0 where
  Rename : ℕ → List ℕ → Edit
  Resize : ℕ → ℕ → Edit
  Remove : ℕ → Edit
  Replace : ℕ → Volume → Edit
  Create : Volume → Edit

-- the volume that an edit is about, if it has to be there
abbrev pub edits_volume : Edit → Option ℕ
edits_volume (Rename id name) = Some id
edits_volume (Resize id n) = Some id
edits_volume (Remove id) = Some id
edits_volume (Replace id v) = Some id
edits_volume (Create v) = None

-- the volume that an edit writes
abbrev pub written_by : Edit → Option Volume
written_by (Replace id v) = Some v
written_by (Create v) = Some v
written_by _ = None

-- the volumes that edits write, in order
abbrev pub written : List Edit → List Volume
written es = filter_map written_by es

-- a volume that reserves another number of eraseblocks
abbrev pub volume_sized : Volume → ℕ → Volume
volume_sized v n = record v { entry = record v.entry { reserved = n } }

-- volumes, one of which is changed, if it is there
abbrev pub with_volume : VolumeMap → ℕ → (Volume → Volume) → VolumeMap
with_volume vs id f = option_map_or (λ v. insert vs id (f v)) (get vs id) vs

-- what is left of volumes by an edit
abbrev pub left_by : VolumeMap → Edit → VolumeMap
left_by vs (Rename id name) = with_volume vs id (λ v. volume_named v name)
left_by vs (Resize id n) = with_volume vs id (λ v. volume_sized v n)
left_by vs (Remove id) = remove vs id
left_by vs (Replace id v) = remove vs id
left_by vs (Create v) = vs

-- what is left by edits, one after the other
abbrev pub left_by_all : VolumeMap → List Edit → VolumeMap
left_by_all vs [] = vs
left_by_all vs (e ∷ es) = left_by_all (left_by vs e) es

-- volumes in the first of some slots, and others
abbrev pub placed : VolumeMap → List ℕ → List Volume → VolumeMap
placed vs (j ∷ js) (v ∷ new) = insert (placed vs js new) j v
placed vs _ _ = vs

-- the volumes that edits write, each in one of these slots
abbrev pub made : List ℕ → List Edit → VolumeMap
made js es = placed empty js (written es)

-- m after edits, whose volumes are written in these slots
abbrev pub edited : Meant → List ℕ → List Edit → Meant
edited m js es = record m { volumes = placed (left_by_all m.volumes es) js (written es) }

module _ (s : Sizes) (bs : List (List ℕ)) where
  -- whether an eraseblock is a member of a volume
  abbrev pub is_of : ℕ → List ℕ → Bool
  is_of vol b = option_map_or (λ h. h.vol_id == vol) (member s b) false

  -- whether a slot has no volume, no eraseblock is a member of one with its number, and no LEB of such a one is hidden, by the ends of
  -- what is
  abbrev pub is_fresh : List ℕ → Meant → ℕ → Bool
  is_fresh ends m j = not (is_some (get m.volumes j)) && not (is_some (find (is_of j) bs) || is_hidden ends j 0)

  -- the fresh slots, in ascending order
  abbrev pub fresh : List ℕ → Meant → List ℕ
  fresh ends m = filter (is_fresh ends m) (range_with_len 0 (slots s))

  -- what the eraseblocks mean after edits of what they mean
  abbrev pub edited_in : List ℕ → Meant → List Edit → Meant
  edited_in ends m es = edited m (fresh ends m) es

  -- the volumes that are written
  abbrev pub made_in : List ℕ → Meant → List Edit → VolumeMap
  made_in ends m es = made (fresh ends m) es
