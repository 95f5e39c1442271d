-- In which slots new volumes are placed, and the records with theirs.
use Rattle.std.specs.Prelude.{ℕ, ◌&&◌, ◌==◌, Bool, not, if◌then◌else◌, List, [], ◌∷◌, bit_and, filter, find, is_some, Option, None, option_map}
use Rattle.std.specs.FinMap.{get}
use Rattle.std.specs.List.{list_any, range_with_len}
use Rattle.ubi_media.specs.Geometry.{slots}
use Rattle.ubi_media.specs.declared.record.VolumeRecord.{VolumeRecord}
use Rattle.ubi_laid.specs.declared.part.Part.{Part}
use Rattle.ubi_table.specs.Drafted.{with_record}
use Rattle.ubi_table.specs.Records.{Records}
use Rattle.ubi_change.specs.EditFaults.{all_records_left}
use Rattle.ubi_change.specs.EditsAsked.{news_of, part_in}
use Rattle.ubi_change.specs.declared.edit.Edit.{Edit}
use Rattle.ubi_change.specs.declared.edit.NewVolume.{NewVolume}

module _ (used : ℕ → ℕ → Bool) (t : Records) where
  -- whether a slot has no volume, and no LEB of one with its number is taken
  abbrev pub is_free : ℕ → Bool
  is_free j = not (is_some (get t.of j)) && not (used j 0)

  -- the free slots, in ascending order
  abbrev pub free_slots : List ℕ
  free_slots = filter is_free (range_with_len 0 (slots t.sizes))

-- the parts of new volumes in the first of some slots
abbrev pub parts_of : List ℕ → List NewVolume → List Part
parts_of (j ∷ js) (v ∷ vs) = part_in v j ∷ parts_of js vs
parts_of _ _ = []

-- records with those of parts
abbrev pub records_with : Records → List Part → Records
records_with t [] = t
records_with t (p ∷ ps) = with_record (records_with t ps) p.id p.entry

-- whether a volume grows to the size of the device
abbrev pub is_flagged : VolumeRecord → Bool
is_flagged r = not (bit_and r.flags 1 == 0)

-- the first of some entries whose volume does
abbrev pub first_flagged : List (ℕ × VolumeRecord) → Option (ℕ × VolumeRecord)
first_flagged es = find (λ e. is_flagged e.1) es

-- the numbers of the first two
abbrev pub flagged_twice : List (ℕ × VolumeRecord) → Option (ℕ × ℕ)
flagged_twice [] = None
flagged_twice (e ∷ es) = if is_flagged e.1 then option_map (λ next. (e.0, next.0)) (first_flagged es) else flagged_twice es

-- whether one of some parts has such a volume
abbrev pub is_any_flagged : List Part → Bool
is_any_flagged ps = list_any (λ p. is_flagged p.entry) ps

-- the first two of some entries whose volume does, if one of these parts does
abbrev pub autoresized_twice : List Part → List (ℕ × VolumeRecord) → Option (ℕ × ℕ)
autoresized_twice ps es = if is_any_flagged ps then flagged_twice es else None

module _ (used : ℕ → ℕ → Bool) (t : Records) (es : List Edit) where
  -- the volumes that edits write, each in a free slot, as far as there are as many
  abbrev pub edited_parts : List Part
  edited_parts = parts_of (free_slots used t) (news_of es)

  -- the records that edits make
  abbrev pub edited_records : Records
  edited_records = records_with (all_records_left t es) edited_parts
