-- The differences of two meanings of one geometry: a list, in the order in which they are printed.
use Rattle.std.specs.Prelude.{ℕ, ◌+◌, ◌==◌, Bool, true, false, not, List, [], ◌∷◌, ◌++◌, Option, None, Some, Result, Ok, if◌then◌else◌, filter, flat_map, length, map}
use Rattle.std.specs.FinMap.{get}
use Rattle.std.specs.List.{range_with_len}
use Rattle.ubi_media.specs.Fields.{same_bytes}
use Rattle.ubi_media.specs.Geometry.{Sizes, slots}
use Rattle.ubi_media.specs.Record.{usable}
use Rattle.ubi_media.specs.declared.record.VolumeRecord.{VolumeRecord}
use Rattle.ubi_media.specs.declared.vid.VolKind.{VolKind}
use Rattle.ubi_media.specs.declared.vid.VolKind.TheVariants as kind
use Rattle.ubi_volume.specs.Meant.{Meant}
use Rattle.ubi_volume.specs.Reading.{leb_read}
use Rattle.ubi_volume.specs.declared.content.Content.{Content}
use Rattle.ubi_volume.specs.declared.content.Content.TheVariants as content
use Rattle.ubi_volume.specs.declared.content.Volume.{Volume}
use Rattle.ubi_volume.specs.declared.errors.ReadError.{ReadError}
use Rattle.ubi_compare.specs.declared.difference.Condition.{Condition}
use Rattle.ubi_compare.specs.declared.difference.Condition.TheVariants as condition
use Rattle.ubi_compare.specs.declared.difference.Difference.{Difference}
use Rattle.ubi_compare.specs.declared.difference.Difference.TheVariants as difference
use Rattle.ubi_compare.specs.declared.difference.Side.TheVariants as side

-- a difference, unless two things are the same
abbrev pub unless : Bool → Difference → List Difference
unless same d = if same then [] else d ∷ []

-- whether two kinds are the same
abbrev pub same_kind : VolKind → VolKind → Bool
same_kind kind.Dynamic kind.Dynamic = true
same_kind kind.Static kind.Static = true
same_kind _ _ = false

-- the fields in which the records of a volume differ, except the update marker, which is part of whether the volume can be read
abbrev pub record_differences : ℕ → VolumeRecord → VolumeRecord → List Difference
record_differences id r q =
    unless (same_kind r.kind q.kind) (difference.Kind id r.kind q.kind)
    ++ unless (r.reserved == q.reserved) (difference.Reserved id r.reserved q.reserved)
    ++ unless (r.alignment == q.alignment) (difference.Alignment id r.alignment q.alignment)
    ++ unless (r.flags == q.flags) (difference.Flags id r.flags q.flags)
    ++ unless (same_bytes r.name q.name) (difference.Name id r.name q.name)

-- whether a volume can be read
abbrev pub condition_of : Content → Condition
condition_of content.Updating = condition.Updating
condition_of content.Damaged = condition.Damaged
condition_of (content.Static text) = condition.Whole
condition_of (content.Dynamic lebs) = condition.Whole

-- whether two conditions are the same
abbrev pub same_condition : Condition → Condition → Bool
same_condition condition.Updating condition.Updating = true
same_condition condition.Damaged condition.Damaged = true
same_condition condition.Whole condition.Whole = true
same_condition _ _ = false

-- two static volumes whose contents have different lengths
abbrev pub length_differences : ℕ → Content → Content → List Difference
length_differences id (content.Static t) (content.Static u) =
    unless (length t == length u) (difference.Bytes id (length t) (length u))
length_differences id _ _ = []

-- both can be read, and read differently
abbrev pub read_apart : Result (List ℕ) ReadError → Result (List ℕ) ReadError → Bool
read_apart (Ok t) (Ok u) = not (same_bytes t u)
read_apart _ _ = false

-- those of the first n LEBs that can be read on both sides and read differently
abbrev pub lebs_apart : Sizes → Volume → Volume → ℕ → List ℕ
lebs_apart s v w n =
    filter (λ lnum. read_apart (leb_read s v.entry lnum v.content) (leb_read s w.entry lnum w.content)) (range_with_len 0 n)

-- the ranges of consecutive numbers in an ascending list, each with its first and its last; one may have begun before
abbrev pub ranges_after : Option (ℕ × ℕ) → List ℕ → List (ℕ × ℕ)
ranges_after None [] = []
ranges_after (Some r) [] = r ∷ []
ranges_after None (n ∷ ns) = ranges_after (Some (n, n)) ns
ranges_after (Some r) (n ∷ ns) =
    if n == r.1 + 1 then ranges_after (Some (r.0, n)) ns else r ∷ ranges_after (Some (n, n)) ns

-- LEBs are compared if the volume uses the same number of bytes of each on both sides
abbrev pub leb_differences : Sizes → ℕ → Volume → Volume → List Difference
leb_differences s id v w =
    if usable s v.entry == usable s w.entry
    then map (λ (r : ℕ × ℕ). difference.Lebs id r.0 r.1) (ranges_after None (lebs_apart s v w v.entry.reserved))
    else []

-- the differences in what a volume reads
abbrev pub content_differences : Sizes → ℕ → Volume → Volume → List Difference
content_differences s id v w =
    unless (same_condition (condition_of v.content) (condition_of w.content))
    (difference.Condition id (condition_of v.content) (condition_of w.content))
    ++ length_differences id v.content w.content
    ++ leb_differences s id v w

-- the differences in what stands in a slot on either side
abbrev pub volume_differences : Sizes → ℕ → Option Volume → Option Volume → List Difference
volume_differences s id None None = []
volume_differences s id (Some v) None = difference.Only id side.Left ∷ []
volume_differences s id None (Some w) = difference.Only id side.Right ∷ []
volume_differences s id (Some v) (Some w) = record_differences id v.entry w.entry ++ content_differences s id v w

-- the differences of the image sequence numbers, and then those slot by slot
abbrev pub differences : Meant → Meant → List Difference
differences m n =
    unless (m.image_seq == n.image_seq) (difference.ImageSeq m.image_seq n.image_seq)
    ++ flat_map (λ id. volume_differences m.sizes id (get m.volumes id) (get n.volumes id)) (range_with_len 0 (slots m.sizes))
