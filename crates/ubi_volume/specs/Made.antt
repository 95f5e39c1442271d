-- Why volumes have no meaning together, or which meaning they have.
use Rattle.std.specs.Prelude.{◌≡◌, ℕ, ◌+◌, ◌<◌, ◌≤◌, ◌⊎◌, not, List, [], map, Some, slice_get, sum_by, unwrap_or}
use Rattle.std.specs.FinMap.{FinMap, get, from_entries, retain_keys}
use Rattle.std.specs.Ordering.{nat_cmp}
use Rattle.ubi_media.specs.Fields.{is_blank}
use Rattle.ubi_media.specs.Geometry.{Sizes, slots}
use Rattle.ubi_media.specs.Record.{rec_fault}
use Rattle.ubi_volume.specs.Meant.{Meant, Fits}
use Rattle.ubi_volume.specs.declared.content.Content.{Content}
use Rattle.ubi_volume.specs.declared.content.Content.TheVariants as content
use Rattle.ubi_volume.specs.declared.content.Volume.{Volume}
use Rattle.ubi_volume.specs.declared.errors.MeaningCause.{MeaningCause}
use Rattle.ubi_volume.specs.declared.errors.MeaningCause.TheVariants as cause

-- volumes, each with its number
abbrev pub Items : Type 0
Items = List (ℕ × Volume)

-- the item at a place
abbrev pub IsItem : Items → ℕ → ℕ × Volume → Type 0
IsItem items i e = slice_get items i ≡ Some e

-- the cause applies
abbrev pub Stands : Sizes → Items → MeaningCause → Type 0
Stands s items (cause.IdRange i) = (e : ℕ × Volume) × IsItem items i e × (slots s ≤ e.0)
Stands s items (cause.SameId i) =
    (j : ℕ) × (e : ℕ × Volume) × (d : ℕ × Volume) × IsItem items i e × IsItem items j d × (j < i) × (d.0 ≡ e.0)
Stands s items (cause.Record i fault) = (e : ℕ × Volume) × IsItem items i e × (rec_fault s e.1.entry ≡ Some fault)
Stands s items (cause.SameName i j) =
    (e : ℕ × Volume) × (d : ℕ × Volume) × IsItem items i e × IsItem items j d × (j < i)
    × (d.1.entry.name ≡ e.1.entry.name)
Stands s items cause.NoSpace = s.pebs < 2 + sum_by (λ e. e.1.entry.reserved) items
Stands s items (cause.ContentRange i) =
    (e : ℕ × Volume) × IsItem items i e × (Fits s e.1.entry e.1.content → ⊥)

-- the place of a cause among the causes
abbrev pub cause_rank : MeaningCause → ℕ
cause_rank (cause.IdRange _) = 1
cause_rank (cause.SameId _) = 2
cause_rank (cause.Record _ _) = 3
cause_rank (cause.SameName _ _) = 4
cause_rank cause.NoSpace = 5
cause_rank (cause.ContentRange _) = 6

-- the item of a cause
abbrev pub item : MeaningCause → ℕ
item (cause.IdRange i) = i
item (cause.SameId i) = i
item (cause.Record i _) = i
item (cause.SameName i _) = i
item cause.NoSpace = 0
item (cause.ContentRange i) = i

-- c is tried before d
abbrev pub IsBefore : MeaningCause → MeaningCause → Type 0
IsBefore c d = (cause_rank c < cause_rank d) ⊎ ((cause_rank c ≡ cause_rank d) × (item c < item d))

-- the first cause that applies
pub record IsFirstMade (s : Sizes) (items : Items) (c : MeaningCause) : Type 0 where
  pub stands : Stands s items c
  pub first : (d : MeaningCause) → IsBefore d c → Stands s items d → ⊥

-- no cause applies
abbrev pub NoCause : Sizes → Items → Type 0
NoCause s items = (c : MeaningCause) → Stands s items c → ⊥

-- LEBs without those that are 0xFF throughout
abbrev pub lebs_without_blank : FinMap nat_cmp (List ℕ) → FinMap nat_cmp (List ℕ)
lebs_without_blank lebs = retain_keys lebs (λ lnum. not (is_blank (unwrap_or (get lebs lnum) [])))

-- a content without the LEBs that are 0xFF throughout
abbrev pub without_blank : Content → Content
without_blank (content.Dynamic lebs) = content.Dynamic (lebs_without_blank lebs)
without_blank other = other

-- an item without the LEBs that are 0xFF throughout
abbrev pub item_without_blank : ℕ × Volume → ℕ × Volume
item_without_blank e = (e.0, record { entry = e.1.entry; content = without_blank e.1.content })

-- the meaning of the volumes, with an image sequence number
abbrev pub meaning_of : Sizes → ℕ → Items → Meant
meaning_of s seq items =
    record { sizes = s; image_seq = seq; volumes = from_entries (map item_without_blank items) }
