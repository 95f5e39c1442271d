-- What is gathered of a volume, piece by piece.
use Rattle.std.specs.Prelude.{◌≡◌, ◌≢◌, ℕ, ◌<◌, List, All, IfSome, length, map}
use Rattle.std.specs.FinMap.{FinMap, get, entries}
use Rattle.std.specs.Ordering.{nat_cmp}
use Rattle.ubi_media.specs.Fields.{blank}
use Rattle.ubi_media.specs.Geometry.{Sizes}
use Rattle.ubi_media.specs.Record.{usable}
use Rattle.ubi_media.specs.declared.record.VolumeRecord.{VolumeRecord}
use Rattle.ubi_scan.specs.Source.{Agreed, WhereHeld, blocks_of}
use Rattle.ubi_volume.specs.Means.{LebReads, VolumeReads}
use Rattle.ubi_volume.specs.Meant.{Fits, KeepsNoBlank}
use Rattle.ubi_volume.specs.Reading.{leb_text}
use Rattle.ubi_volume.specs.declared.content.Content.{Content}
use Rattle.ubi_volume.specs.declared.content.Volume.{Volume}

-- what a volume with this record reads, as a meaning keeps it
pub record ContentIs (s : Sizes) (bs : List (List ℕ)) (vol : ℕ) (r : VolumeRecord) (c : Content) : Type 0 where
  pub reads : VolumeReads s bs vol r c
  pub fits : Fits s r c
  pub kept : KeepsNoBlank s r c

-- LEBs below n, as they are kept: each has so many bytes, and isn't 0xFF throughout
pub record AreKeptTexts (size n : ℕ) (lebs : FinMap nat_cmp (List ℕ)) : Type 0 where
  pub fits : (lnum : ℕ) → IfSome (get lebs lnum) (λ text. (lnum < n) × (length text ≡ size))
  pub kept : (lnum : ℕ) → IfSome (get lebs lnum) (λ text. text ≢ blank size)

-- each LEB below n reads what is kept of it
pub record AreGatheredLebs (s : Sizes) (bs : List (List ℕ)) (vol : ℕ) (r : VolumeRecord) (n : ℕ)
    (lebs : FinMap nat_cmp (List ℕ)) : Type 0 where
  pub texts : AreKeptTexts (usable s r) n lebs
  pub reads : (lnum : ℕ) → lnum < n → LebReads s bs vol r lnum (leb_text (usable s r) (get lebs lnum))

-- what a volume of a source reads, in whatever the source may hold; it is as a meaning keeps it, whatever that is
pub record IsContentOf (s : Sizes) (agrees : Agreed) (vol : ℕ) (r : VolumeRecord) (c : Content) : Type 0 where
  pub fits : Fits s r c
  pub kept : KeepsNoBlank s r c
  pub reads : WhereHeld agrees (λ bytes. VolumeReads s (blocks_of s bytes) vol r c)

-- the volume of an entry is its record and a content that it has, for each of the entries
pub record AreContents (Has : ℕ → VolumeRecord → Content → Type 0) (entries : List (ℕ × VolumeRecord))
    (volumes : List (ℕ × Volume)) : Type 0 where
  pub alike : map (λ v. (v.0, v.1.entry)) volumes ≡ entries
  pub contents : All (λ v. Has v.0 v.1.entry v.1.content) volumes

-- how many of the first n LEBs have contents that are kept
abbrev pub AreKeptLebs : Sizes → List (List ℕ) → ℕ → VolumeRecord → ℕ → ℕ → Type 0
AreKeptLebs s bs vol r n count =
    (lebs : FinMap nat_cmp (List ℕ)) × AreGatheredLebs s bs vol r n lebs × (count ≡ length (entries lebs))
