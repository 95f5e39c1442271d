-- What is known of each volume of a source without its contents, piece by piece.
use Rattle.std.specs.Prelude.{◌≡◌, ℕ, List, [], ◌∷◌, Option, length, map, option_map}
use Rattle.std.specs.FinMap.{FinMap}
use Rattle.ubi_media.specs.Geometry.{Sizes}
use Rattle.ubi_media.specs.declared.record.VolumeRecord.{VolumeRecord}
use Rattle.ubi_scan.specs.Scan.{leb_cmp}
use Rattle.ubi_volume.specs.Texts.{PieceIs}
use Rattle.ubi_volume.specs.inner.Gathered.{AreContents, ContentIs}
use Rattle.ubi_volume.specs.Places.{CaseFits, case_of}
use Rattle.ubi_volume.specs.declared.content.Content.{Content}
use Rattle.ubi_volume.specs.declared.content.Volume.{Volume}
use Rattle.ubi_volume.specs.declared.places.PlaceContent.{PlaceContent}

-- the size of the piece that the winner of a LEB holds of contents of `used` LEBs, if it holds one
abbrev pub PieceSizeIs : Sizes → List (List ℕ) → ℕ → ℕ → ℕ → Option ℕ → Type 0
PieceSizeIs s bs vol used lnum size = (text : Option (List ℕ)) × PieceIs s bs vol used lnum text
    × (size ≡ option_map length text)

-- the case and size of what a volume with this record reads
abbrev pub CaseIs : Sizes → List (List ℕ) → ℕ → VolumeRecord → PlaceContent → Type 0
CaseIs s bs vol r case = (c : Content) × ContentIs s bs vol r c × (case ≡ case_of s r c)

-- the case and size of a volume, after its number
abbrev pub case_in : Sizes → ℕ × Volume → ℕ × PlaceContent
case_in s v = (v.0, case_of s v.1.entry v.1.content)

-- the cases and sizes of the volumes of the entries
pub record AreCases (s : Sizes) (bs : List (List ℕ)) (entries : List (ℕ × VolumeRecord))
    (listed : List (ℕ × PlaceContent)) : Type 0 where
  pub volumes : List (ℕ × Volume)
  pub contents : AreContents (ContentIs s bs) entries volumes
  pub cases : listed ≡ map (case_in s) volumes

-- each entry has a case after its number, which its record allows
abbrev pub AreNumbered : FinMap leb_cmp ℕ → List (ℕ × VolumeRecord) → List (ℕ × PlaceContent) → Type 0
AreNumbered winners [] [] = Unit {0}
AreNumbered winners (e ∷ entries) (c ∷ cases) = (c.0 ≡ e.0) × CaseFits winners e.0 e.1 c.1 × AreNumbered winners entries cases
AreNumbered winners _ _ = ⊥
