-- What is known of an image, except what its volumes read.
use Rattle.std.specs.Prelude.{◌≡◌, ◌≤◌, ℕ, List, Some, length, refl}
use Rattle.std.specs.FinMap.{get}
use Rattle.std.specs.Coded.{Coded, code_by, coded×, coded_list}
use Rattle.ubi_media.specs.Geometry.{Sizes}
use Rattle.ubi_scan.specs.Coded.{found_code}
use Rattle.ubi_scan.specs.Image.{Image, image_of}
use Rattle.ubi_scan.specs.Scan.{Found}
use Rattle.ubi_scan.specs.Source.{Agreed, Source, WhereHeld, blocks_in}
use Rattle.ubi_scan.specs.Stream.{IsScanOf}
use Rattle.ubi_table.specs.Coded.{records_code}
use Rattle.ubi_table.specs.Records.{Records}
use Rattle.ubi_volume.specs.Attached.{IsAttached, AttachValue}
use Rattle.ubi_volume.specs.Meant.{Meant, records_of}
use Rattle.ubi_volume.specs.Places.{case_of}
use Rattle.ubi_volume.specs.declared.attached.BlockState.{BlockState}
use Rattle.ubi_volume.specs.declared.content.Volume.{Volume}
use Rattle.ubi_volume.specs.declared.places.PlaceContent.{PlaceContent}
use Rattle.ubi_volume.specs.contracts.attached.BlockState as state_type

-- the records of the table, what the scan found, and the state of each eraseblock
pub record Seen : Type 0 where
  pub records : Records
  pub scan : Found
  pub states : List BlockState

-- a survey as nested pairs
abbrev pub seen_code : Coded Seen
seen_code =
    code_by (Records × (Found × List BlockState)) (coded× records_code (coded× found_code (coded_list state_type.the_row.coded)))
    (λ a. (a.records, (a.scan, a.states))) (λ p. record { records = p.0; scan = p.1.0; states = p.1.1 }) (λ _. refl)

-- a survey of the image, which is accepted: with a meaning, it is what attaching gives, and the records are those of
-- the meaning
pub record IsSurvey (image : Image) (v : Seen) : Type 0 where
  pub meaning : Meant
  pub attached : IsAttached image (record { meaning = meaning; scan = v.scan; states = v.states })
  pub records : v.records ≡ records_of meaning

-- what surveying a source gives: a scan of it, records by its geometry, a mean that is an erase counter, and a state
-- for each eraseblock; and it is the survey of the image, whatever the source may hold
pub record IsSurveyOf (s : Sizes) (k : Source) (agrees : Agreed) (v : Seen) : Type 0 where
  pub scan : IsScanOf s k agrees v.scan
  pub sizes : v.records.sizes ≡ s
  pub mean : v.scan.mean_ec ≤ 0x7FFFFFFF
  pub count : length v.states ≡ blocks_in s k
  pub held : WhereHeld agrees (λ bytes. IsSurvey (image_of s bytes) v)

-- what attaching a source gives is right for the image, whatever the source may hold
abbrev pub IsAttachedOf : Sizes → Agreed → AttachValue → Type 0
IsAttachedOf s agrees a = WhereHeld agrees (λ bytes. IsAttached (image_of s bytes) a)

-- the case and size of what a volume of the image reads, by the meaning that was surveyed
abbrev pub TellsCase : Image → Seen → ℕ → PlaceContent → Type 0
TellsCase image v id case =
    (h : IsSurvey image v) (w : Volume) → get h.meaning.volumes id ≡ Some w → case ≡ case_of image.sizes w.entry w.content
