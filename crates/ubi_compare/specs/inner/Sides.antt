-- What is known of two sources that are compared.
use Rattle.std.specs.Prelude.{◌≡◌, ◌==◌, ◌++◌, ℕ, List, [], None, Some, flat_map}
use Rattle.std.specs.FinMap.{get}
use Rattle.std.specs.List.{range_with_len}
use Rattle.ubi_media.specs.Geometry.{Sizes}
use Rattle.ubi_media.specs.Record.{rec_fault}
use Rattle.ubi_scan.specs.Image.{image_of}
use Rattle.ubi_scan.specs.Source.{Agreed, Source, WhereHeld}
use Rattle.ubi_scan.specs.Stream.{IsReadFault}
use Rattle.ubi_volume.specs.Meant.{Meant}
use Rattle.ubi_volume.specs.Survey.{IsSurvey, IsSurveyOf, Seen, TellsCase}
use Rattle.ubi_volume.specs.declared.content.Volume.{Volume}
use Rattle.ubi_volume.specs.declared.places.PlaceContent.{PlaceContent}
use Rattle.ubi_volume.specs.declared.places.PlaceContent.TheVariants as place
use Rattle.ubi_compare.specs.Differences.{unless, volume_differences}
use Rattle.ubi_compare.specs.declared.difference.Condition.{Condition}
use Rattle.ubi_compare.specs.declared.difference.Condition.TheVariants as condition
use Rattle.ubi_compare.specs.declared.difference.Difference.{Difference}
use Rattle.ubi_compare.specs.declared.difference.Difference.TheVariants as difference
use Rattle.ubi_compare.specs.declared.errors.CompareFault.{CompareFault}
use Rattle.ubi_compare.specs.declared.errors.CompareFault.TheVariants as fault
use Rattle.ubi_compare.specs.declared.sides.OneSide.{OneSide}

-- a read of a side failed, which was of one of so many eraseblocks
abbrev pub IsSideRead : ℕ → ℕ → CompareFault → Type 0
IsSideRead m n (fault.Left e) = IsReadFault m e
IsSideRead m n (fault.Right e) = IsReadFault n e
IsSideRead m n fault.Memory = ⊥

-- such a read failed, or memory ran out
abbrev pub IsSidesError : ℕ → ℕ → CompareFault → Type 0
IsSidesError m n fault.Memory = Unit {0}
IsSidesError m n e = IsSideRead m n e

-- a fact about the meanings of two images that were surveyed
abbrev pub OfMeanings : Sizes → Seen → Seen → List ℕ → List ℕ → (Meant → Meant → Type 0) → Type 0
OfMeanings s p q left right fact =
    (h : IsSurvey (image_of s left) p) (k : IsSurvey (image_of s right) q) → fact h.meaning k.meaning

-- a fact about the volumes with a number, of two meanings
abbrev pub OfVolumes : ℕ → Meant → Meant → (Volume → Volume → Type 0) → Type 0
OfVolumes id m n fact = (v w : Volume) → get m.volumes id ≡ Some v → get n.volumes id ≡ Some w → fact v w

-- a volume of a side: its record, and the case of what it reads, by the meaning that was surveyed
pub record IsSideOf (s : Sizes) (k : Source) (agrees : Agreed) (id : ℕ) (side : OneSide) : Type 0 where
  pub survey : IsSurveyOf s k agrees side.survey.now
  pub recorded : get side.survey.now.records.of id ≡ Some side.entry.now
  pub sound : rec_fault s side.entry.now ≡ None
  pub case : WhereHeld agrees (λ bytes. TellsCase (image_of s bytes) side.survey.now id side.case)

-- the condition that a case gives a volume
abbrev pub case_condition : PlaceContent → Condition
case_condition place.Updating = condition.Updating
case_condition place.Damaged = condition.Damaged
case_condition (place.Static lebs bytes) = condition.Whole
case_condition place.Dynamic = condition.Whole

-- two static volumes with different lengths, by their cases
abbrev pub case_lengths : ℕ → PlaceContent → PlaceContent → List Difference
case_lengths id (place.Static lebs bytes) (place.Static others more) = unless (bytes == more) (difference.Bytes id bytes more)
case_lengths id _ _ = []

-- the differences of the image sequence numbers, and those of the first n slots
abbrev pub first_differences : ℕ → Meant → Meant → List Difference
first_differences k m n =
    unless (m.image_seq == n.image_seq) (difference.ImageSeq m.image_seq n.image_seq)
    ++ flat_map (λ id. volume_differences m.sizes id (get m.volumes id) (get n.volumes id)) (range_with_len 0 k)
