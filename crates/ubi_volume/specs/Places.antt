-- What is known of an image without its contents: its table, where each LEB stands, what its volumes read, and the image
-- sequence number.
use Rattle.std.specs.Prelude.{◌≡◌, ℕ, ◌<◌, ◌≤◌, ◌⊎◌, List, length, Option, Some, IfSome, IsSome, MatchOption, ◌==◌, find, true, false}
use Rattle.std.specs.FinMap.{FinMap, get}
use Rattle.std.specs.Ordering.{nat_cmp}
use Rattle.ubi_media.specs.Geometry.{Sizes}
use Rattle.ubi_media.specs.Record.{usable}
use Rattle.ubi_media.specs.declared.record.VolumeRecord.{VolumeRecord}
use Rattle.ubi_media.specs.declared.vid.VolKind.TheVariants as kind
use Rattle.ubi_scan.specs.Image.{Image, IsLengthFault, IsWholeSize, image_of, of_blocks}
use Rattle.ubi_scan.specs.Members.{Leb}
use Rattle.ubi_scan.specs.Scan.{AreWinners, leb_cmp}
use Rattle.ubi_scan.specs.Source.{Agreed, Source, WhereHeld, blocks_in, blocks_of}
use Rattle.ubi_scan.specs.Stream.{IsReadFault}
use Rattle.ubi_scan.specs.declared.errors.StreamError.{StreamError}
use Rattle.ubi_scan.specs.declared.errors.StreamError.TheVariants as stream
use Rattle.ubi_table.specs.Records.{HasSpace, Records}
use Rattle.ubi_volume.specs.Accepts.{Accepts, RefusesBlocks, IsWithin}
use Rattle.ubi_volume.specs.Meant.{Meant, records_of, pieces}
use Rattle.ubi_volume.specs.declared.content.Content.{Content}
use Rattle.ubi_volume.specs.declared.content.Content.TheVariants as content
use Rattle.ubi_volume.specs.declared.content.Volume.{Volume}
use Rattle.ubi_volume.specs.declared.places.PlaceContent.{PlaceContent}
use Rattle.ubi_volume.specs.declared.places.PlaceContent.TheVariants as place

-- places: the records of the table, the winner of each LEB, the case and size of what each volume reads, and the image
-- sequence number
pub record Placed : Type 0 where
  pub records : Records
  pub winners : FinMap leb_cmp ℕ
  pub contents : FinMap nat_cmp PlaceContent
  pub image_seq : ℕ

-- the case of a content, and the size of a static volume's contents
abbrev pub case_of : Sizes → VolumeRecord → Content → PlaceContent
case_of s r content.Updating = place.Updating
case_of s r content.Damaged = place.Damaged
case_of s r (content.Static text) = place.Static (pieces (usable s r) (length text)) (length text)
case_of s r (content.Dynamic lebs) = place.Dynamic

-- a LEB of a volume counts, and this is its winner
abbrev pub IsCountedPlace : Placed → ℕ → ℕ → ℕ → Type 0
IsCountedPlace p vol lnum at = (r : VolumeRecord) × (get p.records.of vol ≡ Some r) × IsWithin r lnum × (get p.winners (vol, lnum) ≡ Some at)

-- the first LEB of a volume from a number on that counts and has a winner, with the winner; or none
abbrev pub IsNextPlace : Placed → ℕ → ℕ → Option (ℕ × ℕ) → Type 0
IsNextPlace p vol from next = MatchOption next
    ((lnum at : ℕ) → from ≤ lnum → IsCountedPlace p vol lnum at → ⊥)
    (λ e. (from ≤ e.0) × IsCountedPlace p vol e.0 e.1 × ((lnum at : ℕ) → from ≤ lnum → lnum < e.0 → IsCountedPlace p vol lnum at → ⊥))

-- each record of a table has a content
abbrev pub AreListed : Records → List (ℕ × PlaceContent) → Type 0
AreListed t contents = (id : ℕ) → IsSome (get t.of id) → IsSome (find (λ e. e.0 == id) contents)

-- a case is one that the volume's record allows: static contents take no more LEBs than the volume reserves, and each
-- of these has a winner
abbrev pub CaseFits : FinMap leb_cmp ℕ → ℕ → VolumeRecord → PlaceContent → Type 0
CaseFits winners vol r place.Updating = r.marker ≡ true
CaseFits winners vol r place.Damaged = (r.marker ≡ false) × (r.kind ≡ kind.Static)
CaseFits winners vol r (place.Static lebs bytes) = (r.marker ≡ false) × (r.kind ≡ kind.Static) × (lebs ≤ r.reserved)
    × ((lnum : ℕ) → lnum < lebs → IsSome (get winners (vol, lnum)))
CaseFits winners vol r place.Dynamic = (r.marker ≡ false) × (r.kind ≡ kind.Dynamic)

-- what holds for places in n eraseblocks, whatever these hold: each place is one of them, the volumes fit the device,
-- and each volume has a case that its record allows
pub record AreWithin (n : ℕ) (p : Placed) : Type 0 where
  pub winners : (of : Leb) → IfSome (get p.winners of) (λ at. at < n)
  pub space : HasSpace p.records.sizes p.records
  pub contents : (id : ℕ) (r : VolumeRecord) → get p.records.of id ≡ Some r → (c : PlaceContent) × (get p.contents id ≡ Some c) × CaseFits p.winners id r c

-- the places are those of an image that is accepted
pub record ArePlaces (image : Image) (p : Placed) : Type 0 where
  pub meaning : Meant
  pub accepted : Accepts image meaning
  pub records : p.records ≡ records_of meaning
  pub image_seq : p.image_seq ≡ meaning.image_seq
  pub winners : of_blocks AreWinners image p.winners
  pub contents : (id : ℕ) (v : Volume) → get meaning.volumes id ≡ Some v → get p.contents id ≡ Some (case_of image.sizes v.entry v.content)

-- what attaching a source gives
pub record ArePlacesOf (s : Sizes) (k : Source) (agrees : Agreed) (p : Placed) : Type 0 where
  pub sizes : p.records.sizes ≡ s
  pub whole : IsWholeSize s k.size
  pub within : AreWithin (blocks_in s k) p
  pub held : WhereHeld agrees (λ bytes. ArePlaces (image_of s bytes) p)

-- why attaching a source fails
abbrev pub ArePlacesError : Sizes → Source → Agreed → StreamError → Type 0
ArePlacesError s k agrees (stream.Refused c) =
    IsLengthFault s k.size c ⊎ (IsWholeSize s k.size × WhereHeld agrees (λ bytes. RefusesBlocks s (blocks_of s bytes) c))
ArePlacesError s k agrees (stream.Read p written) = IsWholeSize s k.size × IsReadFault (blocks_in s k) (stream.Read p written)
ArePlacesError s k agrees (stream.Write _) = ⊥
ArePlacesError s k agrees stream.Memory = Unit {0}
