-- What a volume of a source reads, by the places of its LEBs.
use Rattle.std.specs.Prelude.{◌≡◌, ℕ, ◌-◌, ◌*◌, List, Option, Some, None, Result, Ok, Err, min, take}
use Rattle.std.specs.FinMap.{get}
use Rattle.std.specs.Option.{option_map_or}
use Rattle.std.specs.Result.{result_map_both}
use Rattle.ubi_media.specs.Fields.{blank}
use Rattle.ubi_media.specs.Geometry.{Sizes}
use Rattle.ubi_media.specs.Record.{usable}
use Rattle.ubi_media.specs.declared.record.VolumeRecord.{VolumeRecord}
use Rattle.ubi_scan.specs.Image.{block, image_of, leb}
use Rattle.ubi_scan.specs.Source.{blocks_of}
use Rattle.ubi_volume.specs.Places.{ArePlaces, Placed}
use Rattle.ubi_volume.specs.Reading.{read_volume}
use Rattle.ubi_volume.specs.declared.errors.ReadError.{ReadError}
use Rattle.ubi_volume.specs.declared.errors.ReadError.TheVariants as error
use Rattle.ubi_volume.specs.declared.places.Extent.{Extent}
use Rattle.ubi_volume.specs.declared.places.PlaceContent.{PlaceContent}
use Rattle.ubi_volume.specs.declared.places.PlaceContent.TheVariants as place

-- how the bytes that a volume with this record reads are shared among its LEBs, by the case of its contents
abbrev pub extent_of : Sizes → VolumeRecord → PlaceContent → Result Extent ReadError
extent_of s r place.Updating = Err error.Updating
extent_of s r place.Damaged = Err error.Damaged
extent_of s r (place.Static lebs bytes) = Ok (record { lebs = lebs; size = usable s r; bytes = bytes })
extent_of s r place.Dynamic = Ok (record { lebs = r.reserved; size = usable s r; bytes = r.reserved * usable s r })

-- how the bytes of a volume of places are shared among its LEBs, by the number of the volume
abbrev pub extent_in : Placed → ℕ → Result Extent ReadError
extent_in p id = option_map_or (λ r. option_map_or (extent_of p.records.sizes r) (get p.contents id) (Err error.NoVolume)) (get p.records.of id) (Err error.NoVolume)

-- how many bytes a volume reads
abbrev pub extent_len : Result Extent ReadError → Result ℕ ReadError
extent_len = result_map_both (λ e. e.bytes) (λ e. e)

-- the bytes that the volume reads in the meaning of an image whose places these are
abbrev pub read_text : Sizes → Placed → ℕ → List ℕ → List ℕ → Type 0
read_text s p id image text = (h : ArePlaces (image_of s image) p) × (read_volume h.meaning id ≡ Ok text)

-- the first n bytes of the LEB at a place of an image, or 0xFF if it has no place
abbrev pub leb_bytes : Sizes → ℕ → Option ℕ → List ℕ → List ℕ
leb_bytes s n None image = blank n
leb_bytes s n (Some p) image = take n (leb s (block (blocks_of s image) p))

-- how many of a number of bytes stand in a LEB, which has room for `size` of them
abbrev pub share_len : ℕ → ℕ → ℕ → ℕ
share_len size bytes lnum = min size (bytes - lnum * size)
