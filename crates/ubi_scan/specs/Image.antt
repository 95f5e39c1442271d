-- An image as a list of eraseblocks, and the parts of an eraseblock.
use Rattle.std.specs.Prelude.{◌≡◌, ◌≢◌, ℕ, ◌+◌, ◌*◌, ◌/◌, ◌%◌, ◌<◌, ◌≤◌, ◌⊎◌, List, [], drop, length, slice_index_or, slice_range, take}
use Rattle.std.specs.Simd.{first_chunks}
use Rattle.ubi_media.specs.Ec.{ec_reading}
use Rattle.ubi_media.specs.Geometry.{Sizes, slots}
use Rattle.ubi_media.specs.Record.{record_size}
use Rattle.ubi_media.specs.Vid.{vid_reading}
use Rattle.ubi_media.specs.declared.ec.EcRead.{EcRead}
use Rattle.ubi_media.specs.declared.vid.VidRead.{VidRead}
use Rattle.ubi_media.specs.declared.refusal.Refusal.{Refusal}
use Rattle.ubi_media.specs.declared.refusal.Refusal.TheVariants as refusal

-- bytes, and the sizes by which they are cut
pub record Image : Type 0 where
  pub sizes : Sizes
  pub bytes : List ℕ

-- the image of these bytes under these sizes
abbrev pub image_of : Sizes → List ℕ → Image
image_of s bytes = record { sizes = s; bytes = bytes }

-- the bytes of a file that are judged: all of them, or the first ones, up to one more than the device has
abbrev pub seen_of : Sizes → List ℕ → List ℕ
seen_of s bytes = take (s.pebs * s.peb_size + 1) bytes

-- n bytes have the size of an image: whole eraseblocks, at least one and no more than the device has
pub record IsWholeSize (s : Sizes) (n : ℕ) : Type 0 where
  pub some : 0 < n
  pub cut : n % s.peb_size ≡ 0
  pub fits : n ≤ s.pebs * s.peb_size

-- the bytes are an image
abbrev pub IsWholeImage : Image → Type 0
IsWholeImage image = IsWholeSize image.sizes (length image.bytes)

-- why n bytes are no image: there are too many, or they aren't whole eraseblocks
abbrev pub IsLengthFault : Sizes → ℕ → Refusal → Type 0
IsLengthFault s n refusal.TooMany = s.pebs * s.peb_size < n
IsLengthFault s n refusal.Length = (n ≤ s.pebs * s.peb_size) × ((n ≡ 0) ⊎ (n % s.peb_size ≢ 0))
IsLengthFault s n _ = ⊥

-- why these bytes are no image
abbrev pub IsSizeFault : Image → Refusal → Type 0
IsSizeFault image c = IsLengthFault image.sizes (length image.bytes) c

-- the eraseblocks of an image
abbrev pub eraseblocks : Image → List (List ℕ)
eraseblocks image = first_chunks image.sizes.peb_size (length image.bytes / image.sizes.peb_size) image.bytes

-- what is defined over sizes and a list of eraseblocks, for an image
abbrev pub of_blocks {ℓ} : {A : Type ℓ} → (Sizes → List (List ℕ) → A) → Image → A
of_blocks f image = f image.sizes (eraseblocks image)

-- the eraseblock at a place
abbrev pub block : List (List ℕ) → ℕ → List ℕ
block bs p = slice_index_or bs p []

-- the bytes of an eraseblock's erase-counter header (EC)
abbrev pub ec_area : List ℕ → List ℕ
ec_area b = take 64 b

-- what the erase-counter header of an eraseblock is
abbrev pub ec : Sizes → List ℕ → EcRead
ec s b = ec_reading s (ec_area b)

-- the bytes of an eraseblock's volume-identifier header (VID)
abbrev pub vid_area : Sizes → List ℕ → List ℕ
vid_area s b = slice_range b s.vid_offset (s.vid_offset + 64)

-- what the volume-identifier header of an eraseblock is
abbrev pub vid : Sizes → List ℕ → VidRead
vid s b = vid_reading s (vid_area s b)

-- the bytes of the logical eraseblock (LEB) in an eraseblock
abbrev pub leb : Sizes → List ℕ → List ℕ
leb s b = drop s.data_offset b

-- the bytes of a volume table, cut into the records of its slots
abbrev pub slots_in : Sizes → List ℕ → List (List ℕ)
slots_in s bytes = first_chunks record_size (slots s) bytes

-- the bytes of a record in the LEB of an eraseblock
abbrev pub rec : Sizes → List ℕ → ℕ → List ℕ
rec s b slot = slice_index_or (slots_in s (leb s b)) slot []
