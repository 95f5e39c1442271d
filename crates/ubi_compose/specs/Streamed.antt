-- What a writer received of the normal image, and what normalising a source answers.
use Rattle.std.specs.Prelude.{◌≡◌, ℕ, ◌<◌, ◌≤◌, ◌⊎◌, List, length, take, Option}
use Rattle.std.specs.Io.KnownBytes.{Appends, Keeps}
use Rattle.ubi_media.specs.Geometry.{Sizes}
use Rattle.ubi_scan.specs.Image.{Image, IsWholeSize, image_of}
use Rattle.ubi_scan.specs.Source.{Agreed, Source, WhereHeld, blocks_in}
use Rattle.ubi_scan.specs.declared.errors.StreamError.{StreamError}
use Rattle.ubi_scan.specs.declared.errors.StreamError.TheVariants as stream
use Rattle.ubi_volume.specs.Accepts.{Accepts}
use Rattle.ubi_volume.specs.Meant.{Meant}
use Rattle.ubi_volume.specs.Places.{ArePlacesError}
use Rattle.ubi_compose.specs.Normal.{normal_bytes}

-- the writer received the whole normal image, of n bytes
pub record IsStreamed (image : Image) (old new : Option (List ℕ)) (n : ℕ) : Type 0 where
  pub meaning : Meant
  pub accepted : Accepts image meaning
  pub count : n ≡ length (normal_bytes meaning)
  pub written : Appends old new (normal_bytes meaning)

-- the writer received the first n bytes of the normal image: perhaps all, if what is read last turns out to be left out
pub record IsPart (image : Image) (old new : Option (List ℕ)) (n : ℕ) : Type 0 where
  pub meaning : Meant
  pub accepted : Accepts image meaning
  pub within : n ≤ length (normal_bytes meaning)
  pub written : Appends old new (take n (normal_bytes meaning))

-- the writer received the first n bytes of the normal image, but not all
pub record IsCutShort (image : Image) (old new : Option (List ℕ)) (n : ℕ) : Type 0 where
  pub meaning : Meant
  pub accepted : Accepts image meaning
  pub short : n < length (normal_bytes meaning)
  pub written : Appends old new (take n (normal_bytes meaning))

-- the writer received n bytes, whatever the source holds
abbrev pub HasGot : Option (List ℕ) → Option (List ℕ) → ℕ → Type 0
HasGot old new n = (bytes : List ℕ) × (length bytes ≡ n) × Appends old new bytes

-- what normalising a source answers
pub record IsNormalisedTo (s : Sizes) (agrees : Agreed) (old new : Option (List ℕ)) (n : ℕ) : Type 0 where
  pub got : HasGot old new n
  pub held : WhereHeld agrees (λ bytes. IsStreamed (image_of s bytes) old new n)

-- why normalising a source fails: the image is refused, or memory ran out, and nothing was written; a read of a source
-- of the size of an image failed, while attaching or after n bytes were written; or a write failed after n bytes
abbrev pub IsNormaliseToError : Sizes → Source → Agreed → Option (List ℕ) → Option (List ℕ) → StreamError → Type 0
IsNormaliseToError s k agrees old new (stream.Refused c) = Keeps old new × ArePlacesError s k agrees (stream.Refused c)
IsNormaliseToError s k agrees old new stream.Memory = Keeps old new
IsNormaliseToError s k agrees old new (stream.Read p n) =
    IsWholeSize s k.size × (p < blocks_in s k) × HasGot old new n
    × (((n ≡ 0) × Keeps old new) ⊎ WhereHeld agrees (λ bytes. IsPart (image_of s bytes) old new n))
IsNormaliseToError s k agrees old new (stream.Write n) =
    HasGot old new n × WhereHeld agrees (λ bytes. IsCutShort (image_of s bytes) old new n)

-- a fact that holds if nothing was written: if the image is refused, or memory ran out
abbrev pub WhereUnwritten : Type 0 → StreamError → Type 0
WhereUnwritten fact (stream.Refused c) = fact
WhereUnwritten fact stream.Memory = fact
WhereUnwritten fact _ = Unit {0}
