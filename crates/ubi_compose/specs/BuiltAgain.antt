-- What is built from the records and the contents of an image.
use Rattle.std.specs.Prelude.{◌≡◌, ◌≤◌, ℕ, List, Contains, Ok, Some, length, map}
use Rattle.std.specs.FinMap.{entries, get}
use Rattle.ubi_media.specs.Geometry.{IsGeometry}
use Rattle.ubi_scan.specs.Image.{Image}
use Rattle.ubi_volume.specs.Accepts.{Accepts}
use Rattle.ubi_volume.specs.Meant.{Meant, records_of}
use Rattle.ubi_volume.specs.Reading.{read_volume}
use Rattle.ubi_volume.specs.declared.content.Volume.{Volume}
use Rattle.ubi_compose.specs.Built.{HaveMeaning, Parts, built, most_blocks}
use Rattle.ubi_laid.specs.Parts.{Reaches, text_of}
use Rattle.ubi_laid.specs.declared.part.Part.{Part}

-- parts are the volumes of a meaning: each volume has a part, and each part has the record of a volume and the bytes that it reads
pub record AreVolumesOf (m : Meant) (ps : Parts) (bytes : List ℕ) : Type 0 where
  pub sizes : ps.sizes ≡ m.sizes
  pub image_seq : ps.image_seq ≡ m.image_seq
  pub each : (id : ℕ) (v : Volume) → get m.volumes id ≡ Some v → (p : Part) × Contains ps.of p × (p.id ≡ id)
  pub read : (p : Part) → Contains ps.of p
      → (v : Volume) × (get m.volumes p.id ≡ Some v) × (p.entry ≡ v.entry) × (read_volume m p.id ≡ Ok (text_of bytes p))

-- if all volumes of an accepted image can be read, what is built from their records and from what they read is its meaning
abbrev pub BuiltAgain : Type 0
BuiltAgain =
    (image : Image) (m : Meant) (ps : Parts) (bytes : List ℕ) → Accepts image m → HaveMeaning ps
    → Reaches (length bytes) ps.of → AreVolumesOf m ps bytes → built ps bytes ≡ m

-- parts are those of the volumes of a meaning, in ascending order, each with the record and the bytes that its volume reads
pub record AreItsParts (m : Meant) (ps : Parts) (bytes : List ℕ) : Type 0 where
  pub sizes : ps.sizes ≡ m.sizes
  pub image_seq : ps.image_seq ≡ m.image_seq
  pub listed : map (λ p. (p.id, p.entry)) ps.of ≡ entries (records_of m).of
  pub reaches : Reaches (length bytes) ps.of
  pub read : (p : Part) → Contains ps.of p → read_volume m p.id ≡ Ok (text_of bytes p)

-- such parts of an accepted image have a meaning together, whatever the bytes are, and the device has room for all pieces: so they
-- can be built, and what is built is the meaning of the image
abbrev pub PartsBuildAgain : Type 0
PartsBuildAgain =
    (image : Image) (m : Meant) (ps : Parts) (bytes : List ℕ) → IsGeometry m.sizes → Accepts image m → AreItsParts m ps bytes
    → HaveMeaning ps × (most_blocks ps ≤ ps.sizes.pebs) × (built ps bytes ≡ m)
