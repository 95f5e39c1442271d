-- The bytes of the files that are made from an image, and why there are none.
use Rattle.std.specs.Prelude.{◌≡◌, ℕ, List, Ok, Err}
use Rattle.ubi_media.specs.declared.refusal.Refusal.{Refusal}
use Rattle.ubi_scan.specs.Image.{Image}
use Rattle.ubi_volume.specs.Accepts.{Accepts, Refuses}
use Rattle.ubi_volume.specs.Meant.{Meant}
use Rattle.ubi_volume.specs.Reading.{read_volume}
use Rattle.ubi_volume.specs.declared.errors.ReadError.{ReadError}
use Rattle.ubi_compose.specs.Normal.{normal_bytes}
use Rattle.ubi_files.specs.Lines.{refusal_line, refused_line}
use Rattle.ubi_writing.specs.Extract.{read_refusal}

-- what is answered for the volume with a number: what it reads; or the line for which it isn't read, or that of the image's refusal
pub data ReadsContents (image : Image) (id : ℕ) (bytes : List ℕ) (status : ℕ) : Type 0 where
  read : (m : Meant) → Accepts image m → read_volume m id ≡ Ok bytes → status ≡ 0 → ReadsContents image id bytes status
  unread : (m : Meant) (e : ReadError) (why : List ℕ) → Accepts image m → read_volume m id ≡ Err e → read_refusal e ≡ Ok why
      → bytes ≡ refused_line why → status ≡ 1 → ReadsContents image id bytes status
  refused : (c : Refusal) → Refuses image c → bytes ≡ refusal_line c → status ≡ 1 → ReadsContents image id bytes status

-- what is answered for the normal image: that of what the image means; or the line of the image's refusal
pub data Normal (image : Image) (bytes : List ℕ) (status : ℕ) : Type 0 where
  normal : (m : Meant) → Accepts image m → bytes ≡ normal_bytes m → status ≡ 0 → Normal image bytes status
  no_normal : (c : Refusal) → Refuses image c → bytes ≡ refusal_line c → status ≡ 1 → Normal image bytes status
