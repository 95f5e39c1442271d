-- Laws of what is built, as they stand on functions that do nothing.
use Rattle.std.specs.Prelude.{◌≡◌, ℕ, ◌+◌, ◌*◌, ◌≤◌, List, Contains, Ok, length}
use Rattle.ubi_media.specs.Fields.{filled}
use Rattle.ubi_media.specs.Record.{usable}
use Rattle.ubi_media.specs.declared.vid.VolKind.{VolKind}
use Rattle.ubi_media.specs.declared.vid.VolKind.TheVariants as kind
use Rattle.ubi_scan.specs.Image.{image_of}
use Rattle.ubi_volume.specs.Accepts.{Accepts}
use Rattle.ubi_volume.specs.Reading.{read_volume}
use Rattle.ubi_compose.specs.Built.{HaveMeaning, Parts, built, most_blocks}
use Rattle.ubi_laid.specs.Parts.{Reaches, text_of}
use Rattle.ubi_compose.specs.Composed.{composed}
use Rattle.ubi_laid.specs.declared.part.Part.{Part}

-- what a volume of a number of bytes reads after some were written to it: a static one these, and a dynamic one these and 0xFF after them
abbrev pub text_read : VolKind → ℕ → List ℕ → List ℕ
text_read kind.Static size text = text
text_read kind.Dynamic size text = filled size text

-- each volume that is built reads the bytes of its part, and 0xFF up to all that it reserves if it is dynamic
abbrev pub BuiltReads : Type 0
BuiltReads =
    (ps : Parts) (bytes : List ℕ) (p : Part) → HaveMeaning ps → Reaches (length bytes) ps.of → Contains ps.of p
    → read_volume (built ps bytes) p.id
    ≡ Ok (text_read p.entry.kind (p.entry.reserved * usable ps.sizes p.entry) (text_of bytes p))

-- the normal image of what is built is accepted with its meaning, whatever spare eraseblocks follow it, if there is room
abbrev pub BuiltAccepted : Type 0
BuiltAccepted =
    (ps : Parts) (bytes : List ℕ) (spares : ℕ) → HaveMeaning ps → Reaches (length bytes) ps.of
    → most_blocks ps + spares ≤ ps.sizes.pebs
    → Accepts (image_of ps.sizes (composed (built ps bytes) spares)) (built ps bytes)
