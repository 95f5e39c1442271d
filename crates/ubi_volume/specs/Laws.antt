-- Laws of what is accepted and refused, as they stand on functions that do nothing.
use Rattle.std.specs.Prelude.{◌≡◌, ◌⊎◌}
use Rattle.ubi_media.specs.Fields.{AreBytes}
use Rattle.ubi_media.specs.Geometry.{IsGeometry}
use Rattle.ubi_media.specs.declared.refusal.Refusal.{Refusal}
use Rattle.ubi_scan.specs.Image.{Image}
use Rattle.ubi_volume.specs.Accepts.{Accepts, Refuses}
use Rattle.ubi_volume.specs.Meant.{Meant}

-- an image that is accepted isn't refused
abbrev pub NeverBoth : Type 0
NeverBoth = (image : Image) (m : Meant) (c : Refusal) → Accepts image m → Refuses image c → ⊥

-- an image is refused for at most one cause
abbrev pub OneCause : Type 0
OneCause = (image : Image) (c d : Refusal) → Refuses image c → Refuses image d → c ≡ d

-- an image of bytes is accepted or refused
abbrev pub OneOrOther : Type 0
OneOrOther = (image : Image) → IsGeometry image.sizes → AreBytes image.bytes
    → ((m : Meant) × Accepts image m) ⊎ ((c : Refusal) × Refuses image c)
