-- Laws of the normal image, as they stand on functions that do nothing.
use Rattle.std.specs.Prelude.{◌≡◌, ◌↔◌, ℕ}
use Rattle.ubi_media.specs.Geometry.{IsGeometry}
use Rattle.ubi_scan.specs.Image.{image_of}
use Rattle.ubi_volume.specs.Accepts.{Accepts}
use Rattle.ubi_volume.specs.Meant.{Meant, IsMeaning}
use Rattle.ubi_compose.specs.Composed.{HasRoom, composed}
use Rattle.ubi_compose.specs.Normal.{normal_bytes}

-- the normal image of a meaning is accepted with that meaning, whatever spare eraseblocks follow it
abbrev pub NormalAccepted : Type 0
NormalAccepted =
    (m : Meant) (spares : ℕ) → IsGeometry m.sizes → IsMeaning m → HasRoom m spares → Accepts (image_of m.sizes (composed m spares)) m

-- the normal image of a meaning fits the device
abbrev pub NormalFits : Type 0
NormalFits = (m : Meant) → IsMeaning m → HasRoom m 0

-- two meanings of one geometry are the same exactly if their normal images are
abbrev pub NormalForm : Type 0
NormalForm = (m n : Meant) → IsGeometry m.sizes → m.sizes ≡ n.sizes → IsMeaning m → IsMeaning n → (m ≡ n) ↔ (normal_bytes m ≡ normal_bytes n)
