-- Laws of meanings, as they stand on functions that do nothing.
use Rattle.std.specs.Prelude.{◌≡◌, ℕ, ◌↔◌, List, IsPermutation}
use Rattle.ubi_media.specs.Geometry.{Sizes}
use Rattle.ubi_media.specs.declared.refusal.Refusal.{Refusal}
use Rattle.ubi_scan.specs.Image.{Image, IsWholeImage, eraseblocks, image_of, seen_of}
use Rattle.ubi_volume.specs.Accepts.{Accepts, Refuses}
use Rattle.ubi_volume.specs.Attached.{IsAttached, AttachValue}
use Rattle.ubi_volume.specs.Made.{IsFirstMade, Items}
use Rattle.ubi_volume.specs.Meant.{Meant}
use Rattle.ubi_volume.specs.declared.errors.MeaningCause.{MeaningCause}

-- an image has at most one meaning
abbrev pub OneMeaning : Type 0
OneMeaning = (image : Image) (m n : Meant) → Accepts image m → Accepts image n → m ≡ n

-- attaching an image gives one value
abbrev pub OneAttached : Type 0
OneAttached = (image : Image) (a b : AttachValue) → IsAttached image a → IsAttached image b → a ≡ b

-- volumes that have no meaning together have one first cause
abbrev pub OneFirst : Type 0
OneFirst = (s : Sizes) (items : Items) (c d : MeaningCause) → IsFirstMade s items c → IsFirstMade s items d → c ≡ d

-- an image whose eraseblocks are those of an accepted one in another order is accepted with the same meaning
abbrev pub Reorder : Type 0
Reorder = (image other : Image) (m : Meant) → other.sizes ≡ image.sizes → IsWholeImage other
    → IsPermutation (eraseblocks image) (eraseblocks other) → Accepts image m → Accepts other m

-- those bytes of a file that are judged decide what it means, or why it is refused
abbrev pub JudgedAlone : Type 0
JudgedAlone = (s : Sizes) (bytes : List ℕ) →
    let all : Image = image_of s bytes in
    let first : Image = image_of s (seen_of s bytes) in
    ((m : Meant) → Accepts first m ↔ Accepts all m) × ((c : Refusal) → Refuses first c ↔ Refuses all c)
