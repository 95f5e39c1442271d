-- How much a volume reads.
use Rattle.std.specs.Prelude.{◌≡◌, ℕ, List, Some, length}
use Rattle.std.specs.FinMap.{entries, get}
use Rattle.ubi_media.specs.Geometry.{Sizes}
use Rattle.ubi_scan.specs.Image.{image_of}
use Rattle.ubi_volume.specs.Places.{ArePlaces, Placed}
use Rattle.ubi_volume.specs.declared.block.Amount.{Amount}
use Rattle.ubi_volume.specs.declared.block.Amount.TheVariants as amount
use Rattle.ubi_volume.specs.declared.content.Content.{Content}
use Rattle.ubi_volume.specs.declared.content.Content.TheVariants as content
use Rattle.ubi_volume.specs.declared.content.Volume.{Volume}

-- how much a content is: the size of a static volume's contents, or how many LEBs are kept
abbrev pub amount_of : Content → Amount
amount_of content.Updating = amount.Updating
amount_of content.Damaged = amount.Damaged
amount_of (content.Static text) = amount.Bytes (length text)
amount_of (content.Dynamic lebs) = amount.Lebs (length (entries lebs))

-- how much a volume reads in the meaning of an image whose places these are
abbrev pub AmountIs : Sizes → Placed → ℕ → List ℕ → Amount → Type 0
AmountIs s p id image a =
    (h : ArePlaces (image_of s image) p) (v : Volume) → get h.meaning.volumes id ≡ Some v
    → a ≡ amount_of v.content
