-- The meaning of volumes whose bytes lie in a source, and how many eraseblocks its normal image has at most.
use Rattle.std.specs.Prelude.{ℕ, ◌+◌, ◌^◌, ◌<◌, List, length, sum_by}
use Rattle.ubi_media.specs.Geometry.{IsGeometry, Sizes}
use Rattle.ubi_volume.specs.Made.{IsFirstMade, NoCause, meaning_of}
use Rattle.ubi_volume.specs.Meant.{Meant}
use Rattle.ubi_laid.specs.Parts.{Reaches, items_of, pieces_of}
use Rattle.ubi_laid.specs.declared.part.Part.{Part}
use Rattle.ubi_compose.specs.declared.errors.RecipeError.{RecipeError}
use Rattle.ubi_compose.specs.declared.errors.RecipeError.TheVariants as recipe

-- volumes under sizes, each with its record and where its bytes lie in a source; and the image sequence number
pub record Parts : Type 0 where
  pub sizes : Sizes
  pub image_seq : ℕ
  pub of : List Part

-- the meaning of the volumes of parts: LEBs that are 0xFF throughout are left out
abbrev pub built : Parts → List ℕ → Meant
built ps bytes = meaning_of ps.sizes ps.image_seq (items_of ps.sizes bytes ps.of)

-- how many eraseblocks an image has at most: two for the table, and one for each piece, even if that is 0xFF throughout
abbrev pub most_blocks : Parts → ℕ
most_blocks ps = 2 + sum_by (pieces_of ps.sizes) ps.of

-- whatever the bytes of the parts are, the volumes have a meaning together
pub record HaveMeaning (ps : Parts) : Type 0 where
  pub sizes : IsGeometry ps.sizes
  pub image_seq : ps.image_seq < 2 ^ 32
  pub none : (bytes : List ℕ) → Reaches (length bytes) ps.of → NoCause ps.sizes (items_of ps.sizes bytes ps.of)

-- why they have none: whatever the bytes are, the first cause that applies; or memory ran out
abbrev pub IsRecipeError : Sizes → List Part → RecipeError → Type 0
IsRecipeError s parts (recipe.Refused c) =
    (bytes : List ℕ) → Reaches (length bytes) parts → IsFirstMade s (items_of s bytes parts) c
IsRecipeError s parts recipe.Memory = Unit {0}
