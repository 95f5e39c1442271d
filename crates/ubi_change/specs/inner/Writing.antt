-- What is written of an image after the steps, eraseblock by eraseblock.
use Rattle.std.specs.Prelude.{◌≡◌, ℕ, List, length, take}
use Rattle.std.specs.List.{concat}
use Rattle.ubi_media.specs.Geometry.{Sizes}
use Rattle.ubi_scan.specs.Image.{block}
use Rattle.ubi_scan.specs.Source.{blocks_of}
use Rattle.ubi_change.specs.Steps.{block_cut, blocks_after}
use Rattle.ubi_change.specs.declared.step.Step.{Step}

-- the bytes of the eraseblock p of an image, after those of the steps that change it
abbrev pub block_text : Sizes → ℕ → List Step → List ℕ → List ℕ → Type 0
block_text s p steps image text = text ≡ block_cut s p steps (block (blocks_of s image) p)

-- the first p eraseblocks of an image, which has n of them, after the steps
abbrev pub front_text : Sizes → ℕ → ℕ → List Step → List ℕ → List ℕ → Type 0
front_text s n p steps image text =
    (length (blocks_of s image) ≡ n) × (text ≡ concat (take p (blocks_after s (blocks_of s image) steps (length steps))))
