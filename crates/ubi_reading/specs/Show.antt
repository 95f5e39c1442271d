-- What is shown for one eraseblock.
use Rattle.std.specs.Prelude.{ℕ, ◌<◌, ◌≤◌, List, length}
use Rattle.ubi_media.specs.Geometry.{Sizes}
use Rattle.ubi_media.specs.declared.refusal.Refusal.{Refusal}
use Rattle.ubi_scan.specs.Image.{Image, IsLengthFault, IsSizeFault, IsWholeImage, IsWholeSize, block, eraseblocks, image_of}
use Rattle.ubi_scan.specs.Source.{Agreed, Source, WhereHeld, blocks_in}
use Rattle.ubi_files.specs.Answer.{Gives, says}
use Rattle.ubi_map.specs.Headers.{AreHeaderLines, block_lines}
use Rattle.ubi_reading.specs.Lines.{no_block_line}
use Rattle.ubi_files.specs.Lines.{refusal_line}
use Rattle.ubi_files.specs.declared.outcome.Outcome.{Outcome}

-- what the command answers for the eraseblock p: the line of bytes that are no image, that of an eraseblock that
-- doesn't exist, or the lines of its headers
pub data Shows (image : Image) (p : ℕ) : Outcome → Type 0 where
  no_image : {o : Outcome} (c : Refusal) → IsSizeFault image c → Gives o (says (refusal_line c) 1) → Shows image p o
  no_block : {o : Outcome} → IsWholeImage image → length (eraseblocks image) ≤ p → Gives o (says no_block_line 1) → Shows image p o
  shown : {o : Outcome} → IsWholeImage image → p < length (eraseblocks image)
      → Gives o (says (block_lines image.sizes (block (eraseblocks image) p)) 0) → Shows image p o

-- what it answers for any source: the line of one that doesn't have the size of an image, that of an eraseblock that
-- doesn't exist, or the lines of two headers
pub data ShowsFrom (s : Sizes) (k : Source) (p : ℕ) : Outcome → Type 0 where
  no_size : {o : Outcome} (c : Refusal) → IsLengthFault s k.size c → Gives o (says (refusal_line c) 1) → ShowsFrom s k p o
  no_block_from : {o : Outcome} → IsWholeSize s k.size → blocks_in s k ≤ p → Gives o (says no_block_line 1) → ShowsFrom s k p o
  shown_from : {o : Outcome} (lines : List ℕ) → IsWholeSize s k.size → p < blocks_in s k → AreHeaderLines s lines
      → Gives o (says lines 0) → ShowsFrom s k p o

-- what it answers for a source: the answer for the image, whatever the source may hold
abbrev pub ShowsOf : ℕ → Sizes → Source → Agreed → Outcome → Type 0
ShowsOf p s k agrees o = ShowsFrom s k p o × WhereHeld agrees (λ bytes. Shows (image_of s bytes) p o)
