-- What is shown of a source, whatever it may hold.
use Rattle.ubi_reading.proofs.Prelude.{◌≡◌, ℕ, ◌<◌, ◌≤◌, List, length, subst, sym, Sizes, Refusal, IsLengthFault, IsWholeSize, block, image_of, Agreed, IsSource, Source, blocks_in, blocks_of, count_blocks, Gives, says, no_block_line, refusal_line, Shows, block_lines, no_block, Outcome, shown, no_image}

module _ (s : Sizes) (k : Source) (agrees : Agreed) (is : IsSource k agrees) (bytes : List ℕ) (holds : agrees bytes) where
  pub whole : IsWholeSize s k.size → IsWholeSize s (length bytes)
  whole h = subst (IsWholeSize s) (sym (is.sized bytes holds)) h

  pub count : length (blocks_of s bytes) ≡ blocks_in s k
  count = count_blocks s k agrees bytes is holds

  module _ (p : ℕ) (o : Outcome) where
    pub of_size : (c : Refusal) → IsLengthFault s k.size c → Gives o (says (refusal_line c) 1) → Shows (image_of s bytes) p o
    of_size c fault line = no_image c (subst (λ (n : ℕ). IsLengthFault s n c) (sym (is.sized bytes holds)) fault) line

    pub of_no_block : IsWholeSize s k.size → blocks_in s k ≤ p → Gives o (says no_block_line 1) → Shows (image_of s bytes) p o
    of_no_block h far line = no_block (whole h) (subst (λ (n : ℕ). n ≤ p) (sym count) far) line

    pub of_block : IsWholeSize s k.size → p < blocks_in s k
        → Gives o (says (block_lines s (block (blocks_of s bytes) p)) 0) → Shows (image_of s bytes) p o
    of_block h near lines = shown (whole h) (subst (λ (n : ℕ). p < n) (sym count) near) lines
