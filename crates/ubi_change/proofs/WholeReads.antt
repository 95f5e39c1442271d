-- What is read of an eraseblock, in the bytes that a source may hold.
use Rattle.ubi_change.proofs.Prelude.{◌≡◌, ℕ, ◌+◌, ◌-◌, ◌/◌, ◌<◌, List, length, drop, sym, ◌∙◌, subst, arith, length-drop, slice_range, div-mul-le_self, take_all, Sizes, block, Agreed, IsSource, Source, blocks_in, blocks_of, length-of_chunk, part_is}

module _ (s : Sizes) (k : Source) (agrees : Agreed) (is : IsSource k agrees) (bytes : List ℕ) (holds : agrees bytes) (p : ℕ)
    (inside : p < blocks_in s k) where
  -- an eraseblock is whole
  pub block_whole : length (block (blocks_of s bytes) p) ≡ s.peb_size
  block_whole = length-of_chunk s.peb_size (length bytes / s.peb_size) bytes p (div-mul-le_self (length bytes) s.peb_size)
      (subst (λ (m : ℕ). p < m / s.peb_size) (sym (is.sized bytes holds)) inside)

  -- all behind its first 64 bytes
  pub behind_header : (n : ℕ) → n ≡ s.peb_size - 64
      → slice_range (block (blocks_of s bytes) p) 64 (64 + n) ≡ drop 64 (block (blocks_of s bytes) p)
  behind_header n e =
      let b = block (blocks_of s bytes) p in
      part_is b 64 n ∙ take_all n (drop 64 b) (omega (arith, length-drop 64 b, block_whole, e))
