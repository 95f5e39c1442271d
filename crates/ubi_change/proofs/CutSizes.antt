-- The bytes of an image after steps within its eraseblocks: there are as many, and they are cut into what the steps
-- leave.
use Rattle.ubi_change.proofs.Prelude.{◌≡◌, ◌≢◌, ℕ, zero, suc, ◌*◌, ◌/◌, ◌<◌, Bool, true, false, List, [], ◌∷◌, length, get_or, set, refl, ap, sym, ◌∙◌, subst, arith, length-set, get_or-set_other, get_or-set_same, concat, first_chunks, div-add-mod, div-mul-le_self, nat_tests, length-replicate, Sizes, IsWholeSize, block, blocks_of, first_chunks-concat, length-concat, length-first_chunks, length-of_chunk, AllWithin, FitsBlock, blocks_after, block_after, step_done, target, Step}
use Rattle.std.proofs.Common.{◌==◌}
use Rattle.ubi_change.specs.declared.step.Step.TheVariants as step
use Rattle.ubi_change.proofs.Stepped.{length-written}

test_same : (a b : ℕ) → (a == b) ≡ true → a ≡ b
test_same a b e = grind (arith, nat_tests)

test_other : (a b : ℕ) → (a == b) ≡ false → a ≢ b
test_other a b e = grind (arith, nat_tests)

module _ (s : Sizes) (some : 0 < s.page) where
  -- an eraseblock keeps its size
  pub block_sized : (b : List ℕ) (next : Step) → length b ≡ s.peb_size → FitsBlock s next → length (block_after s b next) ≡ s.peb_size
  block_sized b (step.Erase p) long fits = length-replicate s.peb_size 255
  block_sized b (step.Program p page x) long fits =
      length-written s.page page x b some fits.1 (subst (λ n. page < n / s.page) (sym long) fits.0) ∙ long

  abbrev AllSized : List (List ℕ) → Type 0
  AllSized bs = (i : ℕ) → i < length bs → length (get_or bs i []) ≡ s.peb_size

  step_sized : (bs : List (List ℕ)) (next : Step) → AllSized bs → target next < length bs → FitsBlock s next
      → AllSized (step_done s bs next)
  step_sized bs next all inside fits i l = by_test (i == target next) refl
    where
      below : i < length bs
      below = omega (arith, l, length-set bs (target next) (block_after s (block bs (target next)) next))

      by_test : (t : Bool) → (i == target next) ≡ t → length (get_or (set bs (target next) (block_after s (block bs (target next)) next)) i []) ≡ s.peb_size
      by_test true e =
          let same = test_same i (target next) e in
          ap (λ j. length (get_or (set bs (target next) (block_after s (block bs (target next)) next)) j [])) same
          ∙ ap length (get_or-set_same bs (target next) (block_after s (block bs (target next)) next) [] inside)
          ∙ block_sized (block bs (target next)) next (all (target next) inside) fits
      by_test false e =
          ap length (get_or-set_other bs (target next) i (block_after s (block bs (target next)) next) [] (test_other i (target next) e))
          ∙ all i below

  after_sized : (n : ℕ) (bs : List (List ℕ)) → length bs ≡ n → AllSized bs → (steps : List Step) → AllWithin s n steps → (k : ℕ)
      → AllSized (blocks_after s bs steps k) × (length (blocks_after s bs steps k) ≡ n)
  after_sized n bs count all [] within zero = (all, count)
  after_sized n bs count all [] within (suc k) = (all, count)
  after_sized n bs count all (x ∷ xs) within zero = (all, count)
  after_sized n bs count all (x ∷ xs) within (suc k) =
      let first = within 0 x refl in
      after_sized n (step_done s bs x) (length-set bs (target x) (block_after s (block bs (target x)) x) ∙ count)
      (step_sized bs x all (omega (arith, first.0, count)) first.1) xs (λ j next e. within (suc j) next e) k

  module _ (bytes : List ℕ) (whole : IsWholeSize s (length bytes)) (steps : List Step)
      (within : AllWithin s (length bytes / s.peb_size) steps) (k : ℕ) where
    abbrev left : List (List ℕ)
    left = blocks_after s (blocks_of s bytes) steps k

    sized : AllSized left × (length left ≡ length bytes / s.peb_size)
    sized = after_sized (length bytes / s.peb_size) (blocks_of s bytes) (length-first_chunks s.peb_size (length bytes / s.peb_size) bytes)
        (λ i l. length-of_chunk s.peb_size (length bytes / s.peb_size) bytes i (div-mul-le_self (length bytes) s.peb_size)
        (omega (arith, l, length-first_chunks s.peb_size (length bytes / s.peb_size) bytes))) steps within k

    pub length-cut : length (concat left) ≡ length bytes
    length-cut =
        let parts = div-add-mod (length bytes) s.peb_size in
        let cut = whole.cut in
        let turned : s.peb_size * (length bytes / s.peb_size) ≡ length bytes / s.peb_size * s.peb_size = omega arith in
        length-concat s.peb_size left sized.0 ∙ ap (λ n. n * s.peb_size) sized.1 ∙ omega arith

    pub blocks-cut : blocks_of s (concat left) ≡ left
    blocks-cut = ap (λ n. first_chunks s.peb_size (n / s.peb_size) (concat left)) length-cut
        ∙ ap (λ n. first_chunks s.peb_size n (concat left)) (sym sized.1) ∙ first_chunks-concat s.peb_size left sized.0
