-- The steps on one eraseblock, among all steps.
use Rattle.ubi_change.proofs.Prelude.{◌≡◌, ◌≢◌, ℕ, ◌<◌, Bool, true, false, cond, List, [], ◌∷◌, length, set, refl, ap, sym, ◌∙◌, arith, length-set, get_or-set_other, get_or-set_same, fold, nat_tests, Sizes, block, block_after, step_done, target, block_cut, block_step, Step}
use Rattle.std.proofs.Common.{◌==◌}

same_test : (a b : ℕ) → a ≡ b → (a == b) ≡ true
same_test a b e = grind (arith, nat_tests)

other_test : (a b : ℕ) → a ≢ b → (a == b) ≡ false
other_test a b ne = grind (arith, nat_tests)

test_same : (a b : ℕ) → (a == b) ≡ true → a ≡ b
test_same a b e = grind (arith, nat_tests)

test_other : (a b : ℕ) → (a == b) ≡ false → a ≢ b
test_other a b e = grind (arith, nat_tests)

module _ (s : Sizes) (p : ℕ) where
  pub step_here : (b : List ℕ) (next : Step) → target next ≡ p → block_after s b next ≡ block_step s p b next
  step_here b next e = ap (λ t. cond t (block_after s b next) b) (sym (same_test (target next) p e))

  pub step_elsewhere : (b : List ℕ) (next : Step) → target next ≢ p → b ≡ block_step s p b next
  step_elsewhere b next ne = ap (λ t. cond t (block_after s b next) b) (sym (other_test (target next) p ne))

  one_step : (bs : List (List ℕ)) (next : Step) → p < length bs
      → block (step_done s bs next) p ≡ block_step s p (block bs p) next
  one_step bs next inside = by_test (target next == p) refl
    where
      by_test : (t : Bool) → (target next == p) ≡ t
          → block (step_done s bs next) p ≡ cond t (block_after s (block bs p) next) (block bs p)
      by_test true e =
          let here = test_same (target next) p e in
          ap (λ q. block (set bs q (block_after s (block bs q) next)) p) here
          ∙ get_or-set_same bs p (block_after s (block bs p) next) [] inside
      by_test false e = get_or-set_other bs (target next) p (block_after s (block bs (target next)) next) []
          (λ same. test_other (target next) p e (sym same))

  -- an eraseblock after some steps
  pub block_done : (bs : List (List ℕ)) (steps : List Step) → p < length bs
      → block (fold (step_done s) bs steps) p ≡ block_cut s p steps (block bs p)
  block_done bs [] inside = refl
  block_done bs (x ∷ xs) inside =
      block_done (step_done s bs x) xs (omega (arith, length-set bs (target x) (block_after s (block bs (target x)) x)))
      ∙ ap (block_cut s p xs) (one_step bs x inside)
