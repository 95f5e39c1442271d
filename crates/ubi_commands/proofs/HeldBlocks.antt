-- What is read of a file where an eraseblock lies is what is read of the eraseblock.
use Rattle.ubi_commands.proofs.Prelude.{◌≡◌, ℕ, ◌+◌, ◌≤◌, cond, List, length, take, ap, sym, ◌∙◌, arith, list_all, slice_range, le-leb, big_number, field, key_at, key_in, all_are, number_at, inner_range}
use Rattle.std.specs.Prelude.{◌==◌, ◌&&◌}

module _ (file b : List ℕ) (at : ℕ) (here : slice_range file at (at + length b) ≡ b) (inside : at + length b ≤ length file) where
  pub number_here : (x : ℕ) → x + 4 ≤ length b → number_at file (at + x) ≡ field 4 x b
  number_here x few =
      ap (λ c. cond c (big_number 4 (slice_range file (at + x) (at + x + 4))) 0) (le-leb (at + x + 4) (length file) (omega (arith, few, inside)))
      ∙ ap (big_number 4) (inner_range file b at x 4 here few)

  pub all_here : (v n x : ℕ) → x + n ≤ length b → all_are v n file (at + x) ≡ list_all (λ y. y == v) (slice_range b x (x + n))
  all_here v n x few =
      ap (λ c. c && list_all (λ y. y == v) (slice_range file (at + x) (at + x + n))) (le-leb (at + x + n) (length file) (omega (arith, few, inside)))
      ∙ ap (list_all (λ y. y == v)) (inner_range file b at x n here few)

  pub key_here : 64 ≤ length b → key_at file at ≡ key_in (take 64 b)
  key_here few =
      let none : at + 0 ≡ at = omega arith in
      ap (key_at file) (sym none) ∙ ap key_in (inner_range file b at 0 64 here few)
