-- Cases of numbers that the standard library doesn't have in this form.
use Rattle.ubi_media.proofs.Prelude.{◌≡◌, ℕ, ◌+◌, ◌<◌, ◌≤◌, ◌⊎◌, arith}

pub zero_or_more : (q : ℕ) → (q ≡ 0) ⊎ (1 ≤ q)
zero_or_more q = grind arith

pub within_or_past : (a b : ℕ) → (a ≤ b) ⊎ (b < a)
within_or_past a b = grind arith

pub below_or_last : (q n : ℕ) → q < n + 1 → (q < n) ⊎ (q ≡ n)
below_or_last q n h = grind arith

pub below_same_or_above : (a b : ℕ) → (a < b) ⊎ (a ≡ b) ⊎ (b < a)
below_same_or_above a b = grind arith
