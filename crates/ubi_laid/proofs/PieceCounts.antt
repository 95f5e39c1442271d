-- How many pieces a length has.
use Rattle.ubi_laid.proofs.Prelude.{◌≡◌, ℕ, ◌+◌, ◌*◌, ◌≤◌, inl, inr, arith, div_ceil_times, mul-le, div_ceil, within_or_past, pieces_few, pieces_suffice, pieces}

-- the pieces of a length are its quotient, rounded up
pub div_ceil-pieces : (n size : ℕ) → 1 ≤ size → div_ceil n size ≡ pieces size n
div_ceil-pieces n size some =
    let up : ℕ = div_ceil n size in
    let bounds = div_ceil_times n size some in
    let low = bounds.0 in
    let high = bounds.1 in
    let few = pieces_few size some n up low in
    let all = pieces_suffice size some n in
    let most : up ≤ pieces size n = elim (within_or_past up (pieces size n)) [
      | inl few ↦ few
      | inr more ↦ absurd (let m = mul-le (pieces size n + 1) size up size (omega arith) (omega arith) in
          let next : (pieces size n + 1) * size ≡ pieces size n * size + size = omega arith in
          omega (arith, m, next, all, high))
    ] in
    omega (arith, few, most)
