-- What is found for the numbers of a range, in order.
use Rattle.ubi_map.proofs.Prelude.{◌≡◌, ◌∙◌, ℕ, zero, suc, ◌+◌, List, ◌++◌, ap, sym, arith, append_assoc, append-nil, flat_map, range_with_len}

pub flat_more : {A : Type 0} (f : ℕ → List A) (a n j : ℕ) → a + n ≡ j
    → flat_map f (range_with_len a (n + 1)) ≡ flat_map f (range_with_len a n) ++ f j
flat_more f a zero j at =
    let is : a ≡ j = omega arith in append-nil (f a) ∙ ap f is
flat_more f a (suc n) j at =
    let more : suc n + 1 ≡ suc (n + 1) = omega arith in
    ap (λ k. flat_map f (range_with_len a k)) more ∙ ap (λ xs. f a ++ xs) (flat_more f (a + 1) n j (omega arith))
    ∙ sym (append_assoc (f a) (flat_map f (range_with_len (a + 1) n)) (f j))
