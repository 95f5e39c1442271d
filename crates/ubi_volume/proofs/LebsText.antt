-- What the LEBs of a dynamic volume read, in order.
use Rattle.ubi_volume.proofs.Prelude.{◌≡◌, ℕ, zero, suc, ◌+◌, ◌-◌, ◌*◌, ◌<◌, ◌≤◌, List, ◌∷◌, ◌++◌, length, take, ap, sym, ◌∙◌, subst, arith, length-append, append-nil, take-append-add, flat_map-append, mul-le, length-replicate, take-append-le, FinMap, get, Appends, range_with_len, nat_cmp, IfSome, Option, Some, None, flat_map, Appends-trans, leb_text, lebs_text}

pub range_append : (a n m : ℕ) → range_with_len a (n + m) ≡ range_with_len a n ++ range_with_len (a + n) m
range_append a zero m =
    let none : 0 + m ≡ m = omega arith in
    let start : a + 0 ≡ a = omega arith in
    ap (range_with_len a) none ∙ ap (λ k. range_with_len k m) (sym start)
range_append a (suc n) m =
    let more : suc n + m ≡ suc (n + m) = omega arith in
    let start : a + 1 + n ≡ a + suc n = omega arith in
    ap (range_with_len a) more ∙ ap (λ xs. a ∷ xs) (range_append (a + 1) n m
    ∙ ap (λ k. range_with_len (a + 1) n ++ range_with_len k m) start)

-- each is of one size
size_of : (size : ℕ) (kept : Option (List ℕ)) → IfSome kept (λ text. length text ≡ size)
    → length (leb_text size kept) ≡ size
size_of size None h = length-replicate size 255
size_of size (Some text) h = h

module _ (size : ℕ) (lebs : FinMap nat_cmp (List ℕ)) where
  -- those below n, and then n and the ones behind it
  cut : (n rest : ℕ) → lebs_text size lebs (n + suc rest) ≡ lebs_text size lebs n
      ++ (leb_text size (get lebs n) ++ flat_map (λ lnum. leb_text size (get lebs lnum)) (range_with_len (n + 1) rest))
  cut n rest =
      let f : ℕ → List ℕ = λ lnum. leb_text size (get lebs lnum) in
      let start : 0 + n ≡ n = omega arith in
      ap (flat_map f) (range_append 0 n (suc rest) ∙ ap (λ k. range_with_len 0 n ++ range_with_len k (suc rest)) start)
      ∙ flat_map-append f (range_with_len 0 n) (n ∷ range_with_len (n + 1) rest)

  pub lebs_more : (n : ℕ) → lebs_text size lebs (n + 1) ≡ lebs_text size lebs n ++ leb_text size (get lebs n)
  lebs_more n = cut n 0 ∙ ap (λ xs. lebs_text size lebs n ++ xs) (append-nil (leb_text size (get lebs n)))

  module _ (sized : (lnum : ℕ) → IfSome (get lebs lnum) (λ text. length text ≡ size)) where
    pub length-lebs : (n : ℕ) → length (lebs_text size lebs n) ≡ n * size
    length-lebs zero = omega arith
    length-lebs (suc n) =
        let next : n + 1 ≡ suc n = omega arith in
        let one = size_of size (get lebs n) (sized n) in
        let below = length-lebs n in
        ap (λ k. length (lebs_text size lebs k)) (sym next) ∙ ap length (lebs_more n)
        ∙ length-append (lebs_text size lebs n) (leb_text size (get lebs n))
        ∙ omega (arith, one, below)

    -- the text up to a place in n
    pub lebs_part : (n m k : ℕ) → n < m → k ≤ size → take (n * size + k) (lebs_text size lebs m) ≡ lebs_text size lebs n
        ++ take k (leb_text size (get lebs n))
    lebs_part n m k inside less =
        let rest = m - (n + 1) in
        let f : ℕ → List ℕ = λ lnum. leb_text size (get lebs lnum) in
        let all : m ≡ n + suc rest = omega arith in
        let at : n * size + k ≡ length (lebs_text size lebs n) + k = ap (λ j. j + k) (sym (length-lebs n)) in
        let within : k ≤ length (leb_text size (get lebs n)) = omega (arith, size_of size (get lebs n) (sized n)) in
        ap (take (n * size + k)) (ap (lebs_text size lebs) all ∙ cut n rest)
        ∙ ap
        (λ j. take j (lebs_text size lebs n
        ++ (leb_text size (get lebs n) ++ flat_map f (range_with_len (n + 1) rest)))) at
        ∙ take-append-add (lebs_text size lebs n)
        (leb_text size (get lebs n) ++ flat_map f (range_with_len (n + 1) rest)) k
        ∙ ap (λ xs. lebs_text size lebs n ++ xs)
        (take-append-le k (leb_text size (get lebs n)) (flat_map f (range_with_len (n + 1) rest)) within)

    -- what a writer received that failed at a place in n
    pub lebs_failed : (a b c : Option (List ℕ)) (n m k : ℕ) → n < m → k ≤ size → Appends a b (lebs_text size lebs n)
        → Appends b c (take k (leb_text size (get lebs n)))
        → Appends a c (take (n * size + k) (lebs_text size lebs m))
    lebs_failed a b c n m k inside less before next = subst (Appends a c) (sym (lebs_part n m k inside less))
        (Appends-trans a b c _ _ before next)

    pub lebs_short : (n m k : ℕ) → n < m → k < size → n * size + k < length (lebs_text size lebs m)
    lebs_short n m k inside less =
        let whole : (n + 1) * size ≤ m * size = mul-le (n + 1) size m size (omega arith) (omega arith) in
        let all = length-lebs m in
        let next : (n + 1) * size ≡ n * size + size = omega arith in
        omega arith
