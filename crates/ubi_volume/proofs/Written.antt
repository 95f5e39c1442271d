-- What a writer received in several writes.
use Rattle.ubi_volume.proofs.Prelude.{◌≡◌, ℕ, ◌+◌, ◌-◌, ◌≤◌, List, ◌++◌, ap, sym, ◌∙◌, subst, take, drop, length, Appends, Appends-trans, take-add, replicate-append-replicate, take-replicate, take_rest, blank}
use Rattle.std.proofs.Common.{Option}

-- one more write, of the first m of the bytes behind n
pub Appends-next : (a b c : Option (List ℕ)) (n m : ℕ) (bs : List ℕ) → Appends a b (take n bs)
    → Appends b c (take m (take (length bs - n) (drop n bs))) → Appends a c (take (n + m) bs)
Appends-next a b c n m bs before next =
    let moved : Appends b c (take m (drop n bs)) = subst (λ (l : List ℕ). Appends b c (take m l))
    (take_rest bs n) next in
    subst (Appends a c) (sym (take-add n m bs)) (Appends-trans a b c _ _ before moved)

-- bytes 0xFF, and then the first m of k more
pub blank_next : (a b c : Option (List ℕ)) (n m k : ℕ) → m ≤ k → Appends a b (blank n) → Appends b c (take m (blank k))
    → Appends a c (blank (n + m))
blank_next a b c n m k h before next =
    let same : blank n ++ take m (blank k) ≡ blank (n + m) = ap (λ x. blank n ++ x) (take-replicate m k 255 h)
    ∙ replicate-append-replicate n m 255 in
    subst (Appends a c) same (Appends-trans a b c _ _ before next)

-- and then the first j of these
pub blank_part : (a b c : Option (List ℕ)) (n j m k : ℕ) → j ≤ m → m ≤ k → Appends a b (blank n)
    → Appends b c (take j (take m (blank k)))
    → Appends a c (blank (n + j))
blank_part a b c n j m k less h before next =
    let same : take j (take m (blank k)) ≡ take j (blank m) = ap (take j) (take-replicate m k 255 h) in
    blank_next a b c n j m less before (subst (Appends b c) same next)
