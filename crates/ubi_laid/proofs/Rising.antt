-- Elements whose numbers rise, and the eraseblocks that are made of them.
use Rattle.ubi_laid.proofs.Prelude.{◌≡◌, ℕ, zero, suc, ◌+◌, ◌<◌, T, List, [], ◌∷◌, map, refl, sym, ap, arith, ranked, is_sorted, below_all, AllByRecursion, range_with_len, is_lt, nat_cmp, flat_map, Ordering, Less, Equal, Greater, both_left, both_right, Leb, Laid, AreApart, Differ}
use Rattle.ubi_laid.proofs.DistinctLebs.{apart_append}
use Rattle.ubi_laid.proofs.Lists.{all_at, all_flat_map, all_from, all_map, range_holds}

-- each number is above those before it
abbrev pub Rises : {X : Type 0} → (X → ℕ) → List X → Type 0
Rises key [] = Unit {0}
Rises key (x ∷ xs) = AllByRecursion (λ y. key x < key y) xs × Rises key xs

pub range_rises : (a n : ℕ) → Rises (λ k. k) (range_with_len a n)
range_rises a zero = tt
range_rises a (suc n) = (
  all_from (λ k. a < k) (range_with_len (a + 1) n) (λ k h. let low = (range_holds (a + 1) n k h).0 in omega arith),
  range_rises (a + 1) n,
)

less : (r : Ordering) → T (is_lt r) → r ≡ Less
less Less p = refl
less Equal p = absurd p
less Greater p = absurd p

below_rises : {X : Type 0} (n : ℕ) (es : List (ℕ × X)) → T (below_all nat_cmp n es) → AllByRecursion (λ e. n < e.0) es
below_rises n [] h = tt
below_rises n (e ∷ es) h = (ranked n e.0 Less (sym (less _ (both_left _ _ h))), below_rises n es (both_right _ _ h))

pub entries_rise : {X : Type 0} (es : List (ℕ × X)) → T (is_sorted nat_cmp es) → Rises (λ e. e.0) es
entries_rise [] h = tt
entries_rise (e ∷ es) h = (below_rises e.0 es (both_left _ _ h), entries_rise es (both_right _ _ h))

other_lnum : (k l : Laid) (m n : ℕ) → k.header.lnum ≡ m → l.header.lnum ≡ n → m < n → Differ k l
other_lnum k l m n e f h same = let one : l.header.lnum ≡ k.header.lnum = ap (λ (of : Leb). of.1) same in omega arith

other_vol : (k l : Laid) (m n : ℕ) → k.header.vol_id ≡ m → l.header.vol_id ≡ n → m < n → Differ k l
other_vol k l m n e f h same = let one : l.header.vol_id ≡ k.header.vol_id = ap (λ (of : Leb). of.0) same in omega arith

-- one of each, whose LEB has its number
pub apart_map : {X : Type 0} (key : X → ℕ) (f : X → Laid) (xs : List X) → ((x : X) → (f x).header.lnum ≡ key x)
    → Rises key xs → AreApart (map f xs)
apart_map key f [] is h = tt
apart_map key f (x ∷ xs) is h = (
  all_map (Differ (f x)) f xs
      (λ y at. other_lnum (f x) (f y) (key x) (key y) (is x) (is y) (all_at (λ y. key x < key y) xs at.0 y h.0 at.1)),
  apart_map key f xs is h.1,
)

-- some of each, of the volume with its number
pub apart_flat_map : {X : Type 0} (key : X → ℕ) (f : X → List Laid) (xs : List X)
    → ((x : X) → AllByRecursion (λ (l : Laid). l.header.vol_id ≡ key x) (f x))
    → AllByRecursion (λ x. AreApart (f x)) xs → Rises key xs → AreApart (flat_map f xs)
apart_flat_map key f [] own each h = tt
apart_flat_map key f (x ∷ xs) own each h =
    apart_append (f x) (flat_map f xs) each.0 (apart_flat_map key f xs own each.1 h.1)
    (all_from (λ k. AllByRecursion (Differ k) (flat_map f xs)) (f x) (λ k at.
    all_flat_map (Differ k) f xs (all_from (λ y. AllByRecursion (Differ k) (f y)) xs (λ y there.
    all_from (Differ k) (f y) (λ l in_y.
    other_vol k l (key x) (key y) (all_at (λ (l : Laid). l.header.vol_id ≡ key x) (f x) at.0 k (own x) at.1)
    (all_at (λ (l : Laid). l.header.vol_id ≡ key y) (f y) in_y.0 l (own y) in_y.1)
    (all_at (λ y. key x < key y) xs there.0 y h.0 there.1))))))
