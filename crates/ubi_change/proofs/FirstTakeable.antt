-- The first of the eraseblocks that may be taken, found one by one.
use Rattle.ubi_change.proofs.Prelude.{◌≡◌, take-append-add, ℕ, zero, suc, ◌+◌, ◌-◌, ◌<◌, ◌≤◌, inl, inr, Bool, true, false, cond, not, List, [], ◌∷◌, ◌++◌, append-nil, append_assoc, length, map, refl, ap, ap₂, sym, ◌∙◌, subst, arith, None, Some, filter, range_with_len, filter-append, Sizes, BlockState, is_clean, is_takeable, FitsIn, site_at, TakeableIs, first_taken, with_next, Site, take, length-take, take-append-le, take_all, AllByRecursion, nat_lt, nat_tests, all_append, within_or_past, min, take_min}
use Rattle.std.proofs.lemmas.List.{length-append}

below : (a b : ℕ) → a < b → nat_lt a b ≡ true
below a b l = grind (arith, nat_tests)

past : (a b : ℕ) → b ≤ a → nat_lt a b ≡ false
past a b l = grind (arith, nat_tests)

-- the first n of some with one more after them
next_taken : (n : ℕ) (xs : List Site) (t : Site) → with_next n (take n xs) t ≡ take n (xs ++ t ∷ [])
next_taken n xs t = elim (within_or_past (length xs + 1) n) [
  | inl few ↦
      let all : take n xs ≡ xs = take_all n xs (omega arith) in
      let long : length (xs ++ t ∷ []) ≡ length xs + 1 = length-append xs (t ∷ []) in
      ap (λ ys. with_next n ys t) all ∙ ap (λ b. cond b (xs ++ t ∷ []) xs) (below (length xs) n (omega arith))
      ∙ sym (take_all n (xs ++ t ∷ []) (omega (arith, long, few)))
  | inr more ↦
      let size : length (take n xs) ≡ n = length-take n xs ∙ (let e : min n (length xs) ≡ n = omega arith in e) in
      ap (λ b. cond b (take n xs ++ t ∷ []) (take n xs)) (past (length (take n xs)) n (omega (arith, size)))
      ∙ sym (take-append-le n xs (t ∷ []) (omega arith))
]

-- the first n of the first n of some and of others
taken_of : (n : ℕ) (xs ys : List Site) → take n (take n xs ++ take n ys) ≡ take n (xs ++ ys)
taken_of n xs ys = more n xs n (omega arith)
  where
    more : (k : ℕ) (xs : List Site) (m : ℕ) → k ≤ m → take k (take k xs ++ take m ys) ≡ take k (xs ++ ys)
    more zero xs m l = refl
    more (suc k) [] m l = within (suc k) m ys l
      where
        within : (k m : ℕ) (ys : List Site) → k ≤ m → take k (take m ys) ≡ take k ys
        within zero m ys l = refl
        within (suc k) zero ys l = absurd (omega arith)
        within (suc k) (suc m) [] l = refl
        within (suc k) (suc m) (y ∷ ys) l = ap (λ zs. y ∷ zs) (within k m ys (omega arith))
    more (suc k) (x ∷ xs) m l = ap (λ zs. x ∷ zs) (more k xs m (omega arith))

-- some, and of others as many as there is room for
pub with_room : (n : ℕ) (xs ys : List Site) → length xs ≤ n → xs ++ take (min (length ys) (n - length xs)) ys ≡ take n (xs ++ ys)
with_room n xs ys few =
    let k : ℕ = n - length xs in
    let turned : min (length ys) k ≡ min k (length ys) = omega arith in
    let whole : length xs + k ≡ n = omega arith in
    ap (λ i. xs ++ take i ys) turned ∙ ap (λ zs. xs ++ zs) (take_min k ys) ∙ sym (take-append-add xs ys k)
    ∙ ap (λ i. take i (xs ++ ys)) whole

pub range_more : (a n m : ℕ) → range_with_len a (n + m) ≡ range_with_len a n ++ range_with_len (a + n) m
range_more a zero m = ap₂ range_with_len (omega arith) (omega arith)
range_more a (suc n) m =
    let e : a + 1 + n ≡ a + suc n = omega arith in
    let f : suc n + m ≡ suc (n + m) = omega arith in
    ap (range_with_len a) f
    ∙ ap (λ xs. a ∷ xs) (range_more (a + 1) n m ∙ ap (λ k. range_with_len (a + 1) n ++ range_with_len k m) e)

map_append : (f : ℕ → Site) (xs ys : List ℕ) → map f (xs ++ ys) ≡ map f xs ++ map f ys
map_append f [] ys = refl
map_append f (x ∷ xs) ys = ap (λ zs. f x ∷ zs) (map_append f xs ys)

-- whatever is held, they lie among n eraseblocks
pub record PartedFit (n : ℕ) (clean other : List Site) : Type 0 where
  pub cleans : AllByRecursion (FitsIn n) clean
  pub others : AllByRecursion (FitsIn n) other

fits_next : (n most : ℕ) (ts : List Site) (t : Site) → AllByRecursion (FitsIn n) ts → FitsIn n t
    → AllByRecursion (FitsIn n) (with_next most ts t)
fits_next n most ts t all fits = by_test (nat_lt (length ts) most)
  where
    by_test : (b : Bool) → AllByRecursion (FitsIn n) (cond b (ts ++ t ∷ []) ts)
    by_test true = all_append (FitsIn n) ts (t ∷ []) all (fits, tt)
    by_test false = all

pub more_fit : (n most : ℕ) (clean other : List Site) (t : Site) → PartedFit n clean other → FitsIn n t
    → PartedFit n (cond t.is_clean (with_next most clean t) clean) (cond t.is_clean other (with_next most other t))
more_fit n most clean other t fit fits = by_kind t.is_clean
  where
    by_kind : (b : Bool) → PartedFit n (cond b (with_next most clean t) clean) (cond b other (with_next most other t))
    by_kind true = record { cleans = fits_next n most clean t fit.cleans fits; others = fit.others }
    by_kind false = record { cleans = fit.cleans; others = fits_next n most other t fit.others fits }

few_next : (most : ℕ) (ts : List Site) (t : Site) → length ts ≤ most → length (with_next most ts t) ≤ most
few_next most ts t few = elim (within_or_past (length ts + 1) most) [
  | inl less ↦
      let long : length (ts ++ t ∷ []) ≡ length ts + 1 = length-append ts (t ∷ []) in
      rw (below (length ts) most (omega arith)) (omega (arith, long, less))
  | inr more ↦ rw (past (length ts) most (omega arith)) few
]

pub more_few : (most : ℕ) (ts : List Site) (t : Site) (b : Bool) → length ts ≤ most → length (cond b (with_next most ts t) ts) ≤ most
more_few most ts t true few = few_next most ts t few
more_few most ts t false few = few

first_fit : (n most : ℕ) (ts : List Site) → AllByRecursion (FitsIn n) ts → AllByRecursion (FitsIn n) (take most ts)
first_fit n zero ts all = tt
first_fit n (suc most) [] all = tt
first_fit n (suc most) (t ∷ ts) all = (all.0, first_fit n most ts all.1)

-- so do the first of them
pub all_fit : (n most : ℕ) (clean other : List Site) → PartedFit n clean other → AllByRecursion (FitsIn n) (take most (clean ++ other))
all_fit n most clean other fit = first_fit n most (clean ++ other) (all_append (FitsIn n) clean other fit.cleans fit.others)

module _ (s : Sizes) (bs : List (List ℕ)) (states : List BlockState) (most : ℕ) where
  abbrev site : ℕ → Site
  site p = site_at s bs states p

  -- those of some numbers that may be taken, and are clean or aren't
  abbrev clean_of : List ℕ → List Site
  clean_of ps = map site (filter (is_clean s bs states) (filter (is_takeable s bs states) ps))

  abbrev other_of : List ℕ → List Site
  other_of ps = map site (filter (λ p. not (is_clean s bs states p)) (filter (is_takeable s bs states) ps))

  -- the first of both kinds below a number
  pub record AreParted (n : ℕ) (clean other : List Site) : Type 0 where
    pub cleans : clean ≡ take most (clean_of (range_with_len 0 n))
    pub others : other ≡ take most (other_of (range_with_len 0 n))

  clean-append : (ps qs : List ℕ) → clean_of (ps ++ qs) ≡ clean_of ps ++ clean_of qs
  clean-append ps qs =
      ap (λ xs. map site (filter (is_clean s bs states) xs)) (filter-append (is_takeable s bs states) ps qs)
      ∙ ap (map site) (filter-append (is_clean s bs states) (filter (is_takeable s bs states) ps) (filter (is_takeable s bs states) qs))
      ∙ map_append site _ _

  other-append : (ps qs : List ℕ) → other_of (ps ++ qs) ≡ other_of ps ++ other_of qs
  other-append ps qs =
      ap (λ xs. map site (filter (λ p. not (is_clean s bs states p)) xs)) (filter-append (is_takeable s bs states) ps qs)
      ∙ ap (map site) (filter-append (λ p. not (is_clean s bs states p)) (filter (is_takeable s bs states) ps)
      (filter (is_takeable s bs states) qs))
      ∙ map_append site _ _

  -- one number more
  module _ (p : ℕ) (clean other : List Site) (are : AreParted p clean other) where
    here : range_with_len 0 (p + 1) ≡ range_with_len 0 p ++ p ∷ []
    here = range_more 0 p 1 ∙ ap (λ k. range_with_len 0 p ++ k ∷ []) (omega arith)

    clean_next : (xs : List Site) → clean_of (p ∷ []) ≡ xs → clean_of (range_with_len 0 p) ++ xs ≡ clean_of (range_with_len 0 (p + 1))
    clean_next xs e = sym (ap clean_of here ∙ clean-append (range_with_len 0 p) (p ∷ []) ∙ ap (λ ys. clean_of (range_with_len 0 p) ++ ys) e)

    other_next : (xs : List Site) → other_of (p ∷ []) ≡ xs → other_of (range_with_len 0 p) ++ xs ≡ other_of (range_with_len 0 (p + 1))
    other_next xs e = sym (ap other_of here ∙ other-append (range_with_len 0 p) (p ∷ []) ∙ ap (λ ys. other_of (range_with_len 0 p) ++ ys) e)

    -- that is none of a kind
    same : (ts xs ys : List Site) → ts ≡ take most xs → xs ++ [] ≡ ys → ts ≡ take most ys
    same ts xs ys e more = e ∙ ap (take most) (sym (append-nil xs) ∙ more)

    -- that is one of a kind
    one : (ts xs ys : List Site) (t : Site) → ts ≡ take most xs → xs ++ t ∷ [] ≡ ys → with_next most ts t ≡ take most ys
    one ts xs ys t e more = ap (λ zs. with_next most zs t) e ∙ next_taken most xs t ∙ ap (take most) more

    none_more : is_takeable s bs states p ≡ false → AreParted (p + 1) clean other
    none_more e = record {
      cleans = same clean (clean_of (range_with_len 0 p)) (clean_of (range_with_len 0 (p + 1))) are.cleans
          (clean_next [] (ap (λ b. map site (filter (is_clean s bs states) (cond b (p ∷ []) []))) e));
      others = same other (other_of (range_with_len 0 p)) (other_of (range_with_len 0 (p + 1))) are.others
          (other_next [] (ap (λ b. map site (filter (λ p. not (is_clean s bs states p)) (cond b (p ∷ []) []))) e));
    }

    one_more : is_takeable s bs states p ≡ true → (b : Bool) → is_clean s bs states p ≡ b
        → AreParted (p + 1) (cond b (with_next most clean (site p)) clean) (cond b other (with_next most other (site p)))
    one_more able true e = record {
      cleans = one clean (clean_of (range_with_len 0 p)) (clean_of (range_with_len 0 (p + 1))) (site p) are.cleans
          (clean_next (site p ∷ [])
          (ap (λ b. map site (filter (is_clean s bs states) (cond b (p ∷ []) []))) able ∙ ap (λ b. map site (cond b (p ∷ []) [])) e));
      others = same other (other_of (range_with_len 0 p)) (other_of (range_with_len 0 (p + 1))) are.others
          (other_next []
          (ap (λ b. map site (filter (λ p. not (is_clean s bs states p)) (cond b (p ∷ []) []))) able ∙ ap (λ b. map site (cond (not b) (p ∷ []) [])) e));
    }
    one_more able false e = record {
      cleans = same clean (clean_of (range_with_len 0 p)) (clean_of (range_with_len 0 (p + 1))) are.cleans
          (clean_next []
          (ap (λ b. map site (filter (is_clean s bs states) (cond b (p ∷ []) []))) able ∙ ap (λ b. map site (cond b (p ∷ []) [])) e));
      others = one other (other_of (range_with_len 0 p)) (other_of (range_with_len 0 (p + 1))) (site p) are.others
          (other_next (site p ∷ [])
          (ap (λ b. map site (filter (λ p. not (is_clean s bs states p)) (cond b (p ∷ []) []))) able ∙ ap (λ b. map site (cond (not b) (p ∷ []) [])) e));
    }

    -- which may not be taken
    pub parted_same : TakeableIs s bs states p None → AreParted (p + 1) clean other
    parted_same is = by_test (is_takeable s bs states p) refl is
      where
        by_test : (b : Bool) → is_takeable s bs states p ≡ b → None ≡ cond b (Some (site p)) None → AreParted (p + 1) clean other
        by_test true e is = absurd (cc)
        by_test false e is = none_more e

    -- which may be taken
    pub parted_some : (t : Site) → TakeableIs s bs states p (Some t)
        → AreParted (p + 1) (cond t.is_clean (with_next most clean t) clean) (cond t.is_clean other (with_next most other t))
    parted_some t is = by_test (is_takeable s bs states p) refl is
      where
        it : (u : Site) → Some t ≡ Some u → t ≡ u
        it u e = cc

        by_test : (b : Bool) → is_takeable s bs states p ≡ b → Some t ≡ cond b (Some (site p)) None
            → AreParted (p + 1) (cond t.is_clean (with_next most clean t) clean) (cond t.is_clean other (with_next most other t))
        by_test true e is = subst (λ (u : Site). AreParted (p + 1) (cond u.is_clean (with_next most clean u) clean) (cond u.is_clean other (with_next most other u)))
            (sym (it (site p) is)) (one_more e (is_clean s bs states p) refl)
        by_test false e is = absurd (cc)

  -- the first of all
  pub parted_all : (clean other : List Site) → AreParted (length bs) clean other → take most (clean ++ other) ≡ first_taken s bs states most
  parted_all clean other are =
      ap₂ (λ (xs ys : List Site). take most (xs ++ ys)) are.cleans are.others
      ∙ taken_of most (clean_of (range_with_len 0 (length bs))) (other_of (range_with_len 0 (length bs)))
      ∙ ap (take most) (sym (map_append site _ _))

  -- and where there are enough clean ones
  pub parted_enough : (n : ℕ) → n ≤ length bs → (clean other : List Site) → AreParted n clean other → length clean ≡ most
      → take most (clean ++ other) ≡ first_taken s bs states most
  parted_enough n few clean other are enough =
      let all : length bs ≡ n + (length bs - n) = omega arith in
      let front = clean_of (range_with_len 0 n) in
      let behind = clean_of (range_with_len (0 + n) (length bs - n)) in
      let rest = other_of (range_with_len 0 (length bs)) in
      let whole : clean_of (range_with_len 0 (length bs)) ≡ front ++ behind =
      ap (λ k. clean_of (range_with_len 0 k)) all ∙ ap clean_of (range_more 0 n (length bs - n)) ∙ clean-append _ _ in
      let long : most ≤ length front =
      (let size = length-take most front in let e = ap length are.cleans in omega (arith, size, e, enough)) in
      take-append-le most clean other (omega (arith, enough)) ∙ take_all most clean (omega (arith, enough)) ∙ are.cleans
      ∙ sym (take-append-le most front (behind ++ rest) long)
      ∙ ap (take most) (sym (append_assoc front behind rest) ∙ ap (λ xs. xs ++ rest) (sym whole) ∙ sym (map_append site _ _))
