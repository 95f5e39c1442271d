-- Where the volume with a number stands.
use Rattle.ubi_compose.proofs.Prelude.{add-zero, ◌≡◌, ◌<◌, ℕ, ◌+◌, ◌==◌, Bool, true, false, cond, List, [], ◌∷◌, ◌++◌, length, map, refl, sym, ap, ◌∙◌, arith, Option, Some, None, find, is_some, option_map, slice_get, slice_set, position_from, option_or, nat_tests, get_or_at, length-map, map-append, set_at, slice_get-get_or, slice_get-map, find-append}
use Rattle.std.proofs.lemmas.List.{length-append}

abbrev has : {X : Type 0} → ℕ → ℕ × X → Bool
has id e = e.0 == id

pub same_number : (n : ℕ) → (n == n) ≡ true
same_number n = grind (arith, nat_tests)

pub other_number : (n m : ℕ) → (n == m) ≡ false → (m == n) ≡ false
other_number n m h = grind (arith, nat_tests)

pub equal_number : (n m : ℕ) → (n == m) ≡ true → n ≡ m
equal_number n m h = grind (arith, nat_tests)

module _ {K : Type 0} (t : K → Bool) where
  end_by : (x y : K) (xs : List K) (i : ℕ) (b : Bool)
      → position_from t (i + 1) (xs ++ y ∷ [])
      ≡ option_or (position_from t (i + 1) xs) (cond (t y) (Some (i + 1 + length xs)) None)
      → cond b (Some i) (position_from t (i + 1) (xs ++ y ∷ []))
      ≡ option_or (cond b (Some i) (position_from t (i + 1) xs)) (cond (t y) (Some (i + length (x ∷ xs))) None)
  end_by x y xs i true h = refl
  end_by x y xs i false h =
      let e : i + 1 + length xs ≡ i + length (x ∷ xs) = omega arith in
      h ∙ ap (λ n. option_or (position_from t (i + 1) xs) (cond (t y) (Some n) None)) e

  -- of a list with one element more
  pub place_end : (xs : List K) (y : K) (i : ℕ)
      → position_from t i (xs ++ y ∷ []) ≡ option_or (position_from t i xs) (cond (t y) (Some (i + length xs)) None)
  place_end [] y i = ap (λ n. cond (t y) (Some n) None) (sym (add-zero i))
  place_end (x ∷ xs) y i = end_by x y xs i (t x) (place_end xs y (i + 1))

  below_by : (x : K) (xs : List K) (i k : ℕ) (b : Bool)
      → ((k : ℕ) → position_from t (i + 1) xs ≡ Some k → k < i + 1 + length xs)
      → cond b (Some i) (position_from t (i + 1) xs) ≡ Some k → k < i + length (x ∷ xs)
  below_by x xs i k true more h = let e : i ≡ k = cc in omega arith
  below_by x xs i k false more h = let l = more k h in omega arith

  pub place_below : (xs : List K) (i k : ℕ) → position_from t i xs ≡ Some k → k < i + length xs
  place_below [] i k h = absurd (cc)
  place_below (x ∷ xs) i k h = below_by x xs i k (t x) (place_below xs (i + 1)) h

module _ {X : Type 0} where
  some_by : (id i : ℕ) (e : ℕ × X) (es : List (ℕ × X)) (b : Bool)
      → is_some (position_from (λ n. n == id) (i + 1) (map (λ (e : ℕ × X). e.0) es))
      ≡ is_some (option_map (λ (e : ℕ × X). e.1) (find (has id) es))
      → is_some (cond b (Some i) (position_from (λ n. n == id) (i + 1) (map (λ (e : ℕ × X). e.0) es)))
      ≡ is_some (option_map (λ (e : ℕ × X). e.1) (cond b (Some e) (find (has id) es)))
  some_by id i e es true h = refl
  some_by id i e es false h = h

  -- there is a place exactly where one is found
  pub place_is_some : (id i : ℕ) (es : List (ℕ × X))
      → is_some (position_from (λ n. n == id) i (map (λ (e : ℕ × X). e.0) es))
      ≡ is_some (option_map (λ (e : ℕ × X). e.1) (find (has id) es))
  place_is_some id i [] = refl
  place_is_some id i (e ∷ es) = some_by id i e es (e.0 == id) (place_is_some id (i + 1) es)

  -- no two have one number
  abbrev pub AreApart : List (ℕ × X) → Type 0
  AreApart [] = Unit {0}
  AreApart (e ∷ es) = (find (λ (d : ℕ × X). d.0 == e.0) es ≡ None) × AreApart es

  none_by : (e : ℕ × X) (o : Option (ℕ × X)) (b : Bool) → cond b (Some e) o ≡ None → (b ≡ false) × (o ≡ None)
  none_by e o true h = absurd (cc)
  none_by e o false h = (refl, h)

  pub apart_more : (es : List (ℕ × X)) (y : ℕ × X) → AreApart es → find (λ (d : ℕ × X). d.0 == y.0) es ≡ None
      → AreApart (es ++ y ∷ [])
  apart_more [] y a h = (refl, tt)
  apart_more (e ∷ es) y a h =
      let n = none_by e (find (λ (d : ℕ × X). d.0 == y.0) es) (e.0 == y.0) h in
      let o : (y.0 == e.0) ≡ false = other_number e.0 y.0 n.0 in
      (find-append (λ (d : ℕ × X). d.0 == e.0) es (y ∷ []) ∙ rw (a.0, o) refl, apart_more es y a.1 n.1)

  -- a list cut before the first that has a number
  pub record Cut (id i : ℕ) (es : List (ℕ × X)) (k : ℕ) : Type 0 where
    pub before : List (ℕ × X)
    pub at : ℕ × X
    pub after : List (ℕ × X)
    pub whole : es ≡ before ++ at ∷ after
    pub is : at.0 ≡ id
    pub place : k ≡ i + length before
    pub none_before : find (has id) before ≡ None

  cut_by : (id i k : ℕ) (e : ℕ × X) (es : List (ℕ × X)) (b : Bool) → (e.0 == id) ≡ b
      → ((k : ℕ) → position_from (λ n. n == id) (i + 1) (map (λ (e : ℕ × X). e.0) es) ≡ Some k → Cut id (i + 1) es k)
      → cond b (Some i) (position_from (λ n. n == id) (i + 1) (map (λ (e : ℕ × X). e.0) es)) ≡ Some k
      → Cut id i (e ∷ es) k
  cut_by id i k e es true h more p = record {
    before = [];
    at = e;
    after = es;
    whole = refl;
    is = equal_number e.0 id h;
    place = let q : i ≡ k = cc in omega arith;
    none_before = refl;
  }
  cut_by id i k e es false h more p =
      let c = more k p in record {
        before = e ∷ c.before;
        at = c.at;
        after = c.after;
        whole = ap (λ l. e ∷ l) c.whole;
        is = c.is;
        place = let q = c.place in omega arith;
        none_before = rw h c.none_before;
      }

  pub cut_of : (id i k : ℕ) (es : List (ℕ × X)) → position_from (λ n. n == id) i (map (λ (e : ℕ × X). e.0) es) ≡ Some k
      → Cut id i es k
  cut_of id i k [] h = absurd (cc)
  cut_of id i k (e ∷ es) h = cut_by id i k e es (e.0 == id) refl (λ k p. cut_of id (i + 1) k es p) h

  apart_after : (before : List (ℕ × X)) (e : ℕ × X) (after : List (ℕ × X)) → AreApart (before ++ e ∷ after)
      → find (λ (d : ℕ × X). d.0 == e.0) after ≡ None
  apart_after [] e after a = a.0
  apart_after (d ∷ before) e after a = apart_after before e after a.1

  module _ {Y : Type 0} (f g : ℕ × X → Y) (id : ℕ) (same : (e : ℕ × X) → (e.0 == id) ≡ false → f e ≡ g e) where
    -- where none has the number
    pub map_same : (es : List (ℕ × X)) → find (has id) es ≡ None → map f es ≡ map g es
    map_same [] h = refl
    map_same (e ∷ es) h =
        let n = none_by e (find (has id) es) (e.0 == id) h in
        ap (λ y. y ∷ map f es) (same e n.0) ∙ ap (λ l. g e ∷ l) (map_same es n.1)

    -- what is made anew at the place
    pub set_same : (es : List (ℕ × X)) (k : ℕ) (c : Cut id 0 es k) → AreApart es
        → slice_set (map f es) k (g c.at) ≡ map g es
    set_same es k c a =
        let none : find (has id) c.after ≡ None = rw (← c.is) (apart_after c.before c.at c.after (rw (← c.whole) a)) in
        let at : length (map f c.before) ≡ k = simp length-map (omega (arith, c.place)) in
        rw (
          c.whole,
          map-append f c.before (c.at ∷ c.after),
          map-append g c.before (c.at ∷ c.after),
          set_at (map f c.before) (f c.at) (map f c.after) (g c.at) k at,
          map_same c.before c.none_before,
          map_same c.after none,
        ) refl

  within : (id k : ℕ) (es : List (ℕ × X)) (c : Cut id 0 es k) → slice_get es k ≡ Some c.at
  within id k es c =
      rw (c.whole, c.place)
      (slice_get-get_or (c.before ++ c.at ∷ c.after) (0 + length c.before) c.at (simp length-append (omega arith))
      ∙ ap (λ e. Some e) (get_or_at c.before c.at c.after c.at (0 + length c.before) (omega arith)))

  pub get_same : {Y : Type 0} (f : ℕ × X → Y) (id k : ℕ) (es : List (ℕ × X)) (c : Cut id 0 es k)
      → slice_get (map f es) k ≡ Some (f c.at)
  get_same f id k es c = slice_get-map f es k ∙ ap (option_map f) (within id k es c)

  pub found_cut : (id k : ℕ) (es : List (ℕ × X)) (c : Cut id 0 es k) → find (has id) es ≡ Some c.at
  found_cut id k es c =
      let t : (c.at.0 == id) ≡ true = rw c.is (same_number id) in
      ap (find (has id)) c.whole ∙ find-append (has id) c.before (c.at ∷ c.after) ∙ rw (c.none_before, t) refl
