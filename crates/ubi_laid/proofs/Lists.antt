-- The elements of lists by their places.
use Rattle.ubi_laid.proofs.Prelude.{◌≡◌, ℕ, zero, suc, ◌+◌, ◌<◌, ◌≤◌, ◌⊎◌, inl, inr, List, [], ◌∷◌, ◌++◌, length, map, refl, ap, sym, ◌∙◌, arith, subst, get_or_from_slice_get, slice_get-get_or, slice_get-map, slice_get_within, same_Some, nat_cmp_total, FinMap, nat_cmp-IsAntisymmetric, find, AllByRecursion, range_with_len, nat_cmp, Some, flat_map, option_map, slice_get, find_at, place_of}
use Rattle.std.specs.FinMap as finite

-- x stands in the list
abbrev pub Holds : {X : Type 0} → List X → X → Type 0
Holds xs x = (p : ℕ) × (slice_get xs p ≡ Some x)

module _ {X : Type 0} where
  -- what holds of each element holds of one
  pub all_at : (P : X → Type 0) (xs : List X) (p : ℕ) (x : X) → AllByRecursion P xs → slice_get xs p ≡ Some x → P x
  all_at P [] p x all e = absurd (cc)
  all_at P (y ∷ ys) zero x all e = subst P (same_Some y x e) all.0
  all_at P (y ∷ ys) (suc p) x all e = all_at P ys p x all.1 e

  pub all_append : (P : X → Type 0) (xs ys : List X) → AllByRecursion P xs → AllByRecursion P ys
      → AllByRecursion P (xs ++ ys)
  all_append P [] ys a b = b
  all_append P (x ∷ xs) ys a b = (a.0, all_append P xs ys a.1 b)

  pub all_from : (P : X → Type 0) (xs : List X) → ((x : X) → Holds xs x → P x) → AllByRecursion P xs
  all_from P [] h = tt
  all_from P (x ∷ xs) h = (h x (0, refl), all_from P xs (λ y at. h y (suc at.0, at.1)))

  -- the elements of two lists, in order
  pub holds_left : (xs ys : List X) (x : X) → Holds xs x → Holds (xs ++ ys) x
  holds_left [] ys x h = absurd (let e = h.1 in cc)
  holds_left (y ∷ xs) ys x (zero, e) = (zero, e)
  holds_left (y ∷ xs) ys x (suc p, e) = (let r = holds_left xs ys x (p, e) in (suc r.0, r.1))

  pub holds_right : (xs ys : List X) (x : X) → Holds ys x → Holds (xs ++ ys) x
  holds_right [] ys x h = h
  holds_right (y ∷ xs) ys x h = (let r = holds_right xs ys x h in (suc r.0, r.1))

  pub holds_cases : (xs ys : List X) (x : X) → Holds (xs ++ ys) x → Holds xs x ⊎ Holds ys x
  holds_cases [] ys x h = inr h
  holds_cases (y ∷ xs) ys x (zero, e) = inl (zero, e)
  holds_cases (y ∷ xs) ys x (suc p, e) = elim (holds_cases xs ys x (p, e)) [
    | inl h ↦ inl (suc h.0, h.1)
    | inr h ↦ inr h
  ]

  pub slice_get_left : (xs ys : List X) (p : ℕ) → p < length xs → slice_get (xs ++ ys) p ≡ slice_get xs p
  slice_get_left [] ys p h = absurd (omega arith)
  slice_get_left (x ∷ xs) ys zero h = refl
  slice_get_left (x ∷ xs) ys (suc p) h = slice_get_left xs ys p (omega arith)

module _ {X Y : Type 0} (f : X → Y) where
  pub holds_map : (xs : List X) (x : X) → Holds xs x → Holds (map f xs) (f x)
  holds_map xs x h = (h.0, slice_get-map f xs h.0 ∙ ap (option_map f) h.1)

  pub map_holds : (xs : List X) (y : Y) → Holds (map f xs) y → (x : X) × Holds xs x × (f x ≡ y)
  map_holds [] y h = absurd (let e = h.1 in cc)
  map_holds (x ∷ xs) y (zero, e) = (x, (zero, refl), same_Some (f x) y e)
  map_holds (x ∷ xs) y (suc p, e) = (let r = map_holds xs y (p, e) in (r.0, (suc r.1.0, r.1.1), r.2))

-- what holds of the images of each element
pub all_map : {X Y : Type 0} (P : Y → Type 0) (f : X → Y) (xs : List X) → ((x : X) → Holds xs x → P (f x))
    → AllByRecursion P (map f xs)
all_map P f [] h = tt
all_map P f (x ∷ xs) h = (h x (0, refl), all_map P f xs (λ y at. h y (suc at.0, at.1)))

pub all_flat_map : {X Y : Type 0} (P : Y → Type 0) (f : X → List Y) (xs : List X)
    → AllByRecursion (λ x. AllByRecursion P (f x)) xs → AllByRecursion P (flat_map f xs)
all_flat_map P f [] h = tt
all_flat_map P f (x ∷ xs) h = all_append P (f x) (flat_map f xs) h.0 (all_flat_map P f xs h.1)

module _ {X Y : Type 0} (f : X → List Y) where
  pub holds_flat_map : (xs : List X) (x : X) (y : Y) → Holds xs x → Holds (f x) y → Holds (flat_map f xs) y
  holds_flat_map [] x y h k = absurd (let e = h.1 in cc)
  holds_flat_map (z ∷ xs) x y (zero, e) k = holds_left (f z) (flat_map f xs) y
      (subst (λ w. Holds (f w) y) (sym (same_Some z x e)) k)
  holds_flat_map (z ∷ xs) x y (suc p, e) k = holds_right (f z) (flat_map f xs) y (holds_flat_map xs x y (p, e) k)

  pub flat_map_holds : (xs : List X) (y : Y) → Holds (flat_map f xs) y → (x : X) × Holds xs x × Holds (f x) y
  flat_map_holds [] y h = absurd (let e = h.1 in cc)
  flat_map_holds (x ∷ xs) y h = elim (holds_cases (f x) (flat_map f xs) y h) [
    | inl here ↦ (x, (zero, refl), here)
    | inr rest ↦ (let r = flat_map_holds xs y rest in (r.0, (suc r.1.0, r.1.1), r.2))
  ]

-- the numbers of a range
pub holds_range : (a n k : ℕ) → k < n → Holds (range_with_len a n) (a + k)
holds_range a zero k h = absurd (omega arith)
holds_range a (suc n) zero h = (zero, ap Some (omega arith))
holds_range a (suc n) (suc k) h =
    let r = holds_range (a + 1) n k (omega arith) in
    let next : a + 1 + k ≡ a + suc k = omega arith in
    (suc r.0, r.1 ∙ ap Some next)

pub range_holds : (a n x : ℕ) → Holds (range_with_len a n) x → (a ≤ x) × (x < a + n)
range_holds a zero x h = absurd (let e = h.1 in cc)
range_holds a (suc n) x (zero, e) = let same : a ≡ x = same_Some a x e in (omega arith, omega arith)
range_holds a (suc n) x (suc p, e) = let r = range_holds (a + 1) n x (p, e) in let low = r.0 in let high = r.1 in
    (omega arith, omega arith)

-- the entries of a map by number
module _ {X : Type 0} (m : FinMap nat_cmp X) where
  pub entry_held : (id : ℕ) (x : X) → finite.get m id ≡ Some x → Holds (finite.entries m) (id, x)
  entry_held id x e =
      let at = place_of nat_cmp_total nat_cmp-IsAntisymmetric id x (id, x) (finite.entries m)
      (sym (finite.get-entries m id) ∙ e) in
      (at.0, slice_get-get_or (finite.entries m) at.0 (id, x) at.1 ∙ ap Some at.2)

  pub held_entry : (e : ℕ × X) → Holds (finite.entries m) e → finite.get m e.0 ≡ Some e.1
  held_entry e h =
      let is = get_or_from_slice_get (finite.entries m) h.0 e e h.1 in
      finite.get-entries m e.0
      ∙ ap (λ (x : ℕ × X). find nat_cmp x.0 (finite.entries m)) (sym is)
      ∙ find_at nat_cmp_total (finite.entries m) h.0 e (finite.entries_sorted m)
      (slice_get_within (finite.entries m) h.0 e h.1)
      ∙ ap (λ (x : ℕ × X). Some x.1) is
