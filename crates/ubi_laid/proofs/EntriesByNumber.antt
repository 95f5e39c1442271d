-- The entries of a map in ascending order, and those of a map that is made from a list.
use Rattle.ubi_laid.proofs.Prelude.{◌≡◌, ℕ, zero, suc, ◌+◌, ◌<◌, ◌≤◌, ◌==◌, Bool, true, false, cond, List, [], ◌∷◌, ◌++◌, map, refl, ap, sym, ◌∙◌, arith, zero-add, subst, Some, flat_map, option_map, FinMap, AllByRecursion, range_with_len, option_map_or, nat_cmp, nat_tests, flat_map-append, first_entry}
use Rattle.std.specs.Prelude.{find}
use Rattle.std.specs.FinMap as finite
use Rattle.ubi_laid.proofs.Lists.{all_from, held_entry}
use Rattle.ubi_laid.proofs.Rising.{entries_rise}
use Rattle.ubi_laid.proofs.ByNumber.{Rises, by_number}
use Rattle.ubi_laid.proofs.Rising as rising

-- numbers that rise do so from any bound below them
rises_from : {X Y : Type 0} (f : ℕ × X → List Y) (a b : ℕ) (es : List (ℕ × X)) → rising.Rises (λ e. e.0) es
    → AllByRecursion (λ e. a ≤ e.0) es → AllByRecursion (λ e. e.0 < b) es → Rises f a b es
rises_from f a b [] h low high = tt
rises_from {X} {Y} f a b (e ∷ es) h low high = (low.0, high.0, rises_from f (e.0 + 1) b es h.1 (above es h.0) high.1)
  where
    above : (es : List (ℕ × X)) → AllByRecursion (λ y. e.0 < y.0) es → AllByRecursion (λ y. e.0 + 1 ≤ y.0) es
    above [] h = tt
    above (y ∷ es) h = (let first = h.0 in omega arith, above es h.1)

-- what two functions make of the numbers of a range is the same if they do the same with each
pub same_range : {Y : Type 0} (f g : ℕ → List Y) (a n : ℕ) → ((i : ℕ) → a ≤ i → i < a + n → f i ≡ g i)
    → flat_map f (range_with_len a n) ≡ flat_map g (range_with_len a n)
same_range f g a zero h = refl
same_range f g a (suc n) h =
    ap (λ xs. xs ++ flat_map f (range_with_len (a + 1) n)) (h a (omega arith) (omega arith))
    ∙ ap (λ xs. g a ++ xs) (same_range f g (a + 1) n (λ i low high. h i (omega arith) (omega arith)))

-- what is made of each entry of a map, by rising number below n
pub entries_by_number : {X Y : Type 0} (f : ℕ × X → List Y) (m : FinMap nat_cmp X) (n : ℕ)
    → ((id : ℕ) (x : X) → finite.get m id ≡ Some x → id < n)
    → flat_map f (finite.entries m) ≡ flat_map (λ id. option_map_or (λ x. f (id, x)) (finite.get m id) [])
    (range_with_len 0 n)
entries_by_number {X} {Y} f m n below =
    let es = finite.entries m in
    let within : AllByRecursion (λ (e : ℕ × X). e.0 < n) es =
    all_from (λ (e : ℕ × X). e.0 < n) es (λ e at. below e.0 e.1 (held_entry m e at)) in
    let from : AllByRecursion (λ (e : ℕ × X). 0 ≤ e.0) es = all_from (λ (e : ℕ × X). 0 ≤ e.0) es
    (λ e at. omega arith) in
    sym (by_number f n 0 es (subst (λ b. Rises f 0 b es) (sym (zero-add n))
    (rises_from f 0 n es (entries_rise es (finite.entries_sorted m)) from within)))
    ∙ same_range _ _ 0 n (λ id low high. ap (λ o. option_map_or (λ x. f (id, x)) o []) (sym (finite.get-entries m id)))

-- the first element that passes, of those that a function gives
pub find-map : {X Y : Type 0} (f : X → Y) (test : Y → Bool) (xs : List X)
    → find test (map f xs) ≡ option_map f (find (λ x. test (f x)) xs)
find-map f test [] = refl
find-map f test (x ∷ xs) =
    elim (test (f x)) as (λ b. cond b (Some (f x)) (find test (map f xs))
    ≡ option_map f (cond b (Some x) (find (λ y. test (f y)) xs))) [ true ↦ refl | false ↦ find-map f test xs ]

-- what the map of such elements has at a number
pub get_made : {X Y : Type 0} (f : X → ℕ × Y) (xs : List X) (id : ℕ)
    → finite.get (finite.from_entries {R = nat_cmp} (map f xs)) id
    ≡ option_map (λ (e : ℕ × Y). e.1) (option_map f (find (λ x. (f x).0 == id) xs))
get_made {X} {Y} f xs id =
    sym (first_entry (map f xs) id)
    ∙ ap (option_map (λ (e : ℕ × Y). e.1)) (find-map f (λ e. e.0 == id) xs)

-- a number of a range is found in it
pub find_in_range : (a n l : ℕ) → a ≤ l → l < a + n → find (λ i. i == l) (range_with_len a n) ≡ Some l
find_in_range a zero l low high = absurd (omega arith)
find_in_range a (suc n) l low high =
    elim (a == l) as (λ b. (a == l) ≡ b
    → cond b (Some a) (find (λ i. i == l) (range_with_len (a + 1) n)) ≡ Some l) [
      | true ↦ λ t. ap Some (same t)
      | false ↦ λ t. find_in_range (a + 1) n l (above t) (omega arith)
    ] refl
  where
    same : (a == l) ≡ true → a ≡ l
    same t = grind (arith, nat_tests)

    above : (a == l) ≡ false → a + 1 ≤ l
    above t = grind (arith, nat_tests)

-- and one that isn't, isn't
pub found_in_range : (a n l i : ℕ) → find (λ j. j == l) (range_with_len a n) ≡ Some i → l < a + n
found_in_range a zero l i e = absurd (cc)
found_in_range a (suc n) l i e =
    elim (a == l) as (λ b. (a == l) ≡ b
    → cond b (Some a) (find (λ j. j == l) (range_with_len (a + 1) n)) ≡ Some i → l < a + suc n) [
      | true ↦ λ t f. (let s = same t in omega arith)
      | false ↦ λ t f. (let r = found_in_range (a + 1) n l i f in omega arith)
    ] refl e
  where
    same : (a == l) ≡ true → a ≡ l
    same t = grind (arith, nat_tests)

-- the elements of each element, in order
pub flat_map-flat_map : {X Y Z : Type 0} (f : Y → List Z) (g : X → List Y) (xs : List X)
    → flat_map f (flat_map g xs) ≡ flat_map (λ x. flat_map f (g x)) xs
flat_map-flat_map f g [] = refl
flat_map-flat_map f g (x ∷ xs) =
    flat_map-append f (g x) (flat_map g xs) ∙ ap (λ r. flat_map f (g x) ++ r) (flat_map-flat_map f g xs)
