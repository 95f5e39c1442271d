-- The geometry of an image is among those that are found for it.
use Rattle.ubi_detect.proofs.Prelude.{◌≡◌, ℕ, Bool, true, false, List, [], ◌∷◌, cond, length, zero, suc, refl, ap, sym, ◌∙◌, subst, arith, Contains, Option, Some, None, is_none, map, option_map, ◌==◌, ◌&&◌, ◌||◌, cons_option, filter_map, list_any, then_some, eqb-true, eq-eqb, nat_tests, Sizes, page_sizes, first_broken, EcOffsets, GeometryOfImage, OutOfBandOfImage, AreDetected, IsFound, data_place, is_laid_out, layout_sizes, end_of_image, has_vote, is_voted, start_of_image, told, told_by, told_ways, ways_with, ways_without, plain_way, plain_ways, Detected, Group, Way}
use Rattle.std.proofs.Common.{true≢false}
use Rattle.std.specs.Prelude.{filter}

contains_tail : {X : Type 0} (x y : X) (xs : List X) → Contains xs y → Contains (x ∷ xs) y
contains_tail x y xs has = (suc has.0, omega (arith, has.1), has.2)

contains_map : {X Y : Type 0} (f : X → Y) (xs : List X) (x : X) → Contains xs x → Contains (map f xs) (f x)
contains_map f [] x has = absurd (omega (arith, has.1))
contains_map f (z ∷ zs) x (zero, below, is) = (0, omega arith, ap f is)
contains_map f (z ∷ zs) x (suc i, below, is) = contains_tail (f z) (f x) (map f zs) (contains_map f zs x (i, omega (arith, below), is))

module _ {X : Type 0} (t : X → Bool) (x : X) (holds : t x ≡ true) where
  kept_head : (z : X) (zs : List X) (b : Bool) → t z ≡ b → z ≡ x → Contains (cond b (z ∷ filter t zs) (filter t zs)) x
  kept_head z zs true e is = (0, omega arith, is)
  kept_head z zs false e is = absurd (true≢false (sym holds ∙ ap t (sym is) ∙ e))

  kept_tail : (z : X) (zs : List X) (b : Bool) → Contains (filter t zs) x → Contains (cond b (z ∷ filter t zs) (filter t zs)) x
  kept_tail z zs true has = contains_tail z x (filter t zs) has
  kept_tail z zs false has = has

  contains_filter : (xs : List X) → Contains xs x → Contains (filter t xs) x
  contains_filter [] has = absurd (omega (arith, has.1))
  contains_filter (z ∷ zs) (zero, below, is) = kept_head z zs (t z) refl is
  contains_filter (z ∷ zs) (suc i, below, is) = kept_tail z zs (t z) (contains_filter zs (i, omega (arith, below), is))

contains_more : {X : Type 0} (o : Option X) (xs : List X) (y : X) → Contains xs y → Contains (cons_option o xs) y
contains_more None xs y has = has
contains_more (Some x) xs y has = contains_tail x y xs has

contains_first : {X : Type 0} (o : Option X) (xs : List X) (y : X) → o ≡ Some y → Contains (cons_option o xs) y
contains_first None xs y e = cc
contains_first (Some x) xs y e = (0, omega arith, (let same : x ≡ y = cc in same))

-- what is made of a page that is in a list
module _ {Y : Type 0} (f : ℕ → Option Y) (page : ℕ) (y : Y) (is : f page ≡ Some y) where
  contains_by : (x : ℕ) (xs : List ℕ) (b : Bool) → (x == page) ≡ b → (list_any (λ size. size == page) xs ≡ true → Contains (filter_map f xs) y)
      → b || list_any (λ size. size == page) xs ≡ true → Contains (cons_option (f x) (filter_map f xs)) y
  contains_by x xs true e rest any = contains_first (f x) (filter_map f xs) y (ap f (eqb-true x page e) ∙ is)
  contains_by x xs false e rest any = contains_more (f x) (filter_map f xs) y (rest any)

  contains_of : (xs : List ℕ) → list_any (λ size. size == page) xs ≡ true → Contains (filter_map f xs) y
  contains_of [] any = cc
  contains_of (x ∷ xs) any = contains_by x xs (x == page) refl (λ t. contains_of xs t) any

page_kept : (s : Sizes) → first_broken s ≡ None → list_any (λ size. size == s.page) page_sizes ≡ true
unfolding first_broken
page_kept s none = grind (arith, nat_tests)

laid_out : (s : Sizes) → first_broken s ≡ None → data_place s.page s.vid_offset ≡ s.data_offset → is_laid_out s ≡ true
laid_out s none place =
    ap (λ b. b && is_none (first_broken s)) (eq-eqb (data_place s.page s.vid_offset) s.data_offset place) ∙ ap is_none none

-- the way of a page without out-of-band bytes is among those of its size and offsets
pub own_way : (q : ℕ) (o : EcOffsets) (page : ℕ) → first_broken (layout_sizes q o page) ≡ None → data_place page o.vid_offset ≡ o.data_offset
    → Contains (plain_ways q o) (record { geometry = layout_sizes q o page; oob = 0 })
own_way q o page none place =
    let s : Sizes = layout_sizes q o page in
    let w : Way = record { geometry = s; oob = 0 } in
    let way : plain_way q o page ≡ Some w =
    ap (λ b. option_map (λ z. record { geometry = z; oob = 0 }) (then_some b s)) (laid_out s none place) in
    let all : Contains (plain_ways q o) w = contains_of {Y = Way} (plain_way q o) page w way page_sizes (page_kept s none) in all

module _ (bytes : List ℕ) (g : Group) (found : IsFound bytes g) (w : Way) (has : Contains (told_ways bytes g) w) where
  abbrev here : Detected
  here = told_by (start_of_image g) (end_of_image bytes g) w

  among : Contains (told bytes g) here
  among = contains_map (told_by (start_of_image g) (end_of_image bytes g)) (told_ways bytes g) w has

  detected : AreDetected bytes (told bytes g) × Contains (told bytes g) here
  detected = (record { group = g; is = found; are = refl; some = λ e. let none = ap length e in let a = among.1 in omega (arith, a, none) }, among)

pub geometry_of_image : GeometryOfImage
geometry_of_image bytes g page found none place without voted =
    let s : Sizes = layout_sizes g.size g.key.offsets page in
    let w : Way = record { geometry = s; oob = 0 } in
    let all = own_way g.size g.key.offsets page none place in
    let P : Bool → Type 0 = λ b. Contains (cond b (filter (has_vote bytes g) (ways_without g)) (filter (is_voted bytes g) (ways_with g))) w in
    detected bytes g found w (subst P (sym without) (contains_filter (has_vote bytes g) w voted (ways_without g) all))

pub out_of_band_of_image : OutOfBandOfImage
out_of_band_of_image bytes g w found has with voted =
    let P : Bool → Type 0 = λ b. Contains (cond b (filter (has_vote bytes g) (ways_without g)) (filter (is_voted bytes g) (ways_with g))) w in
    detected bytes g found w (subst P (sym with) (contains_filter (is_voted bytes g) w voted (ways_with g) has))
