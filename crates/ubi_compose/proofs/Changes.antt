-- Changing the volumes and the map that says where they stand.
use Rattle.ubi_compose.proofs.Prelude.{◌≡◌, ◌<◌, ℕ, ◌+◌, ◌==◌, Bool, true, false, cond, List, [], ◌∷◌, ◌++◌, length, map, get_or, set, refl, sym, ap, ◌∙◌, arith, Option, Some, None, Result, Ok, Err, MatchResult, slice_get, slice_set, BTreeMap, IsOrdered, is_at, position_from, option_or, nat_cmp, result_map_both, nat_tests, length-map, map-append, map-set, set-get_or, Sizes, VolumeRecord, Items, Content, Volume, AreDrafts, IsRefusedLine, changed, place_of, with_line, volume_of, volume_from, LineError, SpecCause, Line}
use Rattle.std.specs.BTreeMap as tree
use Rattle.std.specs.FinMap as finite
use Rattle.ubi_media.specs.declared.vid.VolKind.TheVariants as kind
use Rattle.ubi_volume.specs.declared.content.Content.TheVariants as content
use Rattle.ubi_compose.specs.declared.errors.LineError.TheVariants as line_error
use Rattle.ubi_compose.proofs.VolumePlaces.{equal_number, place_below, place_end}

abbrev numbers : Items → List ℕ
numbers items = map (λ (e : ℕ × Volume). e.0) items

at_number : (id q : ℕ) → is_at (nat_cmp id) q ≡ (id == q)
at_number id q = grind (arith, nat_tests)

or_none : (o : Option ℕ) → o ≡ option_or o None
or_none None = refl
or_none (Some k) = refl

-- one volume more
place_by : (items : Items) (id q n : ℕ) (b : Bool) → (id == q) ≡ b → place_of id items ≡ None → n ≡ length items
    → cond b (Some n) (place_of q items)
    ≡ option_or (place_of q items) (cond b (Some (0 + length (numbers items))) None)
place_by items id q n true e h l =
    let none : place_of q items ≡ None = ap (λ m. place_of m items) (sym (equal_number id q e)) ∙ h in
    let same : n ≡ 0 + length (numbers items) = omega (arith, length-map items (λ (e : ℕ × Volume). e.0)) in
    rw none (ap (λ m. Some m) same)
place_by items id q n false e h l = or_none (place_of q items)

place_more : (items : Items) (id q n : ℕ) (v : Volume) → place_of id items ≡ None → n ≡ length items
    → cond (id == q) (Some n) (place_of q items) ≡ place_of q (items ++ (id, v) ∷ [])
place_more items id q n v h l =
    place_by items id q n (id == q) refl h l ∙ sym (place_end (λ m. m == q) (numbers items) id 0)
    ∙ ap (position_from (λ m. m == q) 0) (sym (map-append (λ (e : ℕ × Volume). e.0) items ((id, v) ∷ [])))

pub drafts_more : (places more : BTreeMap ℕ ℕ) (items : Items) (id n : ℕ) (v : Volume) → AreDrafts places items
    → place_of id items ≡ None → n ≡ length items
    → IsOrdered nat_cmp more
    → ((q : ℕ) → tree.get nat_cmp more q ≡ cond (is_at (nat_cmp id) q) (Some n) (tree.get nat_cmp places q))
    → AreDrafts more (items ++ (id, v) ∷ [])
drafts_more places more items id n v d h l ordered gets = record {
  ordered = ordered;
  placed = λ q. gets q ∙ ap (λ b. cond b (Some n) (tree.get nat_cmp places q)) (at_number id q)
      ∙ ap (cond (id == q) (Some n)) (d.placed q) ∙ place_more items id q n v h l;
}

-- a volume that is put at a place keeps its number
numbers_kept : (items : Items) (k : ℕ) (e : ℕ × Volume) (v : Volume) → e ≡ get_or items k e
    → numbers (slice_set items k (e.0, v)) ≡ numbers items
numbers_kept items k e v h =
    map-set (λ (e : ℕ × Volume). e.0) items k (e.0, v) ∙ sym (map-set (λ (e : ℕ × Volume). e.0) items k e)
    ∙ ap (λ d. numbers (set items k d)) h ∙ ap numbers (set-get_or items k e)

pub drafts_kept : (places : BTreeMap ℕ ℕ) (items : Items) (k : ℕ) (e : ℕ × Volume) (v : Volume) → AreDrafts places items
    → e ≡ get_or items k e
    → AreDrafts places (slice_set items k (e.0, v))
drafts_kept places items k e v d h = record {
  ordered = d.ordered;
  placed = λ q. d.placed q ∙ sym (ap (position_from (λ n. n == q) 0) (numbers_kept items k e v h));
}

pub within_place : (items : Items) (id k : ℕ) → place_of id items ≡ Some k → k < length items
within_place items id k h =
    let b = place_below (λ n. n == id) (numbers items) 0 k h in
    omega (arith, length-map items (λ (e : ℕ × Volume). e.0))

-- what a content line makes of the volumes
pub changed_is : (s : Sizes) (items : Items) (l : Line) (k : ℕ) (e : ℕ × Volume) → place_of (volume_of l) items ≡ Some k
    → slice_get items k ≡ Some e
    → changed s items l ≡ result_map_both (λ v. slice_set items k (e.0, v)) (λ c. c) (with_line s e.1 l)
changed_is s items l k e p g = rw (p, g) refl

pub change_answer : (r : Result (Unit {0}) LineError) (made : Result Volume SpecCause) (v : Volume) (f : Volume → Items)
    (out : Result Items SpecCause)
    → out ≡ result_map_both f (λ c. c) made → MatchResult r (λ _. made ≡ Ok v) (IsRefusedLine made)
    → MatchResult r (λ _. out ≡ Ok (f v)) (IsRefusedLine out)
change_answer (Ok u) made v f out o h = o ∙ ap (result_map_both f (λ c. c)) h
change_answer (Err (line_error.Cause c)) made v f out o h = o ∙ ap (result_map_both f (λ c. c)) h
change_answer (Err line_error.Memory) made v f out o h = tt

-- a volume without content lines
pub dynamic_new : (s : Sizes) (r : VolumeRecord) (k : Content) → r.kind ≡ kind.Dynamic
    → k ≡ content.Dynamic finite.empty
    → record { entry = r; content = k } ≡ volume_from s r []
unfolding volume_from
dynamic_new s r k h e = rw (h, e) refl

pub static_new : (s : Sizes) (r : VolumeRecord) (k : Content) → r.kind ≡ kind.Static → k ≡ content.Static []
    → record { entry = r; content = k } ≡ volume_from s r []
unfolding volume_from
static_new s r k h e = rw (h, e) refl
