-- The groups of headers with one more header.
use Rattle.ubi_detect.proofs.Prelude.{◌≡◌, ℕ, ◌+◌, ◌-◌, Bool, true, false, cond, List, [], ◌∷◌, ◌++◌, length, refl, ap, sym, ◌∙◌, subst, arith, ◌∣◌, IsGcd, filter, fold, last_or, ◌==◌, IsFalse, IsTrue, Option, Some, map, unwrap_or, ne_eqb, append-nil, get_or_append_left, map-append, All-cons, All-nil, All-push, filter-append, fold-append, get_or-append_seam, dvd_trans, Divides, IsGroup, IsSpacing, first_place, is_of, keys_of, last_place, places, with_key, Group, Head, Key, IsAdded}
use Rattle.std.proofs.lemmas.List.{length-append}

-- the keys with one header more
pub keys_more : (heads : List Head) (h : Head) → keys_of (heads ++ h ∷ []) ≡ with_key (keys_of heads) h.key
keys_more heads h =
    ap (λ ks. fold with_key [] ks) (map-append (λ g. g.key) heads (h ∷ [])) ∙ fold-append with_key [] (map (λ g. g.key) heads) (h.key ∷ [])

-- where the headers of a group stand, with one header more
places_more : (heads : List Head) (h : Head) (k : Key) (b : Bool) → is_of k h.key ≡ b
    → places (heads ++ h ∷ []) k ≡ places heads k ++ map (λ g. g.place) (cond b (h ∷ []) [])
places_more heads h k b e =
    ap (map (λ g. g.place)) (filter-append (λ g. is_of k g.key) heads (h ∷ []))
    ∙ map-append (λ g. g.place) (filter (λ g. is_of k g.key) heads) (filter (λ g. is_of k g.key) (h ∷ []))
    ∙ ap (λ c. places heads k ++ map (λ g. g.place) (cond c (h ∷ []) [])) e

pub places_with : (heads : List Head) (h : Head) (k : Key) → IsTrue (is_of k h.key) → places (heads ++ h ∷ []) k ≡ places heads k ++ h.place ∷ []
places_with heads h k e = places_more heads h k true e

pub places_without : (heads : List Head) (h : Head) (k : Key) → IsFalse (is_of k h.key) → places (heads ++ h ∷ []) k ≡ places heads k
places_without heads h k e = places_more heads h k false e ∙ append-nil (places heads k)

-- the last of places with one more is that
last_more : (p : ℕ) (ps : List ℕ) (o : Option ℕ) → last_or o (ps ++ p ∷ []) ≡ Some p
last_more p [] o = refl
last_more p (x ∷ xs) o = last_more p xs (Some x)

pub last_is : (p : ℕ) (ps : List ℕ) → last_place (ps ++ p ∷ []) ≡ p
last_is p ps = ap (λ o. unwrap_or o 0) (last_more p ps _)

-- and the first one is the first that was, or that
pub first_is : (p : ℕ) (ps : List ℕ) → first_place (ps ++ p ∷ []) ≡ cond (length ps == 0) p (first_place ps)
first_is p [] = refl
first_is p (x ∷ xs) = sym (ap (λ b. cond b p x) (ne_eqb (length (x ∷ xs)) 0 (λ e. omega (arith, e))))

-- a number divides the distances of places with one more just if it divides theirs and that of the last one
divides_more : (r p : ℕ) (ps : List ℕ) → Divides r ps → r ∣ (p - first_place (ps ++ p ∷ [])) → Divides r (ps ++ p ∷ [])
divides_more r p [] d here = All-cons (λ y. r ∣ (y - p)) p [] here (All-nil (λ y. r ∣ (y - p)))
divides_more r p (x ∷ xs) d here = All-push (λ y. r ∣ (y - x)) (x ∷ xs) p d here

divides_less : (r p : ℕ) (ps : List ℕ) → Divides r (ps ++ p ∷ []) → Divides r ps × (r ∣ (p - first_place (ps ++ p ∷ [])))
divides_less r p [] d = (All-nil (λ y. r ∣ (y - 0)), d 0 0 (omega arith))
divides_less r p (x ∷ xs) d = (
  λ k e below. let P : ℕ → Type 0 = λ y. r ∣ (y - x) in
      subst P (get_or_append_left (x ∷ xs) (p ∷ []) e k below) (d k e (let l = length-append (x ∷ xs) (p ∷ []) in omega (arith, l, below))),
  let P : ℕ → Type 0 = λ y. r ∣ (y - x) in
      subst P (get_or-append_seam (x ∷ xs) p [] 0) (d (length (x ∷ xs)) 0 (let l = length-append (x ∷ xs) (p ∷ []) in omega (arith, l))),
)

spacing_more : (p s t : ℕ) (ps : List ℕ) → IsSpacing ps s → IsGcd s (p - first_place (ps ++ p ∷ [])) t → IsSpacing (ps ++ p ∷ []) t
spacing_more p s t ps is g = record {
  divides = divides_more t p ps (λ k d below. dvd_trans t g.0 (is.divides k d below)) g.1;
  greatest = λ r d. let less = divides_less r p ps d in g.2 r (is.greatest r less.0) less.1;
}

module _ (heads : List Head) (h : Head) (old new : Group) (group : IsGroup heads old) (added : IsAdded h old new) where
  abbrev Is : List ℕ → Type 0
  Is ps = (new.first ≡ first_place ps) × (new.last ≡ last_place ps) × (new.count ≡ length ps) × IsSpacing ps new.size

  -- the places of the group that was
  abbrev ps : List ℕ
  ps = places heads old.key

  is_with : IsTrue (is_of old.key h.key) → Is (ps ++ h.place ∷ [])
  is_with owned =
      let first : new.first ≡ first_place (ps ++ h.place ∷ []) =
      added.first owned ∙ ap (λ n. cond (n == 0) h.place old.first) group.count
      ∙ ap (cond (length ps == 0) h.place) group.first ∙ sym (first_is h.place ps) in
      let S : ℕ → Type 0 = λ f. IsGcd old.size (h.place - f) new.size in (
        first,
        added.last owned ∙ sym (last_is h.place ps),
        added.count owned ∙ ap (λ n. n + 1) group.count ∙ sym (length-append ps (h.place ∷ [])),
        spacing_more h.place old.size new.size ps group.size (subst S first (added.size owned)),
      )

  is_without : IsFalse (is_of old.key h.key) → Is ps
  is_without other =
      let same = added.other other in
      let S : ℕ → Type 0 = λ s. IsSpacing ps s in (
        ap (λ g. g.first) same ∙ group.first,
        ap (λ g. g.last) same ∙ group.last,
        ap (λ g. g.count) same ∙ group.count,
        subst S (ap (λ g. g.size) (sym same)) group.size,
      )

  at_places : (b : Bool) → is_of old.key h.key ≡ b → Is (places (heads ++ h ∷ []) old.key)
  at_places true e = subst Is (sym (places_with heads h old.key e)) (is_with e)
  at_places false e = subst Is (sym (places_without heads h old.key e)) (is_without e)

  pub group_more : IsGroup (heads ++ h ∷ []) new
  group_more =
      let P : Key → Type 0 = λ k. Is (places (heads ++ h ∷ []) k) in
      let is = subst P (sym added.key) (at_places (is_of old.key h.key) refl) in
      record { first = is.0; last = is.1; count = is.2; size = is.3 }
