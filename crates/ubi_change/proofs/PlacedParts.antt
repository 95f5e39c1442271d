-- Free slots, and the parts that are placed in them, one by one.
use Rattle.ubi_change.proofs.Prelude.{◌≡◌, ℕ, zero, suc, ◌+◌, ◌<◌, ◌≤◌, ◌++◌, Bool, true, false, cond, List, [], ◌∷◌, length, drop, take, min, get_or, refl, ap, sym, ◌∙◌, arith, None, Option, Some, AllByRecursion, append-nil, cases_lt, cons_option, inl, inr, length-drop, filter, filter-append, take_more, range_with_len, Records, Sizes, option_map, rec_fault, filter_map-append, writing_fault, option_or, new_of, news_of, part_in, is_free, parts_of, records_with, NewVolume, Part, ◌*◌, ◌^◌, usable, nat_lt, nat_tests, Edit, then_some, is_none, RecFault, is_too_large, EditFault, IsPartReadable}
use Rattle.ubi_change.proofs.FirstTakeable.{range_more}
use Rattle.ubi_change.specs.declared.errors.EditFault.TheVariants as fault
use Rattle.std.proofs.Common.{◌&&◌}

-- no parts are left once the slots or the volumes are at their end
no_slots : (js : List ℕ) (vs : List NewVolume) → length js ≡ 0 → parts_of js vs ≡ []
no_slots [] vs e = refl
no_slots (j ∷ js) vs e = absurd (omega arith)

no_volumes : (js : List ℕ) (vs : List NewVolume) → length vs ≡ 0 → parts_of js vs ≡ []
no_volumes [] [] e = refl
no_volumes (j ∷ js) [] e = refl
no_volumes js (v ∷ vs) e = absurd (omega arith)

pub no_parts : (js : List ℕ) (vs : List NewVolume) (i : ℕ) {n : ℕ} → n ≡ min (length js) (length vs) → n ≤ i
    → parts_of (drop i js) (drop i vs) ≡ []
no_parts js vs i e l =
    let a = length-drop i js in
    let b = length-drop i vs in
    elim (cases_lt i (length js)) [
      | inl in_js ↦ no_volumes (drop i js) (drop i vs) (omega (arith, a, b, e, l, in_js))
      | inr past ↦ no_slots (drop i js) (drop i vs) (omega (arith, a, past))
    ]

-- one edit more
abbrev pub with_new : List NewVolume → Option NewVolume → List NewVolume
with_new vs None = vs
with_new vs (Some v) = vs ++ v ∷ []

pub news_more : (es : List Edit) (i : ℕ) (e : Edit) → i < length es → get_or es i e ≡ e → (o : Option NewVolume) → new_of e ≡ o
    → (old : List NewVolume) → old ≡ news_of (take i es) → news_of (take (i + 1) es) ≡ with_new old o
news_more es i e inside here o is old before =
    ap news_of (take_more es i e inside ∙ ap (λ (x : Edit). take i es ++ x ∷ []) here)
    ∙ filter_map-append new_of (take i es) (e ∷ [])
    ∙ by o is
  where
    by : (o : Option NewVolume) → new_of e ≡ o → news_of (take i es) ++ news_of (e ∷ []) ≡ with_new old o
    by None k = ap (λ (x : Option NewVolume). news_of (take i es) ++ cons_option x []) k ∙ append-nil (news_of (take i es)) ∙ sym before
    by (Some v) k = ap (λ (x : Option NewVolume). news_of (take i es) ++ cons_option x []) k
        ∙ ap (λ (xs : List NewVolume). xs ++ v ∷ []) (sym before)

-- one slot more
pub free_more : (used : ℕ → ℕ → Bool) (t : Records) (slot : ℕ) (old : List ℕ) (b : Bool)
    → old ≡ filter (is_free used t) (range_with_len 0 slot) → is_free used t slot ≡ b
    → cond b (old ++ slot ∷ []) old ≡ filter (is_free used t) (range_with_len 0 (slot + 1))
free_more used t slot old b before is =
    sym (ap (filter (is_free used t)) (range_more 0 slot 1 ∙ ap (λ k. range_with_len 0 slot ++ k ∷ []) (omega arith))
    ∙ filter-append (is_free used t) (range_with_len 0 slot) (slot ∷ [])
    ∙ ap (λ (xs : List ℕ). xs ++ filter (is_free used t) (slot ∷ [])) (sym before)
    ∙ ap (λ x. old ++ cond x (slot ∷ []) []) is ∙ by b)
  where
    by : (b : Bool) → old ++ cond b (slot ∷ []) [] ≡ cond b (old ++ slot ∷ []) old
    by true = refl
    by false = append-nil old

-- the sizes stay
pub with_sizes : (t : Records) (ps : List Part) → (records_with t ps).sizes ≡ t.sizes
with_sizes t [] = refl
with_sizes t (p ∷ ps) = with_sizes t ps

-- what holds of all holds of one
pub all_here : {X : Type 0} (P : X → Type 0) (xs : List X) (i : ℕ) (d : X) → AllByRecursion P xs → i < length xs → P (get_or xs i d)
all_here P [] i d all l = absurd (omega arith)
all_here P (x ∷ xs) zero d all l = all.0
all_here P (x ∷ xs) (suc i) d all l = all_here P xs i d all.1 (omega arith)

-- parts lie in slots, and their records break no rule
pub parts_below : (n : ℕ) (js : List ℕ) (vs : List NewVolume) → AllByRecursion (λ j. j < n) js
    → AllByRecursion (λ (p : Part). p.id < n) (parts_of js vs)
parts_below n [] vs all = tt
parts_below n (j ∷ js) [] all = tt
parts_below n (j ∷ js) (v ∷ vs) all = (all.0, parts_below n js vs all.1)

-- of two options the first isn't there, if neither is
pub first_none : {X : Type 0} (a b : Option X) → option_or a b ≡ None → a ≡ None
first_none None b e = refl
first_none (Some x) b e = absurd (cc)

pub later_none : {X : Type 0} (a b : Option X) → option_or a b ≡ None → b ≡ None
later_none None b e = e
later_none (Some x) b e = absurd (cc)

-- an option that is changed isn't there, if it isn't
pub unmapped : {X Y : Type 0} (f : X → Y) (o : Option X) → option_map f o ≡ None → o ≡ None
unmapped f None e = refl
unmapped f (Some x) e = absurd (cc)

pub sound_entry : (s : Sizes) (v : NewVolume) → writing_fault s v ≡ None → rec_fault s (part_in v 0).entry ≡ None
sound_entry s v none = unmapped fault.Record (rec_fault s (part_in v 0).entry) (first_none _ _ none)

pub parts_sound : (s : Sizes) (js : List ℕ) (vs : List NewVolume) → AllByRecursion (λ v. writing_fault s v ≡ None) vs
    → AllByRecursion (λ (p : Part). rec_fault s p.entry ≡ None) (parts_of js vs)
parts_sound s [] vs all = tt
parts_sound s (j ∷ js) [] all = tt
parts_sound s (j ∷ js) (v ∷ vs) all = (sound_entry s v all.0, parts_sound s js vs all.1)

-- a test without effect
pub passed_test : (b : Bool) (f : EditFault) → then_some b f ≡ None → b ≡ false
passed_test true f e = absurd (cc)
passed_test false f e = refl

pub fits_entry : (s : Sizes) (v : NewVolume) → writing_fault s v ≡ None
    → v.len ≤ (part_in v 0).entry.reserved * usable s (part_in v 0).entry
fits_entry s v none =
    let entry = (part_in v 0).entry in
    let large : is_too_large s v ≡ false = passed_test (is_too_large s v) fault.TooLarge (later_none _ _ none) in
    let plain : nat_lt (entry.reserved * usable s entry) v.len ≡ false =
    sym (ap (λ (o : Option RecFault). is_none o && nat_lt (entry.reserved * usable s entry) v.len) (sound_entry s v none)) ∙ large in
    grind (arith, nat_tests, plain)

pub parts_readable : (s : Sizes) (js : List ℕ) (vs : List NewVolume) → AllByRecursion (λ v. writing_fault s v ≡ None) vs
    → (size : ℕ) → size < 2 ^ 64 → AllByRecursion (λ v. v.start + v.len ≤ size) vs → AllByRecursion (IsPartReadable s size) (parts_of js vs)
parts_readable s [] vs all size narrow reach = tt
parts_readable s (j ∷ js) [] all size narrow reach = tt
parts_readable s (j ∷ js) (v ∷ vs) all size narrow reach = (
  record { sound = sound_entry s v all.0; fits = fits_entry s v all.0; reaches = reach.0; narrow = narrow },
  parts_readable s js vs all.1 size narrow reach.1,
)
