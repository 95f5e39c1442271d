-- The meaning of volumes with no cause against them.
use Rattle.ubi_volume.proofs.Prelude.{◌≡◌, ◌≢◌, ℕ, zero, suc, ◌+◌, ◌^◌, ◌<◌, ◌≤◌, ◌⊎◌, inl, inr, Bool, true, false, cond, not, T, List, [], ◌∷◌, length, map, get_or, refl, ap, sym, ◌∙◌, subst, arith, unwrap_or, IfSome, IsTrue, None, Option, Some, fold, option_map, slice_get, eq_by_cmp_equiv, nat_cmp_total, tied_itself, find, from_entries, is_sorted, nat_cmp-IsAntisymmetric, below_all, AllByRecursion, IsDistinct, list_all, IsNonDecreasingBy, keys_of, values_of, eq_by_cmp, is_eq, is_lt, nat_cmp, nat_tests, Contains-permutation, IsPermutation-map, IsPermutation-sym, sum_by_values_permutation, IsDistinct-IsPermutation, IsDistinct-from_apart, IsDistinct-head, IsDistinct-tail, exact_unsigned, get_or_from_slice_get, slice_get-get_or, slice_get-map, slice_get_within, same_Some, cases_order, blank, is_blank, Sizes, slots, rec_fault, usable, RecFault, VolumeRecord, VolKind, within_or_past, sorted_entries, place_of, told, both_are, true_is, leb_fits, IsItem, Items, NoCause, item_without_blank, without_blank, Fits, HasDistinctNames, IsVolume, KeepsNoBlank, AreVolumes, Content, Volume}
use Rattle.std.specs.Prelude.{◌*◌, IsPermutation, sum_by}
use Rattle.std.specs.FinMap as finite
use Rattle.ubi_media.specs.declared.vid.VolKind.TheVariants as kind
use Rattle.ubi_volume.specs.declared.content.Content.TheVariants as content
use Rattle.ubi_volume.specs.declared.errors.MeaningCause.TheVariants as cause
use Rattle.ubi_volume.proofs.Blanks.{other_text}
use Rattle.ubi_volume.proofs.Winners.{no_some}
use Rattle.ubi_volume.proofs.AllowedLebs.{each_within}
use Rattle.ubi_volume.proofs.WithoutBlank.{LebMap, get_without_blank, is_kept}

abbrev pub Item : Type 0
Item = ℕ × Volume

-- ---- a content fits, or it doesn't
kind_or_other : (a b : VolKind) → (a ≡ b) ⊎ (a ≢ b)
kind_or_other kind.Dynamic kind.Dynamic = inl refl
kind_or_other kind.Dynamic kind.Static = inr (λ e. cc)
kind_or_other kind.Static kind.Dynamic = inr (λ e. cc)
kind_or_other kind.Static kind.Static = inl refl

both_or_not : (A B : Type 0) → A ⊎ (A → ⊥) → B ⊎ (B → ⊥) → (A × B) ⊎ (A × B → ⊥)
both_or_not A B (inl a) (inl b) = inl (a, b)
both_or_not A B (inl a) (inr b) = inr (λ p. b p.1)
both_or_not A B (inr a) b = inr (λ p. a p.0)

is_or_not : (b c : Bool) → (b ≡ c) ⊎ (b ≡ c → ⊥)
is_or_not true true = inl refl
is_or_not true false = inr (λ e. cc)
is_or_not false true = inr (λ e. cc)
is_or_not false false = inl refl

fits_or_not : (s : Sizes) (r : VolumeRecord) (c : Content) → Fits s r c ⊎ (Fits s r c → ⊥)
fits_or_not s r content.Updating = is_or_not r.marker true
fits_or_not s r content.Damaged = both_or_not (r.marker ≡ false) (r.kind ≡ kind.Static) (is_or_not r.marker false)
    (kind_or_other r.kind kind.Static)
fits_or_not s r (content.Static text) = elim (is_or_not r.marker false) [
  | inr n ↦ inr (λ f. n f.0)
  | inl m ↦ elim (kind_or_other r.kind kind.Static) [
    | inr n ↦ inr (λ f. n f.1)
    | inl k ↦ elim (within_or_past (length text) (r.reserved * usable s r)) [
      | inl l ↦ inl (m, k, l)
      | inr g ↦ inr (λ f. let l = f.2 in omega arith)
    ]
  ]
]
fits_or_not s r (content.Dynamic lebs) = elim (is_or_not r.marker false) [
  | inr n ↦ inr (λ f. n f.0)
  | inl m ↦ elim (kind_or_other r.kind kind.Dynamic) [
    | inr n ↦ inr (λ f. n f.1)
    | inl k ↦ elim (is_or_not (list_all (leb_fits r.reserved (usable s r)) (finite.entries lebs)) true) [
      | inl t ↦ inl (m, k, (each_within r.reserved (usable s r) lebs).0 t)
      | inr n ↦ inr (λ f. n ((each_within r.reserved (usable s r) lebs).1 f.2))
    ]
  ]
]

-- ---- and still does without the LEBs that are blank
module _ (s : Sizes) (r : VolumeRecord) where
  kept_if : (P : List ℕ → Type 0) (b : Bool) (o : Option (List ℕ)) → IfSome o P → IfSome (cond b o None) P
  kept_if P true o h = h
  kept_if P false o h = tt

  pub fits_without_blank : (c : Content) → Fits s r c → Fits s r (without_blank c)
  fits_without_blank content.Updating f = f
  fits_without_blank content.Damaged f = f
  fits_without_blank (content.Static text) f = f
  fits_without_blank (content.Dynamic lebs) f = (
    f.0,
    f.1,
    λ lnum.
        let P : List ℕ → Type 0 = λ text. (lnum < r.reserved) × (length text ≡ usable s r) in
        subst (λ (o : Option (List ℕ)). IfSome o P) (sym (get_without_blank lebs lnum))
        (kept_if P (is_kept lebs lnum) (finite.get lebs lnum) (f.2 lnum)),
  )

  not_blank : (lebs : LebMap) (lnum : ℕ) (o : Option (List ℕ)) → finite.get lebs lnum ≡ o
      → IfSome (cond (not (is_blank (unwrap_or o []))) o None) (λ text. text ≢ blank (usable s r))
  not_blank lebs lnum None e = tt
  not_blank lebs lnum (Some text) e =
      elim (is_blank text) as (λ b. is_blank text ≡ b
      → IfSome (cond (not b) (Some text) None) (λ text. text ≢ blank (usable s r))) [
        | true ↦ λ t. tt
        | false ↦ λ t. other_text text (usable s r) t
      ] refl

  pub keeps_no_blank : (c : Content) → KeepsNoBlank s r (without_blank c)
  keeps_no_blank content.Updating = tt
  keeps_no_blank content.Damaged = tt
  keeps_no_blank (content.Static text) = tt
  keeps_no_blank (content.Dynamic lebs) = λ lnum.
      subst (λ (o : Option (List ℕ)). IfSome o (λ text. text ≢ blank (usable s r))) (sym (get_without_blank lebs lnum))
      (not_blank lebs lnum (finite.get lebs lnum) refl)

-- ---- numbers that are apart
abbrev same_number : ℕ → ℕ → Bool
same_number = eq_by_cmp nat_cmp

lt_of : (a b : ℕ) → a ≤ b → same_number a b ≡ false → is_lt (nat_cmp a b) ≡ true
lt_of a b l e = grind (arith, nat_tests)

-- no two items have one number
pub record AreApart (es : Items) : Type 0 where
  pub each : (i j : ℕ) (x y : Item) → IsItem es i x → IsItem es j y → x.0 ≡ y.0 → i ≡ j

apart_tail : (e : Item) (es : Items) → AreApart (e ∷ es) → AreApart es
apart_tail e es h = record { each = λ i j x y a b same. (let n = h.each (suc i) (suc j) x y a b same in omega arith) }

-- an item of apart ones is what its number finds
found_at : (es : Items) (i q : ℕ) (v : Volume) → AreApart es → IsItem es i (q, v) → find nat_cmp q es ≡ Some v
found_at [] i q v apart at = absurd (no_some (q, v) at)
found_at (e ∷ es) zero q v apart at =
    let same : e ≡ (q, v) = same_Some e (q, v) at in
    ap (λ r. cond (is_eq r) (Some e.1) (find nat_cmp q es)) (ap (nat_cmp q) (ap (λ (x : Item). x.0) same)
    ∙ tied_itself nat_cmp_total q) ∙ ap (λ (x : Item). Some x.1) same
found_at (e ∷ es) (suc i) q v apart at = elim (told nat_cmp nat_cmp_total exact_unsigned q e.0) [
  | inl t ↦ absurd (let n = apart.each (suc i) 0 (q, v) e at refl t.1 in omega arith)
  | inr t ↦ ap (λ b. cond b (Some e.1) (find nat_cmp q es)) t.0 ∙ found_at es i q v (apart_tail e es apart) at
]

-- an item with the number is found, whatever stands before it
some_found : (es : Items) (i : ℕ) (x : Item) → IsItem es i x → find nat_cmp x.0 es ≡ None → ⊥
some_found [] i x at none = no_some x at
some_found (e ∷ es) zero x at none =
    let same : e ≡ x = same_Some e x at in
    no_some e.1 (sym none ∙ ap (λ r. cond (is_eq r) (Some e.1) (find nat_cmp x.0 es))
    (ap (nat_cmp x.0) (ap (λ (y : Item). y.0) same) ∙ tied_itself nat_cmp_total x.0))
some_found (e ∷ es) (suc i) x at none = elim (told nat_cmp nat_cmp_total exact_unsigned x.0 e.0) [
  | inl t ↦ no_some e.1 (sym none ∙ ap (λ b. cond b (Some e.1) (find nat_cmp x.0 es)) t.0)
  | inr t ↦ some_found es i x at (ap (λ b. cond b (Some e.1) (find nat_cmp x.0 es)) (sym t.0) ∙ none)
]

-- what is found stands at a place
item_of : (es : Items) (q : ℕ) (v : Volume) → find nat_cmp q es ≡ Some v → (i : ℕ) × IsItem es i (q, v)
item_of es q v e =
    let p = place_of nat_cmp_total nat_cmp-IsAntisymmetric q v (q, v) es e in
    (p.0, slice_get-get_or es p.0 (q, v) p.1 ∙ ap Some p.2)

moved_item : (es fs : Items) (i : ℕ) (x : Item) → IsPermutation es fs → IsItem es i x → (j : ℕ) × IsItem fs j x
moved_item es fs i x moved at =
    let c = Contains-permutation es fs x moved (i, slice_get_within es i x at, get_or_from_slice_get es i x x at) in
    (c.0, slice_get-get_or fs c.0 x c.1 ∙ ap Some c.2)

-- a permutation of apart items finds the same
same_found : (es fs : Items) → AreApart es → IsPermutation es fs → (q : ℕ) → find nat_cmp q fs ≡ find nat_cmp q es
same_found es fs apart moved q = by (find nat_cmp q fs) (find nat_cmp q es) refl refl
  where
    by : (o p : Option Volume) → find nat_cmp q fs ≡ o → find nat_cmp q es ≡ p → o ≡ p
    by None None e f = refl
    by None (Some v) e f =
        let at = item_of es q v f in
        let to = moved_item es fs at.0 (q, v) moved at.1 in
        absurd (some_found fs to.0 (q, v) to.1 e)
    by (Some v) p e f =
        let at = item_of fs q v e in
        let from = moved_item fs es at.0 (q, v) (IsPermutation-sym es fs moved) at.1 in
        sym (found_at es from.0 q v apart from.1) ∙ f

pub same_volumes : (es fs : Items) → AreApart es → IsPermutation es fs → from_entries {R = nat_cmp} fs ≡ from_entries es
same_volumes es fs apart moved = finite.same_map nat_cmp_total nat_cmp-IsAntisymmetric _ _
    (λ q. finite.get-from_entries nat_cmp_total fs q ∙ same_found es fs apart moved q
    ∙ sym (finite.get-from_entries nat_cmp_total es q))

-- ---- items by rising number
keyed : (es : Items) (i d : ℕ) → i < length (keys_of es) → (x : Item) × IsItem es i x × (x.0 ≡ get_or (keys_of es) i d)
keyed es i d l = by (slice_get es i) refl
  where
    at : option_map (λ (x : Item). x.0) (slice_get es i) ≡ Some (get_or (keys_of es) i d)
    at = sym (slice_get-map (λ (x : Item). x.0) es i) ∙ slice_get-get_or (keys_of es) i d l

    by : (o : Option Item) → slice_get es i ≡ o → (x : Item) × IsItem es i x × (x.0 ≡ get_or (keys_of es) i d)
    by None e = absurd (no_some _ (sym (ap (option_map (λ (x : Item). x.0)) e) ∙ at))
    by (Some x) e = (x, e, same_Some x.0 _ (sym (ap (option_map (λ (x : Item). x.0)) e) ∙ at))

distinct : (es : Items) → AreApart es → IsDistinct same_number (keys_of es)
distinct es apart = IsDistinct-from_apart same_number (keys_of es) (λ i j d l k.
    let x = keyed es i d (omega arith) in
    let y = keyed es j d k in
    elim (told nat_cmp nat_cmp_total exact_unsigned (get_or (keys_of es) i d) (get_or (keys_of es) j d)) [
      | inl t ↦ absurd (let n = apart.each i j x.0 y.0 x.1 y.1 (x.2 ∙ t.1 ∙ sym y.2) in omega arith)
      | inr t ↦ t.0
    ])

below : (k : ℕ) (es : Items) → ((i : ℕ) (d : Item) → i < length es → k ≤ (get_or es i d).0)
    → AllByRecursion (λ n. same_number k n ≡ false) (keys_of es) → T (below_all nat_cmp k es)
below k [] least apart = tt
below k (e ∷ es) least apart = both_are _ _ (subst T (sym (lt_of k e.0 (least 0 e (omega arith)) apart.0)) tt)
    (below k es (λ i d l. least (suc i) d (omega arith)) apart.1)

rising : (es : Items) → IsNonDecreasingBy (λ (e : Item). e.0) es → IsDistinct same_number (keys_of es)
    → T (is_sorted nat_cmp es)
rising [] up apart = tt
rising (e ∷ es) up apart =
    both_are _ _ (below e.0 es (λ i d l. up 0 (suc i) d (omega arith) (omega arith))
    (IsDistinct-head same_number e.0 (keys_of es) apart))
    (rising es (λ i j d l k. up (suc i) (suc j) d (omega arith) (omega arith))
    (IsDistinct-tail same_number e.0 (keys_of es) apart))

-- ---- the meaning
same_sum : (es : Items) (n : ℕ) → fold (λ k (v : Volume). k + v.entry.reserved) n
    (values_of (map item_without_blank es)) ≡ fold (λ k (e : Item). k + e.1.entry.reserved) n es
same_sum [] n = refl
same_sum (e ∷ es) n = same_sum es (n + e.1.entry.reserved)

module _ (s : Sizes) (items : Items) (none : NoCause s items) where
  -- an item without the LEBs that are blank comes from one with them
  item_before : (i : ℕ) (x : Item) → IsItem (map item_without_blank items) i x
      → (w : Item) × IsItem items i w × (item_without_blank w ≡ x)
  item_before i x at = by (slice_get items i) refl
    where
      from : option_map item_without_blank (slice_get items i) ≡ Some x
      from = sym (slice_get-map item_without_blank items i) ∙ at

      by : (o : Option Item) → slice_get items i ≡ o → (w : Item) × IsItem items i w × (item_without_blank w ≡ x)
      by None e = absurd (no_some x (sym (ap (option_map item_without_blank) e) ∙ from))
      by (Some w) e = (w, e, same_Some (item_without_blank w) x (sym (ap (option_map item_without_blank) e) ∙ from))

  one_number : (i j : ℕ) (x y : Item) → IsItem items i x → IsItem items j y → x.0 ≡ y.0 → i ≡ j
  one_number i j x y a b same = elim (cases_order i j) [
    | inl e ↦ e
    | inr o ↦ elim o [
      | inl l ↦ absurd (none (cause.SameId j) (i, y, x, b, a, l, same))
      | inr l ↦ absurd (none (cause.SameId i) (j, x, y, a, b, l, sym same))
    ]
  ]

  one_name : (i j : ℕ) (x y : Item) → IsItem items i x → IsItem items j y → x.1.entry.name ≡ y.1.entry.name → i ≡ j
  one_name i j x y a b same = elim (cases_order i j) [
    | inl e ↦ e
    | inr o ↦ elim o [
      | inl l ↦ absurd (none (cause.SameName j i) (y, x, b, a, l, same))
      | inr l ↦ absurd (none (cause.SameName i j) (x, y, a, b, l, sym same))
    ]
  ]

  apart : AreApart (map item_without_blank items)
  apart = record {
    each = λ i j x y a b same.
        let v = item_before i x a in
        let w = item_before j y b in
        one_number i j v.0 w.0 v.1 w.1 (ap (λ (z : Item). z.0) v.2 ∙ same ∙ sym (ap (λ (z : Item). z.0) w.2));
  }

  sound : (i : ℕ) (w : Item) → IsItem items i w → (o : Option RecFault) → rec_fault s w.1.entry ≡ o
      → rec_fault s w.1.entry ≡ None
  sound i w at None e = e
  sound i w at (Some f) e = absurd (none (cause.Record i f) (w, at, e))

  below_slots : (i : ℕ) (w : Item) → IsItem items i w → w.0 < slots s
  below_slots i w at = elim (within_or_past (slots s) w.0) [
    | inl l ↦ absurd (none (cause.IdRange i) (w, at, l))
    | inr l ↦ l
  ]

  fits : (i : ℕ) (w : Item) → IsItem items i w → Fits s w.1.entry w.1.content
  fits i w at = elim (fits_or_not s w.1.entry w.1.content) [
    | inl f ↦ f
    | inr n ↦ absurd (none (cause.ContentRange i) (w, at, n))
  ]

  is_volume : (i : ℕ) (w : Item) → IsItem items i w → IsVolume s w.0 (item_without_blank w).1
  is_volume i w at = record {
    slot = below_slots i w at;
    sound = sound i w at (rec_fault s w.1.entry) refl;
    fits = fits_without_blank s w.1.entry w.1.content (fits i w at);
    kept = keeps_no_blank s w.1.entry w.1.content;
  }

  module _ (sorted : Items) (moved : IsPermutation (map item_without_blank items) sorted)
      (up : IsNonDecreasingBy (λ (e : Item). e.0) sorted) where
    pub arranged_same : from_entries {R = nat_cmp} sorted ≡ from_entries (map item_without_blank items)
    arranged_same = same_volumes (map item_without_blank items) sorted apart moved

    in_order : IsTrue (is_sorted nat_cmp sorted)
    in_order = true_is _
        (rising sorted up (IsDistinct-IsPermutation same_number (eq_by_cmp_equiv nat_cmp_total).symm
        (keys_of (map item_without_blank items)) (keys_of sorted)
        (IsPermutation-map (λ (e : Item). e.0) (map item_without_blank items) sorted moved)
        (distinct (map item_without_blank items) apart)))

    -- a volume of the meaning comes from an item
    volume_at : (id : ℕ) (v : Volume) → finite.get (from_entries {R = nat_cmp} sorted) id ≡ Some v
        → (i : ℕ) × (w : Item) × IsItem items i w × (item_without_blank w ≡ (id, v))
    volume_at id v e =
        let f : find nat_cmp id (map item_without_blank items) ≡ Some v =
        sym (finite.get-from_entries nat_cmp_total (map item_without_blank items) id)
        ∙ ap (λ m. finite.get m id) (sym arranged_same) ∙ e in
        let at = item_of (map item_without_blank items) id v f in
        let from = item_before at.0 (id, v) at.1 in
        (at.0, from.0, from.1, from.2)

    each_volume : (id : ℕ) (o : Option Volume) → finite.get (from_entries {R = nat_cmp} sorted) id ≡ o
        → IfSome o (IsVolume s id)
    each_volume id None e = tt
    each_volume id (Some v) e =
        let at = volume_at id v e in
        subst (λ (x : Item). IsVolume s x.0 x.1) at.3 (is_volume at.0 at.1 at.2)

    names : HasDistinctNames (from_entries sorted)
    names i j v w e f same =
        let a = volume_at i v e in
        let b = volume_at j w f in
        let alike : a.1.1.entry.name ≡ b.1.1.entry.name = ap (λ (z : Item). z.1.entry.name) a.3 ∙ same
        ∙ sym (ap (λ (z : Item). z.1.entry.name) b.3) in
        let place : a.0 ≡ b.0 = one_name a.0 b.0 a.1 b.1 a.2 b.2 alike in
        let one : a.1 ≡ b.1 = same_Some a.1 b.1 (sym a.2 ∙ ap (slice_get items) place ∙ b.2) in
        sym (ap (λ (z : Item). z.0) a.3) ∙ ap (λ (z : Item). z.0) one ∙ ap (λ (z : Item). z.0) b.3

    reserved : sum_by (λ (v : Volume). v.entry.reserved) (finite.values (from_entries {R = nat_cmp} sorted))
        ≡ sum_by (λ (e : Item). e.1.entry.reserved) items
    reserved =
        ap (λ (es : Items). sum_by (λ (v : Volume). v.entry.reserved) (values_of es)) (sorted_entries sorted in_order)
        ∙ sum_by_values_permutation (λ (v : Volume). v.entry.reserved) (map item_without_blank items) sorted moved
        ∙ same_sum items 0

    space : 2 + sum_by (λ (v : Volume). v.entry.reserved) (finite.values (from_entries {R = nat_cmp} sorted)) ≤ s.pebs
    space = elim (within_or_past (2 + sum_by (λ (e : Item). e.1.entry.reserved) items) s.pebs) [
      | inl l ↦ (let e = reserved in omega arith)
      | inr g ↦ absurd (none cause.NoSpace g)
    ]

    pub arranged_volumes : (seq : ℕ) → seq < 2 ^ 32 → AreVolumes s seq sorted
    arranged_volumes seq narrow = record {
      sorted = in_order;
      meaning = record {
        image_seq = narrow;
        each = λ id. each_volume id (finite.get (from_entries sorted) id) refl;
        names = names;
        space = space;
      };
    }
