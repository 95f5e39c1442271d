-- The causes for which volumes have no meaning together, tried item by item.
use Rattle.ubi_volume.proofs.Prelude.{◌≡◌, ℕ, zero, suc, ◌+◌, ◌<◌, ◌==◌, inl, inr, Bool, true, false, cond, Decides, nat_lt, List, [], ◌∷◌, length, get_or, refl, ap, sym, ◌∙◌, subst, take, arith, ◌↔◌, IsTrue, None, Option, Some, position, slice_get, nat_tests, position-Some, get_or_from_slice_get, slice_get-get_or, slice_get_read, slice_get_within, same_Some, fails_before_first, position_or_len, slice_eq-Decides, unsigned_Decides, same_bytes, Sizes, rec_fault, RecFault, below_or_last, IsFirstOf, NoneBelow, IsItem, Items, Stands, item, cause_rank, Fits, Volume, MeaningCause}
use Rattle.std.specs.Prelude.{sum_by}
use Rattle.ubi_volume.specs.declared.errors.MeaningCause.TheVariants as cause
use Rattle.ubi_volume.proofs.Winners.{no_some}

never_true : (b : Bool) → b ≡ false → IsTrue b → ⊥
never_true b e t = cc

module _ (s : Sizes) (items : Items) where
  one_more : (r n : ℕ) → NoneBelow s items r n → ((d : MeaningCause) → cause_rank d ≡ r → item d ≡ n → Stands s items d → ⊥)
      → NoneBelow s items r (n + 1)
  one_more r n below at d e l st = elim (below_or_last (item d) n l) [
    | inl b ↦ below d e b st
    | inr same ↦ at d e same st
  ]

  -- a cause of an item names one of the list
  in_list : (d : MeaningCause) → (cause_rank d ≡ 5 → ⊥) → Stands s items d → item d < length items
  in_list (cause.IdRange i) r st = slice_get_within items i st.0 st.1
  in_list (cause.SameId i) r st = slice_get_within items i st.1 st.3
  in_list (cause.Record i f) r st = slice_get_within items i st.0 st.1
  in_list (cause.SameName i j) r st = slice_get_within items i st.0 st.2
  in_list cause.NoSpace r st = absurd (r refl)
  in_list (cause.ContentRange i) r st = slice_get_within items i st.0 st.1

  -- none at all, once no item is left
  pub none_left : (r n : ℕ) → (r ≡ 5 → ⊥) → n ≡ length items → NoneBelow s items r n → IsFirstOf s items r None
  none_left r n other all below d e st =
      below d e (let l = in_list d (λ k. other (sym e ∙ k)) st in omega arith) st

  module _ (n : ℕ) (e : ℕ × Volume) (inside : n < length items) (is : e ≡ get_or items n e) where
    here : IsItem items n e
    here = slice_get_read items (length items) n e refl inside is

    same_item : (i : ℕ) (x : ℕ × Volume) → i ≡ n → IsItem items i x → x ≡ e
    same_item i x k h = same_Some x e (sym h ∙ ap (slice_get items) k ∙ here)

    -- the record breaks none, where none does
    pub sound_here : IsFirstOf s items 3 None → (o : Option RecFault) → rec_fault s e.1.entry ≡ o
        → rec_fault s e.1.entry ≡ None
    sound_here none None q = q
    sound_here none (Some f) q = absurd (none (cause.Record n f) refl (e, here, q))

    -- the content isn't one that the record allows
    pub content_found : (b : Bool) → IsTrue b ↔ Fits s e.1.entry e.1.content → b ≡ false → NoneBelow s items 6 n
        → IsFirstOf s items 6 (Some (cause.ContentRange n))
    content_found b test fails below = (refl, (e, here, λ fits. never_true b fails (test.1 fits)), below)

    pub content_more : Fits s e.1.entry e.1.content → NoneBelow s items 6 n → NoneBelow s items 6 (n + 1)
    content_more ok below = one_more 6 n below at
      where
        at : (d : MeaningCause) → cause_rank d ≡ 6 → item d ≡ n → Stands s items d → ⊥
        at (cause.ContentRange i) r k st =
            st.2 (subst (λ (x : ℕ × Volume). Fits s x.1.entry x.1.content) (sym (same_item i st.0 k st.1)) ok)
        at (cause.IdRange i) r k st = omega (arith, r)
        at (cause.SameId i) r k st = omega (arith, r)
        at (cause.Record i f) r k st = omega (arith, r)
        at (cause.SameName i j) r k st = omega (arith, r)
        at cause.NoSpace r k st = omega (arith, r)

-- ---- the first place that passes a test
past_all : (b : Bool) (k : ℕ) → cond b (Some k) None ≡ None → b ≡ false
past_all true k e = absurd (cc)
past_all false k e = refl

module _ {X : Type 0} where
  none_passes : (p : X → Bool) (xs : List X) (j : ℕ) (x : X) → position p xs ≡ None → slice_get xs j ≡ Some x
      → p x ≡ false
  none_passes p xs j x none at =
      let past : nat_lt (position_or_len p xs) (length xs) ≡ false = past_all _ _ none in
      let inside : j < length xs = slice_get_within xs j x at in
      let before : j < position_or_len p xs = grind (arith, nat_tests) in
      ap p (sym (get_or_from_slice_get xs j x x at)) ∙ fails_before_first p xs j x before

  earlier_of : (n : ℕ) (xs : List X) (j : ℕ) (x : X) → slice_get (take n xs) j ≡ Some x
      → (j < n) × (slice_get xs j ≡ Some x)
  earlier_of zero xs j x e = absurd (no_some x e)
  earlier_of (suc n) [] j x e = absurd (no_some x e)
  earlier_of (suc n) (y ∷ xs) zero x e = (omega arith, e)
  earlier_of (suc n) (y ∷ xs) (suc j) x e = let r = earlier_of n xs j x e in (let l = r.0 in omega arith, r.1)

  earlier_at : (n : ℕ) (xs : List X) (j : ℕ) (x : X) → j < n → slice_get xs j ≡ Some x
      → slice_get (take n xs) j ≡ Some x
  earlier_at zero xs j x l e = absurd (omega arith)
  earlier_at (suc n) [] j x l e = e
  earlier_at (suc n) (y ∷ xs) zero x l e = e
  earlier_at (suc n) (y ∷ xs) (suc j) x l e = earlier_at n xs j x (omega arith) e

same_name_test : (a b : List ℕ) → Decides (same_bytes a b) (a ≡ b)
same_name_test a b = slice_eq-Decides unsigned_Decides a b (same_bytes a b) refl

module _ (s : Sizes) (items : Items) (n : ℕ) (e : ℕ × Volume) (inside : n < length items)
    (is : e ≡ get_or items n e) where
  -- the item at which a test of the earlier ones is passed
  passed : (p : ℕ × Volume → Bool) (j : ℕ) → position p (take n items) ≡ Some j
      → (d : ℕ × Volume) × IsItem items j d × (j < n) × (p d ≡ true)
  passed p j found =
      let f = position-Some p (take n items) j e found in
      let d = get_or (take n items) j e in
      let at = earlier_of n items j d (slice_get-get_or (take n items) j e f.0) in
      (d, at.1, at.0, f.1)

  -- the number stands earlier
  pub same_id_found : (j : ℕ) → position (λ x. x.0 == e.0) (take n items) ≡ Some j → NoneBelow s items 2 n
      → IsFirstOf s items 2 (Some (cause.SameId n))
  same_id_found j found below =
      let f = passed (λ x. x.0 == e.0) j found in
      (refl, (j, e, f.0, here s items n e inside is, f.1, f.2, (unsigned_Decides f.0.0 e.0).0 f.3), below)

  pub same_id_more : position (λ x. x.0 == e.0) (take n items) ≡ None → NoneBelow s items 2 n
      → NoneBelow s items 2 (n + 1)
  same_id_more none below = one_more s items 2 n below at
    where
      at : (d : MeaningCause) → cause_rank d ≡ 2 → item d ≡ n → Stands s items d → ⊥
      at (cause.SameId i) r k (j, x, d, at_i, at_j, l, same) =
          let alike : x ≡ e = same_item s items n e inside is i x k at_i in
          let l' : j < n = omega arith in
          let fails : (d.0 == e.0) ≡ false = none_passes (λ x. x.0 == e.0) (take n items) j d none
          (earlier_at n items j d l' at_j) in
          let passes : (d.0 == e.0) ≡ true = (unsigned_Decides d.0 e.0).1 (same ∙ ap (λ (x : ℕ × Volume). x.0) alike) in
          cc
      at (cause.IdRange i) r k st = omega (arith, r)
      at (cause.Record i f) r k st = omega (arith, r)
      at (cause.SameName i j) r k st = omega (arith, r)
      at cause.NoSpace r k st = omega (arith, r)
      at (cause.ContentRange i) r k st = omega (arith, r)

  -- the name stands earlier
  pub same_name_found : (j : ℕ) → position (λ x. same_bytes x.1.entry.name e.1.entry.name) (take n items) ≡ Some j
      → NoneBelow s items 4 n
      → IsFirstOf s items 4 (Some (cause.SameName n j))
  same_name_found j found below =
      let f = passed (λ x. same_bytes x.1.entry.name e.1.entry.name) j found in (
        refl,
        (e, f.0, here s items n e inside is, f.1, f.2, (same_name_test f.0.1.entry.name e.1.entry.name).0 f.3),
        below,
      )

  pub same_name_more : position (λ x. same_bytes x.1.entry.name e.1.entry.name) (take n items) ≡ None
      → NoneBelow s items 4 n → NoneBelow s items 4 (n + 1)
  same_name_more none below = one_more s items 4 n below at
    where
      at : (d : MeaningCause) → cause_rank d ≡ 4 → item d ≡ n → Stands s items d → ⊥
      at (cause.SameName i j) r k (x, d, at_i, at_j, l, same) =
          let alike : x ≡ e = same_item s items n e inside is i x k at_i in
          let l' : j < n = omega arith in
          let fails : same_bytes d.1.entry.name e.1.entry.name ≡ false =
          none_passes (λ x. same_bytes x.1.entry.name e.1.entry.name) (take n items) j d none
          (earlier_at n items j d l' at_j) in
          let passes : same_bytes d.1.entry.name e.1.entry.name ≡ true =
          (same_name_test d.1.entry.name e.1.entry.name).1 (same ∙ ap (λ (x : ℕ × Volume). x.1.entry.name) alike) in
          cc
      at (cause.IdRange i) r k st = omega (arith, r)
      at (cause.SameId i) r k st = omega (arith, r)
      at (cause.Record i f) r k st = omega (arith, r)
      at cause.NoSpace r k st = omega (arith, r)
      at (cause.ContentRange i) r k st = omega (arith, r)

-- ---- the space
abbrev pub reserved_by : Items → ℕ
reserved_by items = sum_by (λ e. e.1.entry.reserved) items
