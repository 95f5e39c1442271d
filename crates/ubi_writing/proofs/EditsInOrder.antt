-- The edits that are asked for, one after the other, and the volumes that those of edits replace.
use Rattle.ubi_writing.proofs.Prelude.{◌≡◌, ◌∙◌, ℕ, ◌+◌, ◌<◌, List, [], ◌∷◌, ◌++◌, length, take, get_or, ap, sym, Some, None, Option, option_map, append-nil, take_more, filter_map-append, fold_more, cons_option, slice_get-get_or, Records, Edit, IsNoEdit, edit_for, edits_for, with_edit_for, all_replaced, replaced_by, Ask}

module _ (t : Records) (asks : List Ask) (i : ℕ) (d : Ask) (before : List Edit) (inside : i < length asks)
    (so_far : edits_for t (take i asks) ≡ Some before) where
  pub edits_more : (e : Edit) → edit_for t before (get_or asks i d) ≡ Some e → edits_for t (take (i + 1) asks) ≡ Some (before ++ e ∷ [])
  edits_more e is =
      fold_more (with_edit_for t) (Some []) asks i d inside
      ∙ ap (λ (o : Option (List Edit)). with_edit_for t o (get_or asks i d)) so_far
      ∙ ap (option_map (λ (x : Edit). before ++ x ∷ [])) is

  pub no_edit_at : edit_for t before (get_or asks i d) ≡ None → IsNoEdit t asks i
  no_edit_at none = record {
    before = before;
    edits = so_far;
    ask = get_or asks i d;
    at = slice_get-get_or asks i d inside;
    none = none;
  }

-- the volumes that those of one more edit replace
module _ (es : List Edit) (i : ℕ) (e : Edit) (inside : i < length es) (here : get_or es i e ≡ e) where
  all_more : all_replaced (take (i + 1) es) ≡ all_replaced (take i es) ++ all_replaced (e ∷ [])
  all_more =
      ap all_replaced (take_more es i e inside ∙ ap (λ (x : Edit). take i es ++ x ∷ []) here)
      ∙ filter_map-append replaced_by (take i es) (e ∷ [])

  pub replaced_more : (old : List (Option ℕ)) (o : Option ℕ) → old ≡ all_replaced (take i es) → replaced_by e ≡ Some o
      → old ++ o ∷ [] ≡ all_replaced (take (i + 1) es)
  replaced_more old o is some =
      ap (λ (xs : List (Option ℕ)). xs ++ o ∷ []) is
      ∙ ap (λ (x : Option (Option ℕ)). all_replaced (take i es) ++ cons_option x []) (sym some)
      ∙ sym all_more

  pub replaced_none : (old : List (Option ℕ)) → old ≡ all_replaced (take i es) → replaced_by e ≡ None → old ≡ all_replaced (take (i + 1) es)
  replaced_none old is none =
      is ∙ sym (append-nil (all_replaced (take i es)))
      ∙ ap (λ (x : Option (Option ℕ)). all_replaced (take i es) ++ cons_option x []) (sym none)
      ∙ sym all_more
