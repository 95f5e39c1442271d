-- The states of members, by what a scan says of them.
use Rattle.ubi_volume.proofs.Prelude.{◌≡◌, ℕ, inl, inr, Bool, true, false, List, [], ◌∷◌, ◌++◌, length, get_or, ap, sym, ◌∙◌, subst, arith, length-append, IfSome, Option, Some, slice_get, get_or_append_left, slice_get-get_or, slice_get_past, get_or-append_seam, Sizes, below_same_or_above, IsMember, Leb, Wins, Records, BlockStateIs, MemberStateIs, BlockState}
use Rattle.ubi_volume.specs.declared.attached.BlockState.TheVariants as state

module _ (s : Sizes) (bs : List (List ℕ)) (t : Records) (p : ℕ) where
  by_leb : (of : Leb) → IsMember s bs of p → (wins : Bool) → (wins ≡ true → Wins s bs of p)
      → (wins ≡ false → Wins s bs of p → ⊥)
      → (b : BlockState) → MemberStateIs t of wins b → BlockStateIs s bs t p b
  by_leb of m wins w l state.Blank h = absurd h
  by_leb of m wins w l state.Free h = absurd h
  by_leb of m wins w l state.Garbage h = absurd h
  by_leb of m wins w l state.Corrupt h = absurd h
  by_leb of m wins w l state.Dropped h = absurd h
  by_leb of m wins w l state.Orphan h = (of, m, h)
  by_leb of m wins w l state.Table h = (of.1, subst (λ (vol : ℕ). Wins s bs (vol, of.1) p) h.1 (w h.0))
  by_leb of m wins w l state.Used h = (of, w h.0, h.1, h.2)
  by_leb of m wins w l state.Stale h = (of, m, l h.0, h.1)

  pub state_of_winner : (of : Leb) → Wins s bs of p → (b : BlockState) → MemberStateIs t of true b → BlockStateIs s bs t p b
  state_of_winner of w b h = by_leb of w.member true (λ e. w) (λ e. absurd (cc)) b h

  pub state_of_beaten : (of : Leb) → IsMember s bs of p → (Wins s bs of p → ⊥) → (b : BlockState)
      → MemberStateIs t of false b → BlockStateIs s bs t p b
  state_of_beaten of m l b h = by_leb of m false (λ e. absurd (cc)) (λ e. l) b h

-- one more state behind the others
pub states_more : (P : ℕ → BlockState → Type 0) (xs : List BlockState) (x : BlockState) (n : ℕ) → length xs ≡ n
    → ((q : ℕ) → IfSome (slice_get xs q) (P q)) → P n x
    → (q : ℕ) → IfSome (slice_get (xs ++ x ∷ []) q) (P q)
states_more P xs x n size h new q =
    let len = length-append xs (x ∷ []) in
    elim (below_same_or_above q n) [
      | inl below ↦
          let old : IfSome (Some (get_or xs q state.Blank)) (P q) =
          subst (λ (o : Option BlockState). IfSome o (P q)) (slice_get-get_or xs q state.Blank (omega arith))
          (h q) in
          subst (λ (o : Option BlockState). IfSome o (P q))
          (sym (slice_get-get_or (xs ++ x ∷ []) q state.Blank (omega arith)
          ∙ ap Some (get_or_append_left xs (x ∷ []) state.Blank q (omega arith)))) old
      | inr o ↦ elim o [
        | inl same ↦
            let here : get_or (xs ++ x ∷ []) q state.Blank ≡ x =
            ap (λ k. get_or (xs ++ x ∷ []) k state.Blank) (same ∙ sym size)
            ∙ get_or-append_seam xs x [] state.Blank in
            subst (λ (o : Option BlockState). IfSome o (P q))
            (sym (slice_get-get_or (xs ++ x ∷ []) q state.Blank (omega arith) ∙ ap Some here))
            (subst (λ (k : ℕ). P k x) (sym same) new)
        | inr past ↦ subst (λ (o : Option BlockState). IfSome o (P q))
            (sym (slice_get_past (xs ++ x ∷ []) q (omega arith))) tt
      ]
    ]
