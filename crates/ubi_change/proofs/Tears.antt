-- An eraseblock whose step was begun and not ended does no harm.
use Rattle.ubi_change.proofs.Prelude.{◌≡◌, ◌≢◌, ℕ, ◌<◌, ◌≤◌, inl, inr, Bool, true, false, List, length, set, sym, refl, ◌∙◌, subst, arith, Some, None, Option, Sizes, IsClean, IsSound, block, IsMember, Leb, Wins, layout, good_at, good_in, named_in, sqnum_at, sqnum_in, image_seq, seq_of, clean_from_none, none_from_clean, Agrees, seq_agrees, AllBlank, AcceptsBlocks, IsOutside, Meant, is_sole_carrier, same_Some, IsHarmless}
use Rattle.ubi_change.proofs.MeaningKept.{KeepsLeb, accepts_kept}
use Rattle.ubi_change.proofs.Mounted.{leb_same}
use Rattle.ubi_change.proofs.Replaced as replaced
use Rattle.ubi_change.proofs.Replaced.{block_other, clean_kept, keeps_others}
use Rattle.ubi_change.proofs.Seq.{NamedBeside, not_sole}
use Rattle.ubi_change.proofs.Unused.{layout_counts, within_counts}
use Rattle.ubi_change.proofs.Vacated.{LosesAll, names_image, seq_set, vacated}

module _ (s : Sizes) (bs : List (List ℕ)) (b : ℕ) (x : List ℕ) (inside : b < length bs) (leb : Leb)
    (was : named_in s (block bs b) ≡ Some leb) (named : named_in s x ≡ Some leb)
    (number : sqnum_in s x ≡ sqnum_in s (block bs b))
    (good : good_in s x ≡ true → good_in s (block bs b) ≡ true) where
  here : IsMember s bs leb b
  here = record { inside = inside; named = was }

  -- a winner that isn't b stays
  stays : (w : ℕ) → w ≢ b → Wins s bs leb w → Wins s (set bs b x) leb w
  stays w e h = record {
    member = replaced.member_kept s bs b x inside leb w e h.member;
    best = elim h.best [
      | inl g ↦ inl (
        replaced.good_kept s bs b x inside w e ∙ g.0,
        replaced.over_set s bs b x inside (λ t f. f ≡ true → t ≤ sqnum_at s (set bs b x) w) leb
            (λ q _ m y. (let k = g.1 q m y in let k' = replaced.sqnum_kept s bs b x inside w e in omega arith))
            (λ n y. (let k = g.1 b here (good y) in let k' = replaced.sqnum_kept s bs b x inside w e in let n' = number in omega arith)),
      )
      | inr g ↦ inr (replaced.over_set s bs b x inside (λ t f. (f ≡ false) × (sqnum_at s (set bs b x) w ≤ t)) leb
          (λ q _ m. ((g q m).0, (let k = (g q m).1 in let k' = replaced.sqnum_kept s bs b x inside w e in omega arith)))
          (λ n. (
            bad_still (good_in s x) refl (g b here).0,
            (let k = (g b here).1 in let k' = replaced.sqnum_kept s bs b x inside w e in let n' = number in omega arith),
          )))
    ];
  } where
    bad_still : (y : Bool) → good_in s x ≡ y → good_at s bs b ≡ false → y ≡ false
    bad_still false e h = refl
    bad_still true e h = (let k = good e in absurd (cc))

  keeps_here : (Wins s bs leb b → ⊥) → KeepsLeb s bs (set bs b x) leb
  keeps_here loses = record {
    winner = λ p w. (let e : p ≢ b = λ e. loses (subst (Wins s bs leb) e w) in (stays p e w, block_other s bs b x inside p e));
    none = λ none. absurd (none b here);
  }

  weakened : (seq : ℕ) (m : Meant) (a : AcceptsBlocks s bs m) → (AllBlank s bs → ⊥) → Agrees s seq bs
      → NamedBeside s seq bs b → LosesAll s bs a.records b → IsSound s x → (seq_of s x ≢ 0 → seq_of s x ≡ seq)
      → AcceptsBlocks s (set bs b x) m
  weakened seq m a used agrees beside loses sound image =
      let clean : IsClean s bs = clean_from_none s bs a.clean in
      let clean' : IsClean s (set bs b x) = clean_kept s bs b x inside clean sound (names_image s bs b x inside seq agrees image)
      (λ of e q apart k same. apart (clean.apart leb q b
      (subst (λ (l : Leb). IsMember s bs l q) (same_Some of leb (sym e ∙ named)) k) here (same ∙ number))) in
      let kept : (of : Leb) → (IsOutside a.records of → ⊥) → KeepsLeb s bs (set bs b x) of =
      λ of counts. elim (leb_same of leb) [
        | inl e ↦ subst (KeepsLeb s bs (set bs b x)) (sym e) (keeps_here (subst (λ (l : Leb). Wins s bs l b → ⊥) e (loses of counts)))
        | inr e ↦ keeps_others s bs b x inside leb of named e (loses of counts)
      ] in
      accepts_kept s bs (set bs b x) (none_from_clean s (set bs b x) clean') m a used
      (seq_set s bs b x inside seq agrees beside image)
      (λ c. kept (layout, c) (layout_counts a.records c))
      (λ vol r recorded lnum within. kept (vol, lnum) (within_counts a.records vol r lnum recorded within))

-- an eraseblock that wins no LEB that counts, beside which another names the image, may be torn: the meaning stays
pub harmless_kept : (s : Sizes) (bs : List (List ℕ)) (p : ℕ) (x : List ℕ) → p < length bs → (seq : ℕ) (m : Meant)
    (a : AcceptsBlocks s bs m) → (AllBlank s bs → ⊥) → Agrees s seq bs → NamedBeside s seq bs p → LosesAll s bs a.records p
    → IsHarmless s seq (block bs p) x → AcceptsBlocks s (set bs p x) m
harmless_kept s bs p x inside seq m a used agrees beside loses h =
    elim h.member [
      | inl none ↦ vacated s bs p x inside seq m a used agrees beside loses
          (record { sound = h.sound; nameless = none; image = h.image })
      | inr k ↦ by_name (named_in s (block bs p)) refl k.0 k
    ]
  where
    by_name : (o : Option Leb) → named_in s (block bs p) ≡ o → named_in s x ≡ named_in s (block bs p)
        → ((named_in s x ≡ named_in s (block bs p)) × (sqnum_in s x ≡ sqnum_in s (block bs p))
        × (good_in s x ≡ true → good_in s (block bs p) ≡ true))
        → AcceptsBlocks s (set bs p x) m
    by_name None e n k = vacated s bs p x inside seq m a used agrees beside loses
        (record { sound = h.sound; nameless = n ∙ e; image = h.image })
    by_name (Some leb) e n k =
        weakened s bs p x inside leb e (n ∙ e) k.1 k.2 seq m a used agrees beside loses h.sound h.image

-- or one that isn't the sole carrier
pub tear_is_harmless : (s : Sizes) (bs : List (List ℕ)) (m : Meant) (p : ℕ) (x : List ℕ) → p < length bs
    → (a : AcceptsBlocks s bs m) → (AllBlank s bs → ⊥) → LosesAll s bs a.records p → is_sole_carrier s bs p ≡ false
    → IsHarmless s (image_seq s bs) (block bs p) x → AcceptsBlocks s (set bs p x) m
tear_is_harmless s bs m p x inside a used loses sole h =
    let agrees = seq_agrees s bs (clean_from_none s bs a.clean) in
    harmless_kept s bs p x inside (image_seq s bs) m a used agrees (not_sole s (image_seq s bs) bs agrees p sole) loses h
