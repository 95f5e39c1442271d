-- The winners tell from which number on the LEBs of a volume have members.
use Rattle.ubi_change.proofs.Prelude.{◌≡◌, ℕ, ◌<◌, ◌≤◌, Bool, true, false, not, List, [], length, get_or, refl, ap, sym, ◌∙◌, subst, arith, nat_tests, None, Option, Some, option_map, option_map_or, ◌==◌, find, is_some, nat_lt, same_Some, none_passes, Sizes, VidHeader, block, Leb, NoMember, Wins, leb_of, member, get_or_default, MatchOption, IsMember, AreWinners, IsNextWinner, leb_cmp, is_at_least, is_hidden, is_taken, is_used, TellsUsed, none_found}
use Rattle.std.proofs.Common.{◌&&◌, ◌||◌}
use Rattle.std.specs.FinMap as finite
use Rattle.ubi_change.proofs.Premises.{left_of, right_of}

module _ (s : Sizes) (bs : List (List ℕ)) (vol from : ℕ) where
  abbrev test : List ℕ → Bool
  test b = is_at_least s vol from b

  is_none : (o : Option (List ℕ)) → is_some o ≡ false → o ≡ None
  is_none None e = refl
  is_none (Some x) e = absurd (cc)

  -- a member passes
  passes : (lnum p : ℕ) → from ≤ lnum → IsMember s bs (vol, lnum) p → test (block bs p) ≡ true
  passes lnum p above h = by_member (member s (block bs p)) h.named
    where
      by_member : (o : Option VidHeader) → option_map leb_of o ≡ Some (vol, lnum)
          → option_map_or (λ h. (h.vol_id == vol) && not (nat_lt h.lnum from)) o false ≡ true
      by_member None e = absurd (cc)
      by_member (Some h) e =
          let same : leb_of h ≡ (vol, lnum) = same_Some (leb_of h) (vol, lnum) e in
          let of : h.vol_id ≡ vol = ap (λ (l : Leb). l.0) same in
          let at : h.lnum ≡ lnum = ap (λ (l : Leb). l.1) same in
          grind (arith, nat_tests, of, at, above)

  -- where none is used, no LEB has a member
  pub unused_none : is_used s bs vol from ≡ false → (lnum : ℕ) → from ≤ lnum → NoMember s bs (vol, lnum)
  unused_none unused lnum above p h =
      let fails = none_passes test bs (is_none (find test bs) unused) p [] h.inside in
      let both : ◌≡◌ {A = Bool} true false = sym (passes lnum p above h) ∙ fails in
      absurd (cc)

  -- and where no LEB has one, none is used
  pub none_unused : ((lnum : ℕ) → from ≤ lnum → NoMember s bs (vol, lnum)) → is_used s bs vol from ≡ false
  none_unused none = ap is_some (none_found test bs (λ k d l. by_test (test (get_or bs k d)) refl
      (λ t. by_member k l (member s (block bs k)) refl (ap test (get_or_default bs k [] d l) ∙ t))))
    where
      by_test : (b : Bool) {c : Bool} → c ≡ b → (c ≡ true → ⊥) → c ≡ false
      by_test true e h = absurd (h e)
      by_test false e h = e

      by_member : (k : ℕ) → k < length bs → (o : Option VidHeader) → member s (block bs k) ≡ o → test (block bs k) ≡ true → ⊥
      by_member k l None e t =
          let f : test (block bs k) ≡ false =
          ap (λ o. option_map_or (λ h. (h.vol_id == vol) && not (nat_lt h.lnum from)) o false) e in
          let both : ◌≡◌ {A = Bool} true false = sym t ∙ f in absurd (cc)
      by_member k l (Some h) e t =
          let f : (h.vol_id == vol) && not (nat_lt h.lnum from) ≡ true =
          sym (ap (λ o. option_map_or (λ h. (h.vol_id == vol) && not (nat_lt h.lnum from)) o false) e) ∙ t in
          let of = left_of (h.vol_id == vol) (not (nat_lt h.lnum from)) f in
          let at = right_of (h.vol_id == vol) (not (nat_lt h.lnum from)) f in
          let above : from ≤ h.lnum = grind (arith, nat_tests, at) in
          let same : h.vol_id ≡ vol = grind (arith, nat_tests, of) in
          none h.lnum above k (record { inside = l; named = ap (option_map leb_of) e ∙ ap (λ v. Some (v, h.lnum)) same })

-- so the winners tell it, with the ends of what is hidden
pub used_told : (s : Sizes) (bs : List (List ℕ)) (ends : List ℕ) (winners : finite.FinMap leb_cmp ℕ) → AreWinners s bs winners
    → TellsUsed winners ends (is_taken s bs ends)
used_told s bs ends winners are vol from next is = ap (λ b. b || is_hidden ends vol from) (told next is)
  where
    by : (b : Bool) → (b ≡ false → ⊥) → b ≡ true
    by true h = refl
    by false h = absurd (h refl)

    told : (next : Option (ℕ × ℕ)) → IsNextWinner winners vol from next → is_some next ≡ is_used s bs vol from
    told None next =
        sym (none_unused s bs vol from (λ lnum above.
        subst (λ (o : Option ℕ). MatchOption o (NoMember s bs (vol, lnum)) (Wins s bs (vol, lnum))) (next lnum above) (are (vol, lnum))))
    told (Some e) next =
        let won : Wins s bs (vol, e.0) e.1 =
        subst (λ (o : Option ℕ). MatchOption o (NoMember s bs (vol, e.0)) (Wins s bs (vol, e.0))) next.1 (are (vol, e.0)) in
        sym (by (is_used s bs vol from) (λ f. unused_none s bs vol from f e.0 next.0 e.1 won.member))
