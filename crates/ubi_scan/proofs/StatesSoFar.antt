-- The state of each eraseblock, by the candidates so far.
use Rattle.ubi_scan.proofs.Prelude.{◌≡◌, ◌≢◌, ℕ, ◌<◌, ◌⊎◌, inl, inr, true, false, cond, List, [], ◌∷◌, ◌++◌, length, get_or, set, refl, ap, sym, ◌∙◌, subst, arith, length-append, length-set, Option, Some, None, MatchOption, option_map, if◌then◌else◌, BTreeMap, option_map_or, get_or_append_left, get_or_at, same_Some, cases_eq, Sizes, VidHeader, below_or_last, block, ec, vid, beaten, held_of, kept, known, takes_over, Puts, beaten_in, member_state, quiet_state, Leb, NoMember, leb_of, member, named_in, kept_header, leb_cmp, Candidate, Meeting, MemberHeader, ScanState, ◌==◌}
use Rattle.std.proofs.lemmas.List.{get_or-set_other, get_or-set_same}
use Rattle.std.specs.BTreeMap as tree
use Rattle.ubi_scan.specs.declared.found.ScanState.TheVariants as state
use Rattle.ubi_scan.proofs.Choice.{block_new, block_old, length_more}
use Rattle.ubi_scan.proofs.CandidateMap.{AreHeld, IsHeld}
use Rattle.ubi_scan.proofs.Keys.{at_itself, at_other, leb_exact, leb_total, told}

-- what is said of an eraseblock at p
abbrev pub state_by : Sizes → BTreeMap Leb Candidate → ℕ → List ℕ → ScanState
state_by z best p b = option_map_or (λ h. member_state best p h) (member z b) (quiet_state (ec z b) (vid z b))

pub record AreShown (z : Sizes) (bs : List (List ℕ)) (best : BTreeMap Leb Candidate)
    (states : List ScanState) : Type 0 where
  pub size : length states ≡ length bs
  pub each : (p : ℕ) → p < length bs → get_or states p state.Blank ≡ state_by z best p (block bs p)

-- the state of a member with a header, by the candidate of its LEB
abbrev held_state : MemberHeader → ℕ → Option Candidate → ScanState
held_state w p o = if option_map_or (λ held. held.peb == p) o false then state.Winner w else state.Beaten w.leb

wins_at : (w : MemberHeader) (p : ℕ) (held : Candidate) → held.peb ≡ p → held_state w p (Some held) ≡ state.Winner w
wins_at w p held e = ap (λ b. cond b (state.Winner w) (state.Beaten w.leb)) (ap (λ q. q == p) e ∙ at_itself p)

beaten_at : (w : MemberHeader) (p : ℕ) (held : Candidate) → held.peb ≢ p
    → held_state w p (Some held) ≡ state.Beaten w.leb
beaten_at w p held e = ap (λ b. cond b (state.Winner w) (state.Beaten w.leb)) (at_other held.peb p e)

pub length-beaten_in : (of : Leb) (states : List ScanState) (lost : Option Candidate)
    → length (beaten_in of states lost) ≡ length states
length-beaten_in of states None = refl
length-beaten_in of states (Some lost) = length-set states lost.peb (state.Beaten of)

-- the new member's own state
new_state : (w : MemberHeader) (states : List ScanState) (met : Option Meeting) (new : Candidate) → new.peb ≡ length states
    → (option_map_or (λ held. held.peb) (held_of met) 0 < length states) ⊎ (held_of met ≡ None)
    → get_or (beaten_in w.leb (states ++ state.Winner w ∷ []) (beaten met new)) (length states) state.Blank
    ≡ held_state w (length states) (Some (kept met new))
new_state w states None new e h = get_or_at states (state.Winner w) [] state.Blank (length states) refl
    ∙ sym (wins_at w (length states) new e)
new_state w states (Some met) new e (inr h) = absurd (cc)
new_state w states (Some met) new e (inl h) =
    let held : Candidate = met.held in
    let n = length states in
    let more = length-append states (state.Winner w ∷ []) in
    elim (takes_over met new) as
    (λ t. get_or (set (states ++ state.Winner w ∷ []) ((cond t held new).peb) (state.Beaten w.leb)) n state.Blank
    ≡ held_state w n (Some (cond t (known met.new_good new) (known met.held_good held)))) [
      | true ↦ get_or-set_other (states ++ state.Winner w ∷ []) held.peb n (state.Beaten w.leb) state.Blank (omega arith)
          ∙ get_or_at states (state.Winner w) [] state.Blank n refl ∙ sym (wins_at w n new e)
      | false ↦ ap (λ k. get_or (set (states ++ state.Winner w ∷ []) k (state.Beaten w.leb)) n state.Blank) e
          ∙ get_or-set_same (states ++ state.Winner w ∷ []) n (state.Beaten w.leb) state.Blank (omega arith)
          ∙ sym (beaten_at w n held (omega arith))
    ]

-- an old member's state, of the same LEB
old_state : (w x : MemberHeader) → x.leb ≡ w.leb → (states : List ScanState) (met : Option Meeting) (new : Candidate) (p : ℕ) → new.peb ≡ length states
    → p < length states
    → get_or states p state.Blank ≡ held_state x p (held_of met)
    → get_or (beaten_in w.leb (states ++ state.Winner w ∷ []) (beaten met new)) p state.Blank
    ≡ held_state x p (Some (kept met new))
old_state w x same_leb states None new p e l h = get_or_append_left states (state.Winner w ∷ []) state.Blank p l ∙ h
    ∙ sym (beaten_at x p new (omega arith))
old_state w x same_leb states (Some met) new p e l h =
    let held : Candidate = met.held in
    let more = length-append states (state.Winner w ∷ []) in
    let all = states ++ state.Winner w ∷ [] in
    let was : get_or all p state.Blank ≡ held_state x p (Some held) =
    get_or_append_left states (state.Winner w ∷ []) state.Blank p l ∙ h in
    elim (takes_over met new) as (λ t. get_or (set all ((cond t held new).peb) (state.Beaten w.leb)) p state.Blank
    ≡ held_state x p (Some (cond t (known met.new_good new) (known met.held_good held)))) [
      | true ↦ elim (cases_eq held.peb p) [
        | inl same ↦ ap (λ k. get_or (set all k (state.Beaten w.leb)) p state.Blank) same
            ∙ get_or-set_same all p (state.Beaten w.leb) state.Blank (omega arith) ∙ ap state.Beaten (sym same_leb) ∙ sym (beaten_at x p new (omega arith))
        | inr apart ↦ get_or-set_other all held.peb p (state.Beaten w.leb) state.Blank (λ x. apart (sym x)) ∙ was
            ∙ beaten_at x p held apart ∙ sym (beaten_at x p new (omega arith))
      ]
      | false ↦ get_or-set_other all new.peb p (state.Beaten w.leb) state.Blank (omega arith) ∙ was
    ]

-- any other old eraseblock's
other_state : (w : MemberHeader) (states : List ScanState) (met : Option Meeting) (new : Candidate) (p : ℕ) → new.peb ≡ length states
    → p < length states
    → ((held : Candidate) → held_of met ≡ Some held → held.peb ≢ p)
    → get_or (beaten_in w.leb (states ++ state.Winner w ∷ []) (beaten met new)) p state.Blank ≡ get_or states p state.Blank
other_state w states None new p e l h = get_or_append_left states (state.Winner w ∷ []) state.Blank p l
other_state w states (Some met) new p e l h =
    let held : Candidate = met.held in
    let all = states ++ state.Winner w ∷ [] in
    elim (takes_over met new) as (λ t. get_or (set all ((cond t held new).peb) (state.Beaten w.leb)) p state.Blank
    ≡ get_or states p state.Blank) [
      | true ↦ get_or-set_other all held.peb p (state.Beaten w.leb) state.Blank (λ x. h held refl (sym x))
          ∙ get_or_append_left states (state.Winner w ∷ []) state.Blank p l
      | false ↦ get_or-set_other all new.peb p (state.Beaten w.leb) state.Blank (omega arith)
          ∙ get_or_append_left states (state.Winner w ∷ []) state.Blank p l
    ]

module _ (z : Sizes) where
  pub AreShown-skip : (bs : List (List ℕ)) (b : List ℕ) (best : BTreeMap Leb Candidate) (states : List ScanState)
      → AreShown z bs best states → member z b ≡ None
      → AreShown z (bs ++ b ∷ []) best (states ++ quiet_state (ec z b) (vid z b) ∷ [])
  AreShown-skip bs b best states h none =
      let q = quiet_state (ec z b) (vid z b) in
      let size = h.size in
      let more = length_more bs b in
      record {
        size = (let m = length-append states (q ∷ []) in omega arith);
        each = λ p l. elim (below_or_last p (length bs) (omega arith)) [
          | inl old ↦ get_or_append_left states (q ∷ []) state.Blank p (omega arith) ∙ h.each p old
              ∙ ap (state_by z best p) (sym (block_old bs b p old))
          | inr new ↦ get_or_at states q [] state.Blank p (sym (new ∙ sym size))
              ∙ sym (ap (λ o. option_map_or (λ (h : VidHeader). member_state best p h) o q) none)
              ∙ ap (state_by z best p) (sym (block_new bs b) ∙ ap (block (bs ++ b ∷ [])) (sym new))
        ];
      }

  pub AreShown-push : (bs : List (List ℕ)) (b : List ℕ) (h : VidHeader) (new : Candidate) (met : Option Meeting)
      (m n : BTreeMap Leb Candidate) (states : List ScanState)
      → AreShown z bs m states → AreHeld z bs m → member z b ≡ Some h → new.peb ≡ length bs
      → held_of met ≡ tree.get leb_cmp m (leb_of h) → Puts m n (leb_of h) (kept met new)
      → AreShown z (bs ++ b ∷ []) n (beaten_in (leb_of h) (states ++ state.Winner (kept_header h) ∷ []) (beaten met new))
  AreShown-push bs b h new met m n states shown held is place meets u =
      let of = leb_of h in
      let size = shown.size in
      let more = length_more bs b in
      let place' : new.peb ≡ length states = place ∙ sym size in
      record {
        size = length-beaten_in (leb_of h) (states ++ state.Winner (kept_header h) ∷ []) (beaten met new)
            ∙ (let k = length-append states (state.Winner (kept_header h) ∷ []) in omega arith);
        each = λ p l. elim (below_or_last p (length bs) (omega arith)) [
          | inl old ↦ old_case bs (kept_header h) new met m n states shown held place' meets u p old (member z (block bs p)) refl
              ∙ ap (state_by z n p) (sym (block_old bs b p old))
          | inr last ↦ (let here : p ≡ length states = last ∙ sym size in
              ap (λ k. get_or (beaten_in (leb_of h) (states ++ state.Winner (kept_header h) ∷ []) (beaten met new)) k state.Blank) here
              ∙ new_state (kept_header h) states met new place' (within bs of (length states) met m held meets size)
              ∙ ap (λ k. held_state (kept_header h) k (Some (kept met new))) (sym here) ∙ ap (held_state (kept_header h) p) (sym u.here)
              ∙ sym
              (ap (λ x. option_map_or (λ (k : VidHeader). member_state n p k) x
              (quiet_state (ec z b) (vid z b))) is)
              ∙ ap (state_by z n p) (sym (block_new bs b) ∙ ap (block (bs ++ b ∷ [])) (sym last)))
        ];
      }
    where
      within_by : (bs : List (List ℕ)) (of : Leb) (k : ℕ) (o : Option Candidate)
          → MatchOption o (NoMember z bs of) (IsHeld z bs of) → k ≡ length bs
          → (option_map_or (λ held. held.peb) o 0 < k) ⊎ (o ≡ None)
      within_by bs of k None h e = inr refl
      within_by bs of k (Some held) h e = inl (let i = h.member.inside in omega arith)

      met_held : (bs : List (List ℕ)) (of : Leb) (met : Option Meeting) (m : BTreeMap Leb Candidate) → AreHeld z bs m
          → held_of met ≡ tree.get leb_cmp m of → MatchOption (held_of met) (NoMember z bs of) (IsHeld z bs of)
      met_held bs of met m held meets =
          subst (λ (o : Option Candidate). MatchOption o (NoMember z bs of) (IsHeld z bs of)) (sym meets) (held.each of)

      within : (bs : List (List ℕ)) (of : Leb) (k : ℕ) (met : Option Meeting) (m : BTreeMap Leb Candidate)
          → AreHeld z bs m → held_of met ≡ tree.get leb_cmp m of → k ≡ length bs
          → (option_map_or (λ held. held.peb) (held_of met) 0 < k) ⊎ (held_of met ≡ None)
      within bs of k met m held meets e = within_by bs of k (held_of met) (met_held bs of met m held meets) e

      held_named : (bs : List (List ℕ)) (of : Leb) (p : ℕ) (o : Option Candidate)
          → MatchOption o (NoMember z bs of) (IsHeld z bs of) → (named_in z (block bs p) ≡ Some of → ⊥)
          → (held : Candidate) → o ≡ Some held → held.peb ≢ p
      held_named bs of p None h other held e same = absurd (cc)
      held_named bs of p (Some k) h other held e same = other (ap (λ q. named_in z (block bs q)) (sym same)
          ∙ ap (λ (x : Candidate). named_in z (block bs x.peb)) (same_Some held k (sym e)) ∙ h.member.named)

      old_case : (bs : List (List ℕ)) (w : MemberHeader) (new : Candidate) (met : Option Meeting) (m n : BTreeMap Leb Candidate)
          (states : List ScanState) → AreShown z bs m states → AreHeld z bs m → new.peb ≡ length states
          → held_of met ≡ tree.get leb_cmp m w.leb → Puts m n w.leb (kept met new) → (p : ℕ)
          → p < length bs → (k : Option VidHeader) → member z (block bs p) ≡ k
          → get_or (beaten_in w.leb (states ++ state.Winner w ∷ []) (beaten met new)) p state.Blank
          ≡ state_by z n p (block bs p)
      old_case bs w new met m n states shown held place meets u p l None is =
          let size = shown.size in
          let quiet = quiet_state (ec z (block bs p)) (vid z (block bs p)) in
          other_state w states met new p place (omega arith)
          (held_named bs w.leb p _ (met_held bs w.leb met m held meets) (λ e. absurd (none_named p is e)))
          ∙ shown.each p l ∙ ap (λ x. option_map_or (λ (h : VidHeader). member_state m p h) x quiet) is
          ∙ sym (ap (λ x. option_map_or (λ (h : VidHeader). member_state n p h) x quiet) is)
        where
          none_named : (p : ℕ) → member z (block bs p) ≡ None → named_in z (block bs p) ≡ Some w.leb → ⊥
          none_named p is e = let k : option_map leb_of (member z (block bs p)) ≡ None = ap (option_map leb_of) is in cc
      old_case bs w new met m n states shown held place meets u p l (Some h) is =
          let size = shown.size in
          let quiet = quiet_state (ec z (block bs p)) (vid z (block bs p)) in
          let by = λ (x : BTreeMap Leb Candidate). ap
          (λ o. option_map_or (λ (h : VidHeader). member_state x p h) o quiet) is in
          elim (told leb_cmp leb_total leb_exact w.leb (leb_of h)) [
            | inl t ↦ old_state w (kept_header h) (sym t.1) states met new p place (omega arith) (shown.each p l ∙ by m
                ∙ ap (λ x. held_state (kept_header h) p (tree.get leb_cmp m x)) (sym t.1) ∙ ap (held_state (kept_header h) p) (sym meets))
                ∙ ap (held_state (kept_header h) p) (sym u.here) ∙ ap (λ x. held_state (kept_header h) p (tree.get leb_cmp n x)) t.1 ∙ sym (by n)
            | inr t ↦ other_state w states met new p place (omega arith)
                (held_named bs w.leb p _ (met_held bs w.leb met m held meets)
                (λ e. t.1 (same_Some w.leb (leb_of h) (sym e ∙ ap (option_map leb_of) is))))
                ∙ shown.each p l ∙ by m ∙ ap (held_state (kept_header h) p) (sym (u.others (leb_of h) t.0)) ∙ sym (by n)
          ]
