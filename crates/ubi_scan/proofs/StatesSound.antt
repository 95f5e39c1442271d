-- The state of each eraseblock is right once all are taken and none has a fault.
use Rattle.ubi_scan.proofs.Prelude.{◌≡◌, ◌≢◌, ℕ, zero, suc, ◌<◌, ◌≤◌, inl, inr, Bool, true, false, cond, List, [], ◌∷◌, length, refl, ap, sym, ◌∙◌, subst, arith, Option, Some, None, IfSome, MatchOption, option_and_then, option_map, slice_get, BTreeMap, then_some, list_any, option_map_or, nat_tests, slice_get-get_or, cases_lt, Sizes, EcRead, VidHeader, VidRead, places_of, NoFault, block, ec, vid, member_state, quiet_state, IsMember, Leb, NoMember, Wins, foreign, has_members, header, header_if, leb_of, member, AreStates, AreWinners, kept_header, leb_cmp, IsDropped, StateIs, Candidate, ScanState, not, ◌==◌}
use Rattle.std.specs.BTreeMap as tree
use Rattle.ubi_media.specs.declared.ec.EcRead.TheVariants as ec_read
use Rattle.ubi_media.specs.declared.refusal.Refusal.TheVariants as refusal
use Rattle.ubi_media.specs.declared.vid.VidRead.TheVariants as vid_read
use Rattle.ubi_scan.specs.declared.found.ScanState.TheVariants as state
use Rattle.ubi_scan.proofs.BlockFaults.{incompatible}
use Rattle.ubi_scan.proofs.Choice.{false_or_true}
use Rattle.ubi_scan.proofs.Compatible.{deletes}
use Rattle.ubi_scan.proofs.Decided.{Wins-unique}
use Rattle.ubi_scan.proofs.CandidatePlaces.{get-places_of}
use Rattle.ubi_scan.proofs.StatesSoFar.{AreShown, state_by}

place_is : (p q : ℕ) → (p == q) ≡ true → p ≡ q
place_is p q e = grind (arith, nat_tests)

place_isnt : (p q : ℕ) → (p == q) ≡ false → p ≢ q
place_isnt p q e = grind (arith, nat_tests)

module _ (z : Sizes) (bs : List (List ℕ)) (clean : NoFault z bs) (p : ℕ) (inside : p < length bs) where
  abbrev b : List ℕ
  b = block bs p

  -- of a member
  by_place : (h : VidHeader) (held : Candidate) (m : Bool) → (held.peb == p) ≡ m → member z b ≡ Some h
      → IsMember z bs (leb_of h) p → Wins z bs (leb_of h) held.peb
      → StateIs z bs p (cond m (state.Winner (kept_header h)) (state.Beaten (leb_of h)))
  by_place h held true e is member wins = ((h, is, refl), subst (Wins z bs (leb_of h)) (place_is held.peb p e) wins)
  by_place h held false e is member wins =
      (member, λ w. place_isnt held.peb p e (Wins-unique z bs (leb_of h) held.peb p clean wins w))

  by_held : (h : VidHeader) (o : Option Candidate) → member z b ≡ Some h → IsMember z bs (leb_of h) p
      → MatchOption (option_map (λ (held : Candidate). held.peb) o) (NoMember z bs (leb_of h)) (Wins z bs (leb_of h))
      → StateIs z bs p
      (cond (option_map_or (λ (held : Candidate). held.peb == p) o false) (state.Winner (kept_header h)) (state.Beaten (leb_of h)))
  by_held h None is member none = absurd (none p member)
  by_held h (Some held) is member wins = by_place h held _ refl is member wins

  -- of an internal volume that isn't refused
  dropped : (h : VidHeader) → member z b ≡ None → header z b ≡ Some h → vid z b ≡ vid_read.Valid h → IsDropped z bs p
  dropped h out is reads =
      elim (false_or_true (has_members h.vol_id)) [
        | inl y ↦ (let k : member z b
            ≡ Some h = ap (λ o. option_and_then (λ (x : VidHeader). then_some (has_members x.vol_id) x) o) is
            ∙ ap (λ c. then_some c h) y in absurd (cc))
        | inr n ↦ (let k : foreign z b
            ≡ Some h = ap (λ o. option_and_then (λ (x : VidHeader). then_some (not (has_members x.vol_id)) x) o) is
            ∙ ap (λ c. then_some (not c) h) n in
            elim (false_or_true (list_any (λ x. x == h.compat) (2 ∷ 4 ∷ 5 ∷ []))) [
              | inl y ↦ absurd (clean p (refusal.Incompatible p h.vol_id) inside
                  (refl, h, k, refl, incompatible h.compat y))
              | inr other ↦ (h, k, deletes z _ h (sym reads) n other)
            ])
      ]

  quiet : (e : EcRead) (v : VidRead) → ec z b ≡ e → vid z b ≡ v → member z b ≡ None → StateIs z bs p (quiet_state e v)
  quiet ec_read.Blank v is vis out = is
  quiet (ec_read.Fault f) v is vis out = absurd (clean p (refusal.Ec p f) inside (refl, is))
  quiet ec_read.Corrupt vid_read.Blank is vis out = (is, inl vis)
  quiet ec_read.Corrupt vid_read.Corrupt is vis out = (is, inr vis)
  quiet ec_read.Corrupt (vid_read.Fault f) is vis out = absurd (clean p (refusal.Vid p f) inside (refl, (λ k. cc), vis))
  quiet ec_read.Corrupt (vid_read.Valid h) is vis out = dropped h out
      (ap (λ r. header_if r (vid z b)) is ∙ ap (header_if ec_read.Corrupt) vis) vis
  quiet (ec_read.Valid x) vid_read.Blank is vis out = (rw is refl, vis)
  quiet (ec_read.Valid x) vid_read.Corrupt is vis out = (rw is refl, vis)
  quiet (ec_read.Valid x) (vid_read.Fault f) is vis out =
      absurd (clean p (refusal.Vid p f) inside (refl, (λ k. cc), vis))
  quiet (ec_read.Valid x) (vid_read.Valid h) is vis out = dropped h out
      (ap (λ r. header_if r (vid z b)) is ∙ ap (header_if (ec_read.Valid x)) vis) vis

  told_by : (best : BTreeMap Leb Candidate) → AreWinners z bs (places_of best.entries) → (o : Option VidHeader)
      → member z b ≡ o
      → StateIs z bs p (option_map_or (λ (h : VidHeader). member_state best p h) o
      (quiet_state (ec z b) (vid z b)))
  told_by best winners None is = quiet (ec z b) (vid z b) refl refl is
  told_by best winners (Some h) is =
      by_held h (tree.get leb_cmp best (leb_of h)) is
      (record { inside = inside; named = ap (option_map leb_of) is })
      (subst (λ (o : Option ℕ). MatchOption o (NoMember z bs (leb_of h)) (Wins z bs (leb_of h)))
      (get-places_of best (leb_of h)) (winners (leb_of h)))

  state_told : (best : BTreeMap Leb Candidate) → AreWinners z bs (places_of best.entries)
      → StateIs z bs p (state_by z best p b)
  state_told best winners = told_by best winners (member z b) refl

no_state : (xs : List ScanState) (p : ℕ) (P : ScanState → Type 0) → length xs ≤ p → IfSome (slice_get xs p) P
no_state [] p P l = tt
no_state (x ∷ xs) zero P l = absurd (omega arith)
no_state (x ∷ xs) (suc p) P l = no_state xs p P (omega arith)

pub states_told : (z : Sizes) (bs : List (List ℕ)) (best : BTreeMap Leb Candidate) (states : List ScanState)
    → NoFault z bs → AreWinners z bs (places_of best.entries) → AreShown z bs best states → AreStates z bs states
states_told z bs best states clean winners shown = (
  shown.size,
  λ p. elim (cases_lt p (length states)) [
    | inl l ↦ (let size = shown.size in let inside : p < length bs = omega arith in
        subst (λ (o : Option ScanState). IfSome o (StateIs z bs p)) (sym (slice_get-get_or states p state.Blank l))
        (subst (StateIs z bs p) (sym (shown.each p inside)) (state_told z bs clean p inside best winners)))
    | inr l ↦ no_state states p (StateIs z bs p) l
  ],
)
