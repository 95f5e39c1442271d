-- What a scan's answers say about members and winners.
use Rattle.ubi_volume.proofs.Prelude.{◌≡◌, ℕ, ◌≤◌, Bool, true, false, not, inl, inr, List, refl, ap, sym, ◌∙◌, subst, IfSome, IsSome, MatchOption, Option, Some, None, is_some, option_and_then, option_map, slice_get, then_some, same_Some, Sizes, EcRead, VidHeader, VidRead, block, ec, vid, IsMember, Leb, NoMember, Wins, has_members, header, leb_of, member, member_if, Found, IsNextWinner, IsScan, ScanState, WinnerHeaderIs, winner_header}
use Rattle.std.specs.FinMap as finite
use Rattle.ubi_media.specs.declared.ec.EcRead.TheVariants as ec_read
use Rattle.ubi_media.specs.declared.vid.VidRead.TheVariants as vid_read
use Rattle.ubi_scan.specs.Scan as scan_states
use Rattle.ubi_scan.specs.declared.found.ScanState.TheVariants as state

pub no_some : {A : Type 0} (a : A) → None ≡ Some a → ⊥
no_some a e = cc

-- the LEB of a member is that of its header
pub named_by : (s : Sizes) (bs : List (List ℕ)) (of : Leb) (p : ℕ) (h : VidHeader) → IsMember s bs of p
    → member s (block bs p) ≡ Some h → of ≡ leb_of h
named_by s bs of p h m e = same_Some of (leb_of h) (sym m.named ∙ ap (option_map leb_of) e)

-- a member has a header
pub has_header : (s : Sizes) (bs : List (List ℕ)) (of : Leb) (p : ℕ) → IsMember s bs of p
    → IsSome (member s (block bs p))
has_header s bs of p m = by_name (member s (block bs p)) m.named
  where
    by_name : (o : Option VidHeader) → option_map leb_of o ≡ Some of → IsSome o
    by_name None e = absurd (no_some of e)
    by_name (Some h) e = refl

module _ (s : Sizes) (bs : List (List ℕ)) (found : Found) (scan : IsScan s bs found) where
  -- what the scan says of an eraseblock holds of it
  pub state_holds : (p : ℕ) (state : ScanState) → slice_get found.states p ≡ Some state
      → scan_states.StateIs s bs p state
  state_holds p state e = subst (λ (o : Option ScanState). IfSome o (scan_states.StateIs s bs p)) e (scan.states.1 p)

  -- the winner that is found wins, and where none is found there is no member
  pub found_wins : (of : Leb) (p : ℕ) → finite.get found.winners of ≡ Some p → Wins s bs of p
  found_wins of p e = subst (λ (o : Option ℕ). MatchOption o (NoMember s bs of) (Wins s bs of)) e (scan.winners of)

  pub none_found : (of : Leb) → finite.get found.winners of ≡ None → NoMember s bs of
  none_found of e = subst (λ (o : Option ℕ). MatchOption o (NoMember s bs of) (Wins s bs of)) e (scan.winners of)

-- what a next winner is, by whether there is one
pub next_none : (found : Found) (vol from : ℕ) (next : Option (ℕ × ℕ)) → is_some next ≡ false
    → IsNextWinner found.winners vol from next
    → (lnum : ℕ) → from ≤ lnum → finite.get found.winners (vol, lnum) ≡ None
next_none found vol from None e h = h
next_none found vol from (Some x) e h = absurd (cc)

pub next_some : (found : Found) (vol from : ℕ) (next : Option (ℕ × ℕ)) → is_some next ≡ true
    → IsNextWinner found.winners vol from next
    → (lnum p : ℕ) × (from ≤ lnum) × (finite.get found.winners (vol, lnum) ≡ Some p)
next_some found vol from None e h = absurd (cc)
next_some found vol from (Some x) e h = (x.0, x.1, h.0, h.1)

-- an eraseblock with these headers is no member
none_blank : (e : EcRead) → member_if e vid_read.Blank ≡ None
none_blank ec_read.Blank = refl
none_blank ec_read.Corrupt = refl
none_blank (ec_read.Fault f) = refl
none_blank (ec_read.Valid h) = refl

none_corrupt : (e : EcRead) → member_if e vid_read.Corrupt ≡ None
none_corrupt ec_read.Blank = refl
none_corrupt ec_read.Corrupt = refl
none_corrupt (ec_read.Fault f) = refl
none_corrupt (ec_read.Valid h) = refl

none_foreign : (o : Option VidHeader) (h : VidHeader)
    → option_and_then (λ (x : VidHeader). then_some (not (has_members x.vol_id)) x) o ≡ Some h
    → option_and_then (λ (x : VidHeader). then_some (has_members x.vol_id) x) o ≡ None
none_foreign None h e = refl
none_foreign (Some x) h e = by_members (has_members x.vol_id) refl
  where
    by_members : (b : Bool) → has_members x.vol_id ≡ b → then_some (has_members x.vol_id) x ≡ None
    by_members true is = (let k : then_some (not true) x ≡ Some h = ap (λ c. then_some (not c) x) (sym is) ∙ e in absurd (cc))
    by_members false is = ap (λ c. then_some c x) is

module _ (s : Sizes) (bs : List (List ℕ)) (p : ℕ) where
  no_member : member s (block bs p) ≡ None → (of : Leb) → Wins s bs of p → ⊥
  no_member none of w = let k : option_map leb_of (member s (block bs p)) ≡ None = ap (option_map leb_of) none in
      no_some of (sym k ∙ w.member.named)

  by_vid : (v : VidRead) → vid s (block bs p) ≡ v → member s (block bs p) ≡ member_if (ec s (block bs p)) v
  by_vid v is = ap (member_if (ec s (block bs p))) is

  -- what is kept of the header of an eraseblock in a state, where it wins
  pub header_by_state : (x : ScanState) → scan_states.StateIs s bs p x → WinnerHeaderIs s bs p (winner_header x)
  header_by_state state.Blank h = no_member (ap (λ e. member_if e (vid s (block bs p))) h)
  header_by_state state.Free h = no_member (by_vid vid_read.Blank h.1 ∙ none_blank (ec s (block bs p)))
  header_by_state state.Garbage h = no_member (by_vid vid_read.Corrupt h.1 ∙ none_corrupt (ec s (block bs p)))
  header_by_state state.Corrupt h = elim h.1 [
    | inl blank ↦ no_member (by_vid vid_read.Blank blank ∙ none_blank (ec s (block bs p)))
    | inr corrupt ↦ no_member (by_vid vid_read.Corrupt corrupt ∙ none_corrupt (ec s (block bs p)))
  ]
  header_by_state state.Dropped h = no_member (none_foreign (header s (block bs p)) h.0 h.1)
  header_by_state (state.Winner x) h = h
  header_by_state (state.Beaten of) h = λ other w.
      let same : other ≡ of = same_Some other of (sym w.member.named ∙ h.0.named) in
      h.1 (subst (λ (l : Leb). Wins s bs l p) same w)
