-- No header names a page: with another page eraseblocks have the same members and winners, no more faults, and the same
-- states and numbers.
use Rattle.ubi_scan.proofs.Prelude.{◌≡◌, ℕ, inl, inr, List, refl, get, IfSome, MatchOption, None, Option, Some, slice_get, ec_reading, Sizes, with_page, vid_reading, Refusal, HasFault, NoFault, IsMember, Leb, NoMember, Wins, image_seq, Found, IsScan, StateIs, ScanState, breaks as vid_breaks, first_fault as first_vid_fault, judged as judged_vid}
use Rattle.ubi_media.specs.Ec.{breaks as ec_breaks, first_fault as first_ec_fault, judged as judged_ec}
use Rattle.ubi_media.specs.declared.refusal.Refusal.TheVariants as refusal
use Rattle.ubi_scan.specs.declared.found.ScanState.TheVariants as state

module _ (s : Sizes) (page : ℕ) (bs : List (List ℕ)) where
  pub member_of_page : (of : Leb) (p : ℕ) → IsMember s bs of p → IsMember (with_page s page) bs of p
  unfolding ec_reading judged_ec first_ec_fault ec_breaks vid_reading judged_vid first_vid_fault vid_breaks
  member_of_page of p m = record { inside = m.inside; named = m.named }

  member_back : (of : Leb) (p : ℕ) → IsMember (with_page s page) bs of p → IsMember s bs of p
  unfolding ec_reading judged_ec first_ec_fault ec_breaks vid_reading judged_vid first_vid_fault vid_breaks
  member_back of p m = record { inside = m.inside; named = m.named }

  pub no_member_of_page : (of : Leb) → NoMember s bs of → NoMember (with_page s page) bs of
  no_member_of_page of none p m = none p (member_back of p m)

  pub wins_of_page : (of : Leb) (p : ℕ) → Wins s bs of p → Wins (with_page s page) bs of p
  unfolding ec_reading judged_ec first_ec_fault ec_breaks vid_reading judged_vid first_vid_fault vid_breaks
  wins_of_page of p w = record {
    member = member_of_page of p w.member;
    best = elim w.best [
      | inl newest ↦ inl (newest.0, λ q m good. newest.1 q (member_back of q m) good)
      | inr oldest ↦ inr (λ q m. oldest q (member_back of q m))
    ];
  }

  -- a fault that stands with the other page stands
  fault_back : (p : ℕ) (c : Refusal) → HasFault (with_page s page) bs p c → HasFault s bs p c
  unfolding ec_reading judged_ec first_ec_fault ec_breaks vid_reading judged_vid first_vid_fault vid_breaks
  fault_back p (refusal.Ec at f) h = h
  fault_back p (refusal.ImageSeq at) h = h
  fault_back p (refusal.Vid at f) h = h
  fault_back p (refusal.Incompatible at vol) h = h
  fault_back p (refusal.Layout at) h = h
  fault_back p (refusal.SameSqnum at earlier) h =
      (h.0, h.1, member_back h.1 p h.2, record { inside = h.3.inside; named = h.3.named }, h.4)
  fault_back p _ h = h

  pub clean_of_page : NoFault s bs → NoFault (with_page s page) bs
  clean_of_page none p c inside h = none p c inside (fault_back p c h)

  pub seq_of_page : image_seq (with_page s page) bs ≡ image_seq s bs
  unfolding ec_reading judged_ec first_ec_fault ec_breaks
  seq_of_page = refl

-- a fact of each value that may be there
pub some_more : {X : Type 0} {P Q : X → Type 0} (o : Option X) → ((x : X) → P x → Q x) → IfSome o P → IfSome o Q
some_more None step h = h
some_more (Some x) step h = step x h

match_more : {X N M : Type 0} {P Q : X → Type 0} (o : Option X) → (N → M) → ((x : X) → P x → Q x)
    → MatchOption o N P → MatchOption o M Q
match_more None none some h = none h
match_more (Some x) none some h = some x h

-- what a scan finds
module _ (s : Sizes) (page : ℕ) (bs : List (List ℕ)) where
  state_of_page : (p : ℕ) (state : ScanState) → StateIs s bs p state → StateIs (with_page s page) bs p state
  unfolding ec_reading judged_ec first_ec_fault ec_breaks vid_reading judged_vid first_vid_fault vid_breaks
  state_of_page p state.Blank h = h
  state_of_page p state.Free h = h
  state_of_page p state.Garbage h = h
  state_of_page p state.Corrupt h = h
  state_of_page p state.Dropped h = h
  state_of_page p (state.Winner m) h = (h.0, wins_of_page s page bs m.leb p h.1)
  state_of_page p (state.Beaten of) h =
      (member_of_page s page bs of p h.0, λ wins. h.1 (wins_of_page (with_page s page) s.page bs of p wins))

  pub scan_of_page : (found : Found) → IsScan s bs found → IsScan (with_page s page) bs found
  unfolding ec_reading judged_ec first_ec_fault ec_breaks vid_reading judged_vid first_vid_fault vid_breaks
  scan_of_page found h = record {
    clean = clean_of_page s page bs h.clean;
    winners = λ of.
        match_more (get found.winners of) (no_member_of_page s page bs of) (wins_of_page s page bs of) (h.winners of);
    states = (h.states.0, λ p. some_more (slice_get found.states p) (state_of_page p) (h.states.1 p));
    top_sqnum = h.top_sqnum;
    image_seq = h.image_seq;
    carriers = h.carriers;
    mean_ec = h.mean_ec;
  }
