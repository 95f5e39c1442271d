-- A scan finds one value.
use Rattle.ubi_scan.proofs.Prelude.{◌≡◌, ℕ, ◌<◌, Bool, List, ap, ap₂, arith, false, get_or, inl, inr, length, refl, subst, sym, true, ◌∙◌, ◌⊎◌, same_lists, same_Some, slice_get-get_or, then_some, FinMap, IfSome, IsSome, MatchOption, None, Option, Some, option_map, slice_get, Sizes, EcRead, VidHeader, VidRead, NoFault, block, ec, vid, IsMember, Leb, NoMember, Wins, foreign_if, has_members, leb_of, member_if, valid_ec, AreStates, AreWinners, Found, IsHeader, IsScan, StateIs, kept_header, leb_cmp, MemberHeader, ScanState}
use Rattle.std.specs.Prelude.{not}
use Rattle.std.specs.FinMap as finite
use Rattle.ubi_media.specs.declared.ec.EcRead.TheVariants as ec_read
use Rattle.ubi_media.specs.declared.vid.VidRead.TheVariants as vid_read
use Rattle.ubi_scan.specs.declared.found.ScanState.TheVariants as state
use Rattle.ubi_scan.proofs.Decided.{Wins-unique}
use Rattle.ubi_scan.proofs.Keys.{leb_exact, leb_total}

-- the sort of an eraseblock that belongs to a volume, by whether that has members
abbrev pub sort_with : Bool → ℕ
sort_with true = 5
sort_with false = 4

-- which sort an eraseblock is of, by its two headers
abbrev pub sort_if : EcRead → VidRead → ℕ
sort_if ec_read.Blank v = 0
sort_if (ec_read.Valid h) vid_read.Blank = 1
sort_if (ec_read.Valid h) vid_read.Corrupt = 2
sort_if ec_read.Corrupt vid_read.Blank = 3
sort_if ec_read.Corrupt vid_read.Corrupt = 3
sort_if e (vid_read.Valid h) = sort_with (has_members h.vol_id)
sort_if e v = 6

pub blank_sort : (e : EcRead) (v : VidRead) → e ≡ ec_read.Blank → sort_if e v ≡ 0
blank_sort e v is = ap (λ (x : EcRead). sort_if x v) is

pub free_sort : (e : EcRead) (v : VidRead) → IsSome (valid_ec e) → v ≡ vid_read.Blank → sort_if e v ≡ 1
free_sort (ec_read.Valid h) v valid is = ap (sort_if (ec_read.Valid h)) is
free_sort e v valid is = absurd (cc)

pub garbage_sort : (e : EcRead) (v : VidRead) → IsSome (valid_ec e) → v ≡ vid_read.Corrupt → sort_if e v ≡ 2
garbage_sort (ec_read.Valid h) v valid is = ap (sort_if (ec_read.Valid h)) is
garbage_sort e v valid is = absurd (cc)

pub corrupt_sort : (e : EcRead) (v : VidRead) → e ≡ ec_read.Corrupt → (v ≡ vid_read.Blank) ⊎ (v ≡ vid_read.Corrupt)
    → sort_if e v ≡ 3
corrupt_sort e v corrupt (inl is) = ap₂ sort_if corrupt is
corrupt_sort e v corrupt (inr is) = ap₂ sort_if corrupt is

drops : (b : Bool) (g h : VidHeader) → then_some (not b) g ≡ Some h → sort_with b ≡ 4
drops true g h is = absurd (cc)
drops false g h is = refl

pub dropped_sort : (e : EcRead) (v : VidRead) (h : VidHeader) → foreign_if e v ≡ Some h → sort_if e v ≡ 4
dropped_sort ec_read.Blank v h is = absurd (cc)
dropped_sort ec_read.Corrupt (vid_read.Valid g) h is = drops (has_members g.vol_id) g h is
dropped_sort (ec_read.Fault x) (vid_read.Valid g) h is = drops (has_members g.vol_id) g h is
dropped_sort (ec_read.Valid x) (vid_read.Valid g) h is = drops (has_members g.vol_id) g h is
dropped_sort e v h is = absurd (cc)

joins : (b : Bool) (g : VidHeader) (of : Leb) → option_map leb_of (then_some b g) ≡ Some of → sort_with b ≡ 5
joins true g of is = refl
joins false g of is = absurd (cc)

pub member_sort : (e : EcRead) (v : VidRead) (of : Leb) → option_map leb_of (member_if e v) ≡ Some of → sort_if e v ≡ 5
member_sort ec_read.Blank v of is = absurd (cc)
member_sort ec_read.Corrupt (vid_read.Valid g) of is = joins (has_members g.vol_id) g of is
member_sort (ec_read.Fault x) (vid_read.Valid g) of is = joins (has_members g.vol_id) g of is
member_sort (ec_read.Valid x) (vid_read.Valid g) of is = joins (has_members g.vol_id) g of is
member_sort e v of is = absurd (cc)

-- the sort of a state
abbrev sort_of : ScanState → ℕ
sort_of state.Blank = 0
sort_of state.Free = 1
sort_of state.Garbage = 2
sort_of state.Corrupt = 3
sort_of state.Dropped = 4
sort_of (state.Winner m) = 5
sort_of (state.Beaten of) = 5

-- two lists are the same where a fact of each of their elements tells which one it is
pub each_alike : {X : Type 0} (P : ℕ → X → Type 0) → ((i : ℕ) (x y : X) → P i x → P i y → x ≡ y) → (xs ys : List X)
    → length xs ≡ length ys → ((i : ℕ) → IfSome (slice_get xs i) (P i)) → ((i : ℕ) → IfSome (slice_get ys i) (P i)) →
    xs ≡ ys
each_alike P one xs ys long h k = same_lists xs ys long (λ i d inside.
    let there : i < length ys = omega (arith, long, inside) in
    one i (get_or xs i d) (get_or ys i d)
    (subst (λ o. IfSome o (P i)) (slice_get-get_or xs i d inside) (h i))
    (subst (λ o. IfSome o (P i)) (slice_get-get_or ys i d there) (k i)))

module _ (s : Sizes) (bs : List (List ℕ)) where
  abbrev pub sort_at : ℕ → ℕ
  sort_at p = sort_if (ec s (block bs p)) (vid s (block bs p))

  pub sort_of_member : (of : Leb) (p : ℕ) → IsMember s bs of p → sort_at p ≡ 5
  sort_of_member of p m = member_sort (ec s (block bs p)) (vid s (block bs p)) of m.named

  sorted : (p : ℕ) (a : ScanState) → StateIs s bs p a → sort_at p ≡ sort_of a
  sorted p state.Blank h = blank_sort (ec s (block bs p)) (vid s (block bs p)) h
  sorted p state.Free h = free_sort (ec s (block bs p)) (vid s (block bs p)) h.0 h.1
  sorted p state.Garbage h = garbage_sort (ec s (block bs p)) (vid s (block bs p)) h.0 h.1
  sorted p state.Corrupt h = corrupt_sort (ec s (block bs p)) (vid s (block bs p)) h.0 h.1
  sorted p state.Dropped h = dropped_sort (ec s (block bs p)) (vid s (block bs p)) h.0 h.1
  sorted p (state.Winner m) h =
      member_sort (ec s (block bs p)) (vid s (block bs p)) (leb_of h.0.0) (ap (option_map leb_of) h.0.1)
  sorted p (state.Beaten of) h = sort_of_member of p h.0

  same_header : (p : ℕ) (m n : MemberHeader) → IsHeader s bs p m → IsHeader s bs p n → m ≡ n
  same_header p m n h k = h.2 ∙ ap kept_header (same_Some _ _ (sym h.1 ∙ k.1)) ∙ sym k.2

  of_header : (p : ℕ) (m : MemberHeader) (of : Leb) → IsHeader s bs p m → IsMember s bs of p → m.leb ≡ of
  of_header p m of h k =
      ap (λ (x : MemberHeader). x.leb) h.2 ∙ same_Some _ _ (sym (ap (option_map leb_of) h.1) ∙ k.named)

  -- two LEBs of which an eraseblock is a member are one
  pub one_leb : (p : ℕ) (of at : Leb) → IsMember s bs of p → IsMember s bs at p → of ≡ at
  one_leb p of at h k = same_Some _ _ (sym h.named ∙ k.named)

  same_state : (p : ℕ) (a b : ScanState) → StateIs s bs p a → StateIs s bs p b → sort_of a ≡ sort_of b → a ≡ b
  same_state p state.Blank state.Blank h k e = refl
  same_state p state.Free state.Free h k e = refl
  same_state p state.Garbage state.Garbage h k e = refl
  same_state p state.Corrupt state.Corrupt h k e = refl
  same_state p state.Dropped state.Dropped h k e = refl
  same_state p (state.Winner m) (state.Winner n) h k e = ap state.Winner (same_header p m n h.0 k.0)
  same_state p (state.Winner m) (state.Beaten of) h k e =
      absurd (k.1 (subst (λ (x : Leb). Wins s bs x p) (of_header p m of h.0 k.0) h.1))
  same_state p (state.Beaten of) (state.Winner m) h k e =
      absurd (h.1 (subst (λ (x : Leb). Wins s bs x p) (of_header p m of k.0 h.0) k.1))
  same_state p (state.Beaten of) (state.Beaten at) h k e = ap state.Beaten (one_leb p of at h.0 k.0)
  same_state p a b h k e = absurd (omega (arith, e))

  one_state : (p : ℕ) (a b : ScanState) → StateIs s bs p a → StateIs s bs p b → a ≡ b
  one_state p a b h k = same_state p a b h k (sym (sorted p a h) ∙ sorted p b k)

  same_states : (xs ys : List ScanState) → AreStates s bs xs → AreStates s bs ys → xs ≡ ys
  same_states xs ys h k = each_alike (StateIs s bs) one_state xs ys (h.0 ∙ sym k.0) h.1 k.1

  module _ (clean : NoFault s bs) where
    same_winner : (of : Leb) (a b : Option ℕ) → MatchOption a (NoMember s bs of) (Wins s bs of)
        → MatchOption b (NoMember s bs of) (Wins s bs of) → a ≡ b
    same_winner of None None h k = refl
    same_winner of None (Some q) h k = absurd (h q k.member)
    same_winner of (Some p) None h k = absurd (k p h.member)
    same_winner of (Some p) (Some q) h k = ap Some (Wins-unique s bs of p q clean h k)

    same_winners : (m n : FinMap leb_cmp ℕ) → AreWinners s bs m → AreWinners s bs n → m ≡ n
    same_winners m n h k = finite.same_map leb_total leb_exact m n (λ of. same_winner of _ _ (h of) (k of))

  pub one_scan : (f g : Found) → IsScan s bs f → IsScan s bs g → f ≡ g
  one_scan f g h k =
      ap (λ (w : FinMap leb_cmp ℕ). record f { winners = w })
      (same_winners h.clean f.winners g.winners h.winners k.winners)
      ∙ ap (λ (x : List ScanState). record f { winners = g.winners; states = x })
      (same_states f.states g.states h.states k.states)
      ∙ ap (λ (n : ℕ). record f { winners = g.winners; states = g.states; top_sqnum = n })
      (h.top_sqnum ∙ sym k.top_sqnum)
      ∙ ap (λ (n : ℕ). record g { image_seq = n; carriers = f.carriers; mean_ec = f.mean_ec })
      (h.image_seq ∙ sym k.image_seq)
      ∙ ap (λ (n : ℕ). record g { carriers = n; mean_ec = f.mean_ec }) (h.carriers ∙ sym k.carriers)
      ∙ ap (λ (n : ℕ). record g { mean_ec = n }) (h.mean_ec ∙ sym k.mean_ec)
