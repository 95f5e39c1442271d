-- The first fault of an eraseblock, from what its two headers are.
use Rattle.ubi_scan.proofs.Prelude.{◌≡◌, ◌≢◌, ℕ, zero, suc, ◌<◌, ◌≤◌, ◌⊎◌, inl, inr, Bool, true, false, cond, List, [], ◌∷◌, length, take, get_or, refl, ap, sym, ◌∙◌, subst, arith, Option, Some, None, MatchOption, Contains, nat_le, option_map, option_and_then, then_some, list_any, option_map_or, option_or, nat_tests, same_Some, Sizes, is_static, EcFault, EcHeader, EcRead, Refusal, VidFault, VidHeader, VidRead, VolKind, HasFault, IsFirstFault, IsIncompatible, IsMislaid, fault_rank, block, ec, vid, Stamp, fault_if, is_incompatible, is_mislaid, stamp_of, vid_refusal, IsMember, Leb, foreign, has_members, header, header_if, layout, leb_of, member, named_in, sqnum_at, sqnum_in, image_seq, seq_if, seq_of, not, ◌==◌, ◌&&◌, ◌||◌}
use Rattle.ubi_media.specs.declared.ec.EcRead.TheVariants as ec_read
use Rattle.ubi_media.specs.declared.refusal.Refusal.TheVariants as refusal
use Rattle.ubi_media.specs.declared.vid.VidRead.TheVariants as vid_read
use Rattle.ubi_media.specs.declared.vid.VolKind.TheVariants as kind
use Rattle.ubi_scan.proofs.Choice.{below_take, block_take, false_or_true}
use Rattle.ubi_scan.proofs.StampedBlocks.{AreSeen, HasStamp}

-- the tests of headers, and what they stand for
seq_differs : (a k : ℕ) → (not (a == 0) && not (k == 0) && not (a == k)) ≡ true → (a ≢ 0) × (k ≢ 0) × (a ≢ k)
seq_differs a k e = (grind (arith, nat_tests), grind (arith, nat_tests), grind (arith, nat_tests))

seq_agrees : (a k : ℕ) → (not (a == 0) && not (k == 0) && not (a == k)) ≡ false → a ≢ 0 → k ≢ 0 → a ≢ k → ⊥
seq_agrees a k e x y z = grind (arith, nat_tests)

mislaid_by : (v l : ℕ) (k : VolKind) (d : ℕ) → ((v == layout) && (nat_le 2 l || is_static k || not (d == 0))) ≡ true
    → (v ≡ layout) × ((2 ≤ l) ⊎ (k ≡ kind.Static) ⊎ (d ≢ 0))
mislaid_by v l kind.Static d e = (grind (arith, nat_tests), inr (inl refl))
mislaid_by v l kind.Dynamic d e = (
  grind (arith, nat_tests),
  elim (false_or_true (nat_le 2 l)) [
    | inl y ↦ inl (grind (arith, nat_tests))
    | inr n ↦ inr (inr (grind (arith, nat_tests)))
  ],
)

laid_by : (v l : ℕ) (k : VolKind) (d : ℕ) → ((v == layout) && (nat_le 2 l || is_static k || not (d == 0))) ≡ false
    → v ≡ layout → (2 ≤ l) ⊎ (k ≡ kind.Static) ⊎ (d ≢ 0) → ⊥
laid_by v l kind.Static d e here h = grind (arith, nat_tests)
laid_by v l kind.Dynamic d e here (inl h) = grind (arith, nat_tests)
laid_by v l kind.Dynamic d e here (inr (inl h)) = cc
laid_by v l kind.Dynamic d e here (inr (inr h)) = grind (arith, nat_tests)

pub mislaid : (h : VidHeader) → is_mislaid h ≡ true → IsMislaid h
mislaid h e = mislaid_by h.vol_id h.lnum h.kind h.data_pad e

pub not_mislaid : (h : VidHeader) → is_mislaid h ≡ false → IsMislaid h → ⊥
not_mislaid h e k = laid_by h.vol_id h.lnum h.kind h.data_pad e k.0 k.1

pub incompatible : (c : ℕ) → list_any (λ x. x == c) (2 ∷ 4 ∷ 5 ∷ []) ≡ true → Contains (2 ∷ 4 ∷ 5 ∷ []) c
incompatible c e = elim (false_or_true (2 == c)) [
  | inl a ↦ (0, omega arith, grind (arith, nat_tests))
  | inr a ↦ elim (false_or_true (4 == c)) [
    | inl b ↦ (1, omega arith, grind (arith, nat_tests))
    | inr b ↦ (2, omega arith, grind (arith, nat_tests))
  ]
]

pub not_incompatible : (c k : ℕ) → list_any (λ x. x == c) (2 ∷ 4 ∷ 5 ∷ []) ≡ false → k < 3
    → get_or (2 ∷ 4 ∷ 5 ∷ []) k c ≡ c → ⊥
not_incompatible c zero e l h = grind (arith, nat_tests)
not_incompatible c (suc zero) e l h = grind (arith, nat_tests)
not_incompatible c (suc (suc zero)) e l h = grind (arith, nat_tests)
not_incompatible c (suc (suc (suc k))) e l h = absurd (omega arith)

-- the header that a reading gives an eraseblock that isn't erased
abbrev head_by : VidRead → Option VidHeader
head_by (vid_read.Valid h) = Some h
head_by _ = None

abbrev member_by : Option VidHeader → Option VidHeader
member_by o = option_and_then (λ (h : VidHeader). then_some (has_members h.vol_id) h) o

abbrev foreign_by : Option VidHeader → Option VidHeader
foreign_by o = option_and_then (λ (h : VidHeader). then_some (not (has_members h.vol_id)) h) o

header_corrupt : (v : VidRead) → header_if ec_read.Corrupt v ≡ head_by v
header_corrupt vid_read.Blank = refl
header_corrupt vid_read.Corrupt = refl
header_corrupt (vid_read.Fault f) = refl
header_corrupt (vid_read.Valid h) = refl

header_valid : (x : EcHeader) (v : VidRead) → header_if (ec_read.Valid x) v ≡ head_by v
header_valid x vid_read.Blank = refl
header_valid x vid_read.Corrupt = refl
header_valid x (vid_read.Fault f) = refl
header_valid x (vid_read.Valid h) = refl

module _ (z : Sizes) (bs : List (List ℕ)) (p : ℕ) where
  abbrev b : List ℕ
  b = block bs p

  -- no fault of one kind
  abbrev NoEc : Type 0
  NoEc = (at : ℕ) (f : EcFault) → HasFault z bs p (refusal.Ec at f) → ⊥

  abbrev NoSeq : Type 0
  NoSeq = (at : ℕ) → HasFault z bs p (refusal.ImageSeq at) → ⊥

  abbrev NoVid : Type 0
  NoVid = (at : ℕ) (f : VidFault) → HasFault z bs p (refusal.Vid at f) → ⊥

  abbrev NoIncompatible : Type 0
  NoIncompatible = (at vol : ℕ) → HasFault z bs p (refusal.Incompatible at vol) → ⊥

  abbrev NoLayout : Type 0
  NoLayout = (at : ℕ) → HasFault z bs p (refusal.Layout at) → ⊥

  abbrev NoTwin : Type 0
  NoTwin = (at earlier : ℕ) → HasFault z bs p (refusal.SameSqnum at earlier) → ⊥

  -- no fault below a rank
  below : (k : ℕ) → (1 < k → NoEc) → (2 < k → NoSeq) → (3 < k → NoVid) → (4 < k → NoIncompatible) → (5 < k → NoLayout)
      → (6 < k → NoTwin)
      → (d : Refusal) → fault_rank d < k → HasFault z bs p d → ⊥
  below k e s v i l t (refusal.Ec at f) less h = e less at f h
  below k e s v i l t (refusal.ImageSeq at) less h = s less at h
  below k e s v i l t (refusal.Vid at f) less h = v less at f h
  below k e s v i l t (refusal.Incompatible at vol) less h = i less at vol h
  below k e s v i l t (refusal.Layout at) less h = l less at h
  below k e s v i l t (refusal.SameSqnum at earlier) less h = t less at earlier h
  below k e s v i l t _ less h = h

  none : NoEc → NoSeq → NoVid → NoIncompatible → NoLayout → NoTwin → (d : Refusal) → HasFault z bs p d → ⊥
  none e s v i l t (refusal.Ec at f) h = e at f h
  none e s v i l t (refusal.ImageSeq at) h = s at h
  none e s v i l t (refusal.Vid at f) h = v at f h
  none e s v i l t (refusal.Incompatible at vol) h = i at vol h
  none e s v i l t (refusal.Layout at) h = l at h
  none e s v i l t (refusal.SameSqnum at earlier) h = t at earlier h
  none e s v i l t _ h = h

  -- that p has no fault, or that one is its first
  abbrev pub Judges : Option Refusal → Type 0
  Judges o = MatchOption o ((d : Refusal) → HasFault z bs p d → ⊥) (IsFirstFault z bs p)

  -- where the header names no member, or no other internal volume
  no_member : member z b ≡ None → NoLayout × NoTwin
  no_member e = (
    λ at h. (let k = h.2 in cc),
    λ at earlier h. (let k : named_in z b ≡ None = ap (option_map leb_of) e in let n = h.2.named in cc),
  )

  no_foreign : foreign z b ≡ None → NoIncompatible
  no_foreign e at vol h = let k = h.2 in cc

  no_vid : (v : VidRead) → vid z b ≡ v → ((f : VidFault) → v ≢ vid_read.Fault f) → NoVid
  no_vid v e differs at f h = differs f (sym e ∙ h.2)

  module _ (seen : Stamp → Option ℕ) (are : AreSeen z (take p bs) seen) (inside : p < length bs) where
    abbrev earlier : VidHeader → Option ℕ
    earlier h = seen (stamp_of h)

    block_below : (q : ℕ) → q < length (take p bs) → block (take p bs) q ≡ block bs q
    block_below q h = block_take bs p q (below_take bs p q h)

    named : (h : VidHeader) → member z b ≡ Some h → named_in z b ≡ Some (leb_of h)
    named h e = ap (option_map leb_of) e

    number : (h : VidHeader) → member z b ≡ Some h → sqnum_at z bs p ≡ h.sqnum
    number h e = ap (λ o. option_map_or (λ (x : VidHeader). x.sqnum) o 0) e

    twin : (h : VidHeader) (q : ℕ) → member z b ≡ Some h → earlier h ≡ Some q → HasFault z bs p (refusal.SameSqnum p q)
    twin h q e is =
        let one : HasStamp z (take p bs) (stamp_of h) q =
        subst (λ (o : Option ℕ). MatchOption o ((q : ℕ) → HasStamp z (take p bs) (stamp_of h) q
        → ⊥) (HasStamp z (take p bs) (stamp_of h))) is (are.each (stamp_of h)) in (
          refl,
          leb_of h,
          record { inside = inside; named = named h e },
          one.0,
          ap (sqnum_in z) (sym (block_below q one.0.inside)) ∙ one.1 ∙ sym (number h e),
        )

    no_twin : (h : VidHeader) → member z b ≡ Some h → earlier h ≡ None → NoTwin
    no_twin h e is at q k =
        let same : k.1 ≡ leb_of h = (let x = k.2.named in let y = named h e in cc) in
        let member' : IsMember z (take p bs) (leb_of h) q = subst (λ (x : Leb). IsMember z (take p bs) x q) same k.3 in
        let number' : sqnum_at z (take p bs) q ≡ h.sqnum = ap (sqnum_in z) (block_below q member'.inside) ∙ k.4
        ∙ number h e in
        let all : MatchOption None ((q : ℕ) → HasStamp z (take p bs) (stamp_of h) q → ⊥)
        (HasStamp z (take p bs) (stamp_of h)) =
        subst (λ (o : Option ℕ). MatchOption o ((q : ℕ) → HasStamp z (take p bs) (stamp_of h) q
        → ⊥) (HasStamp z (take p bs) (stamp_of h))) is (are.each (stamp_of h)) in
        all q (member', number')

    -- from the VID on
    twin_judged : (h : VidHeader) (o : Option ℕ) → NoEc → NoSeq → NoVid → NoIncompatible → member z b ≡ Some h
        → is_mislaid h ≡ false → earlier h ≡ o → Judges (option_map (refusal.SameSqnum p) o)
    twin_judged h None e s v i is laid from = none e s v i (no_layout h is laid) (no_twin h is from)
      where
        no_layout : (h : VidHeader) → member z b ≡ Some h → is_mislaid h ≡ false → NoLayout
        no_layout h is laid at k = not_mislaid h laid (subst IsMislaid (same_Some k.1 h (sym k.2 ∙ is)) k.3)
    twin_judged h (Some q) e s v i is laid from = record {
      stands = twin h q is from;
      first = below 6 (λ _. e) (λ _. s) (λ _. v) (λ _. i)
          (λ _ at k. not_mislaid h laid (subst IsMislaid (same_Some k.1 h (sym k.2 ∙ is)) k.3))
          (λ l. absurd (omega arith));
    }

    member_judged : (h : VidHeader) (m : Bool) → is_mislaid h ≡ m → NoEc → NoSeq → NoVid → NoIncompatible
        → member z b ≡ Some h
        → Judges (cond m (Some (refusal.Layout p)) (option_map (refusal.SameSqnum p) (earlier h)))
    member_judged h true m e s v i is = record {
      stands = (refl, h, is, mislaid h m);
      first = below 5 (λ _. e) (λ _. s) (λ _. v) (λ _. i) (λ l. absurd (omega arith)) (λ l. absurd (omega arith));
    }
    member_judged h false m e s v i is = twin_judged h (earlier h) e s v i is m refl

    foreign_judged : (h : VidHeader) (m : Bool) → is_incompatible h ≡ m → NoEc → NoSeq → NoVid → member z b ≡ None
        → foreign z b ≡ Some h
        → Judges (cond m (Some (refusal.Incompatible p h.vol_id)) None)
    foreign_judged h true m e s v out is = record {
      stands = (refl, h, is, refl, incompatible h.compat m);
      first = below 4 (λ _. e) (λ _. s) (λ _. v) (λ l. absurd (omega arith)) (λ l. absurd (omega arith))
          (λ l. absurd (omega arith));
    }
    foreign_judged h false m e s v out is =
        none e s v (λ at vol k. (let same : k.1 ≡ h = same_Some k.1 h (sym k.2 ∙ is) in
        let c : Contains (2 ∷ 4 ∷ 5 ∷ []) h.compat = subst (λ (x : VidHeader). IsIncompatible x) same k.4 in
        not_incompatible h.compat c.0 m c.1 c.2))
        (no_member out).0 (no_member out).1

    header_judged : (h : VidHeader) (m : Bool) → has_members h.vol_id ≡ m → NoEc → NoSeq → NoVid → header z b ≡ Some h
        → Judges (cond m (cond (is_mislaid h) (Some (refusal.Layout p)) (option_map (refusal.SameSqnum p) (earlier h)))
        (cond (is_incompatible h) (Some (refusal.Incompatible p h.vol_id)) None))
    header_judged h true m e s v is =
        member_judged h (is_mislaid h) refl e s v (no_foreign (ap foreign_by is ∙ ap (λ c. then_some (not c) h) m))
        (ap member_by is ∙ ap (λ c. then_some c h) m)
    header_judged h false m e s v is =
        foreign_judged h (is_incompatible h) refl e s v (ap member_by is ∙ ap (λ c. then_some c h) m)
        (ap foreign_by is ∙ ap (λ c. then_some (not c) h) m)

    vid_judged : (v : VidRead) → vid z b ≡ v → ec z b ≢ ec_read.Blank → header z b ≡ head_by v → NoEc → NoSeq
        → Judges (vid_refusal p earlier v)
    vid_judged vid_read.Blank is used head e s =
        none e s (no_vid vid_read.Blank is (λ f k. cc)) (no_foreign (ap foreign_by head))
        (no_member (ap member_by head)).0 (no_member (ap member_by head)).1
    vid_judged vid_read.Corrupt is used head e s =
        none e s (no_vid vid_read.Corrupt is (λ f k. cc)) (no_foreign (ap foreign_by head))
        (no_member (ap member_by head)).0 (no_member (ap member_by head)).1
    vid_judged (vid_read.Fault f) is used head e s = record {
      stands = (refl, used, is);
      first = below 3 (λ _. e) (λ _. s) (λ l. absurd (omega arith)) (λ l. absurd (omega arith))
          (λ l. absurd (omega arith)) (λ l. absurd (omega arith));
    }
    vid_judged (vid_read.Valid h) is used head e s = header_judged h (has_members h.vol_id) refl e s
        (no_vid (vid_read.Valid h) is (λ f k. cc)) head

    -- and from the EC on
    seq_judged : (x : EcHeader) (known : ℕ) (m : Bool) (v : VidRead)
        → (not (x.image_seq == 0) && not (known == 0) && not (x.image_seq == known)) ≡ m
        → known ≡ image_seq z (take p bs)
        → ec z b ≡ ec_read.Valid x → vid z b ≡ v
        → Judges (option_or (cond m (Some (refusal.ImageSeq p)) None) (vid_refusal p earlier v))
    seq_judged x known true v m agreed is vis =
        let t = seq_differs x.image_seq known m in
        let own : seq_of z b ≡ x.image_seq = ap seq_if is in
        record {
          stands = (refl, λ k. t.0 (sym own ∙ k), λ k. t.1 (agreed ∙ k), λ k. t.2 (sym own ∙ k ∙ sym agreed));
          first = below 2 (λ _ at f h. (let k = h.1 in cc)) (λ l. absurd (omega arith)) (λ l. absurd (omega arith))
              (λ l. absurd (omega arith)) (λ l. absurd (omega arith)) (λ l. absurd (omega arith));
        }
    seq_judged x known false v m agreed is vis =
        let own : seq_of z b ≡ x.image_seq = ap seq_if is in
        vid_judged v vis (λ k. cc) (ap (λ r. header_if r (vid z b)) is ∙ ap (header_if (ec_read.Valid x)) vis
        ∙ header_valid x v)
        (λ at f h. (let k = h.1 in cc))
        (λ at h. seq_agrees x.image_seq known m (λ k. h.1 (own ∙ k)) (λ k. h.2 (sym agreed ∙ k))
        (λ k. h.3 (own ∙ k ∙ agreed)))

    judged_by : (known : ℕ) (e : EcRead) (v : VidRead) → known ≡ image_seq z (take p bs) → ec z b ≡ e → vid z b ≡ v
        → Judges (fault_if p known earlier e v)
    judged_by known ec_read.Blank v agreed is vis =
        let head : header z b ≡ None = ap (λ r. header_if r (vid z b)) is in
        none (λ at f h. (let k = h.1 in cc)) (λ at h. h.1 (ap seq_if is)) (λ at f h. h.1 is)
        (no_foreign (ap foreign_by head)) (no_member (ap member_by head)).0 (no_member (ap member_by head)).1
    judged_by known ec_read.Corrupt v agreed is vis =
        vid_judged v vis (λ k. cc) (ap (λ r. header_if r (vid z b)) is ∙ ap (header_if ec_read.Corrupt) vis
        ∙ header_corrupt v) (λ at f h. (let k = h.1 in cc)) (λ at h. h.1 (ap seq_if is))
    judged_by known (ec_read.Fault f) v agreed is vis = record {
      stands = (refl, is);
      first = below 1 (λ l. absurd (omega arith)) (λ l. absurd (omega arith)) (λ l. absurd (omega arith))
          (λ l. absurd (omega arith)) (λ l. absurd (omega arith)) (λ l. absurd (omega arith));
    }
    judged_by known (ec_read.Valid x) v agreed is vis = seq_judged x known _ v refl agreed is vis

    pub judged : (known : ℕ) → known ≡ image_seq z (take p bs) → Judges (fault_if p known earlier (ec z b) (vid z b))
    judged known agreed = judged_by known (ec z b) (vid z b) agreed refl refl
