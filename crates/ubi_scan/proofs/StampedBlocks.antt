-- The eraseblock of each stamp, as the candidates and the other members have it.
use Rattle.ubi_scan.proofs.Prelude.{◌≡◌, ◌≢◌, ℕ, ◌⊎◌, inl, inr, true, false, cond, List, [], ◌∷◌, ◌++◌, ap, ap₂, sym, ◌∙◌, subst, Option, Some, None, MatchOption, BTreeMap, cases_eq, Sizes, beaten, held_of, kept, known, takes_over, IsPutAside, Puts, Stamp, stamp_cmp, twin_by, twin_in, IsMember, Leb, named_in, sqnum_at, sqnum_in, leb_cmp, Candidate, Meeting, ◌==◌}
use Rattle.std.specs.BTreeMap as tree
use Rattle.ubi_scan.proofs.Choice.{block_new, block_old, member_cases, member_new, member_old}
use Rattle.ubi_scan.proofs.CandidateMap.{IsNew}
use Rattle.ubi_scan.proofs.Keys.{at_itself, at_other, leb_exact, leb_total, stamp_exact, stamp_total, told}

-- q is a member with the stamp
abbrev pub HasStamp : Sizes → List (List ℕ) → Stamp → ℕ → Type 0
HasStamp z bs stamp q = IsMember z bs stamp.0 q × (sqnum_at z bs q ≡ stamp.1)

-- what finds the eraseblock of each LEB and sequence number that a member has
pub record AreSeen (z : Sizes) (bs : List (List ℕ)) (seen : Stamp → Option ℕ) : Type 0 where
  pub each : (stamp : Stamp) → MatchOption (seen stamp) ((q : ℕ) → HasStamp z bs stamp q → ⊥) (HasStamp z bs stamp)

-- the candidate has a sequence number, or it hasn't
twin_same : (held : Candidate) (other : Option ℕ) (t : ℕ) → held.sqnum ≡ t
    → twin_by (Some held) other t ≡ Some held.peb
twin_same held other t e = ap (λ b. cond b (Some held.peb) other) (ap (λ s. s == t) e ∙ at_itself t)

twin_apart : (held : Candidate) (other : Option ℕ) (t : ℕ) → held.sqnum ≢ t → twin_by (Some held) other t ≡ other
twin_apart held other t h = ap (λ b. cond b (Some held.peb) other) (at_other held.sqnum t h)

-- what is found among the others once one more is put aside: of its LEB, and of another
put_aside : (of : Leb) (lost : Candidate) (x y : BTreeMap Stamp ℕ) (t : ℕ)
    → tree.Updates stamp_cmp x y (of, lost.sqnum) (Some lost.peb)
    → tree.get stamp_cmp y (of, t) ≡ twin_by (Some lost) (tree.get stamp_cmp x (of, t)) t
put_aside of lost x y t u = elim (told stamp_cmp stamp_total stamp_exact (of, lost.sqnum) (of, t)) [
  | inl k ↦ ap (tree.get stamp_cmp y) (sym k.1) ∙ u.1
      ∙ sym (twin_same lost (tree.get stamp_cmp x (of, t)) t (ap (λ (p : Stamp). p.1) k.1))
  | inr k ↦ u.2 (of, t) k.0
      ∙ sym (twin_apart lost (tree.get stamp_cmp x (of, t)) t (λ e. k.1 (ap (λ (s : ℕ). (of, s)) e)))
]

put_elsewhere : (of : Leb) (lost : Candidate) (x y : BTreeMap Stamp ℕ) (stamp : Stamp) → of ≢ stamp.0
    → tree.Updates stamp_cmp x y (of, lost.sqnum) (Some lost.peb)
    → tree.get stamp_cmp y stamp ≡ tree.get stamp_cmp x stamp
put_elsewhere of lost x y stamp apart u = elim (told stamp_cmp stamp_total stamp_exact (of, lost.sqnum) stamp) [
  | inl k ↦ absurd (apart (ap (λ (p : Stamp). p.0) k.1))
  | inr k ↦ u.2 stamp k.0
]

other_leb : (of : Leb) (new : Candidate) (x y : BTreeMap Stamp ℕ) (stamp : Stamp) (met : Option Meeting) → of ≢ stamp.0
    → IsPutAside of x y (beaten met new) → tree.get stamp_cmp y stamp ≡ tree.get stamp_cmp x stamp
other_leb of new x y stamp None apart w = ap (λ (k : BTreeMap Stamp ℕ). tree.get stamp_cmp k stamp) w
other_leb of new x y stamp (Some met) apart w = put_elsewhere of
    (cond (takes_over met new) met.held new) x y stamp apart w

-- a sequence number of a LEB is found at the new member, or as before
abbrev IsFound : Candidate → ℕ → Option ℕ → Option ℕ → Type 0
IsFound new t old found = ((found ≡ Some new.peb) × (new.sqnum ≡ t))
    ⊎ ((found ≡ old) × ((new.sqnum ≢ t) ⊎ ((q : ℕ) × (old ≡ Some q))))

same_leb : (of : Leb) (new : Candidate) (x y : BTreeMap Stamp ℕ) (t : ℕ) (met : Option Meeting)
    → IsPutAside of x y (beaten met new)
    → IsFound new t (twin_by (held_of met) (tree.get stamp_cmp x (of, t)) t)
    (twin_by (Some (kept met new)) (tree.get stamp_cmp y (of, t)) t)
same_leb of new x y t None w = elim (cases_eq new.sqnum t) [
  | inl e ↦ inl (twin_same new _ t e, e)
  | inr a ↦ inr (twin_apart new _ t a ∙ ap (λ (k : BTreeMap Stamp ℕ). tree.get stamp_cmp k (of, t)) w, inl a)
]
same_leb of new x y t (Some met) w =
    let held : Candidate = met.held in
    let was = tree.get stamp_cmp x (of, t) in
    let is = tree.get stamp_cmp y (of, t) in
    elim (takes_over met new) as (λ c. IsPutAside of x y (Some (cond c held new))
    → IsFound new t (twin_by (Some held) was t)
    (twin_by (Some (cond c (known met.new_good new) (known met.held_good held))) is t)) [
      | true ↦ λ u. elim (cases_eq new.sqnum t) [
        | inl e ↦ inl (twin_same new is t e, e)
        | inr a ↦ inr (twin_apart new is t a ∙ put_aside of held x y t u, inl a)
      ]
      | false ↦ λ u. elim (cases_eq held.sqnum t) [
        | inl e ↦ inr (twin_same held is t e ∙ sym (twin_same held was t e), inr (held.peb, twin_same held was t e))
        | inr a ↦ elim (cases_eq new.sqnum t) [
          | inl e ↦ inl (twin_apart held is t a ∙ put_aside of new x y t u ∙ twin_same new was t e, e)
          | inr b ↦ inr (
            twin_apart held is t a ∙ put_aside of new x y t u ∙ twin_apart new was t b
                ∙ sym (twin_apart held was t a),
            inl b,
          )
        ]
      ]
    ] w

module _ (z : Sizes) where
  stamp_old : (bs : List (List ℕ)) (b : List ℕ) (stamp : Stamp) (q : ℕ) → HasStamp z bs stamp q
      → HasStamp z (bs ++ b ∷ []) stamp q
  stamp_old bs b stamp q h = (member_old z bs b stamp.0 q h.0, ap (sqnum_in z) (block_old bs b q h.0.inside) ∙ h.1)

  stamp_cases : (bs : List (List ℕ)) (b : List ℕ) (stamp : Stamp) (q : ℕ) → HasStamp z (bs ++ b ∷ []) stamp q
      → HasStamp z bs stamp q ⊎ ((named_in z b ≡ Some stamp.0) × (sqnum_in z b ≡ stamp.1))
  stamp_cases bs b stamp q h = elim (member_cases z bs b stamp.0 q h.0) [
    | inl k ↦ inl (k, ap (sqnum_in z) (sym (block_old bs b q k.inside)) ∙ h.1)
    | inr e ↦ inr (e.1, ap (sqnum_in z) (sym (block_new bs b)) ∙ ap (λ p. sqnum_at z (bs ++ b ∷ []) p) (sym e.0) ∙ h.1)
  ]

  seen_skip : (bs : List (List ℕ)) (b : List ℕ) (stamp : Stamp) (o : Option ℕ)
      → ((named_in z b ≡ Some stamp.0) × (sqnum_in z b ≡ stamp.1) → ⊥)
      → MatchOption o ((q : ℕ) → HasStamp z bs stamp q → ⊥) (HasStamp z bs stamp)
      → MatchOption o ((q : ℕ) → HasStamp z (bs ++ b ∷ []) stamp q → ⊥) (HasStamp z (bs ++ b ∷ []) stamp)
  seen_skip bs b stamp None other h = λ q k. elim (stamp_cases bs b stamp q k) [ inl old ↦ h q old | inr e ↦ other e ]
  seen_skip bs b stamp (Some q) other h = stamp_old bs b stamp q h

  -- a stamp is found as before, or it is that of the new member
  seen_more : (bs : List (List ℕ)) (b : List ℕ) (of : Leb) (new : Candidate) → IsNew z bs b of new
      → (t : ℕ) (o found : Option ℕ)
      → IsFound new t o found
      → MatchOption o ((q : ℕ) → HasStamp z bs (of, t) q → ⊥) (HasStamp z bs (of, t))
      → MatchOption found ((q : ℕ) → HasStamp z (bs ++ b ∷ []) (of, t) q → ⊥) (HasStamp z (bs ++ b ∷ []) (of, t))
  seen_more bs b of new is t o found (inl e) h =
      subst (λ (x : Option ℕ). MatchOption x ((q : ℕ) → HasStamp z (bs ++ b ∷ []) (of, t) q
      → ⊥) (HasStamp z (bs ++ b ∷ []) (of, t))) (sym e.0)
      (subst (HasStamp z (bs ++ b ∷ []) (of, t)) (sym is.peb) (
        member_new z bs b of is.named,
        ap (sqnum_in z) (block_new bs b) ∙ sym is.sqnum ∙ e.1,
      ))
  seen_more bs b of new is t o found (inr (e, inl apart)) h =
      subst (λ (x : Option ℕ). MatchOption x ((q : ℕ) → HasStamp z (bs ++ b ∷ []) (of, t) q
      → ⊥) (HasStamp z (bs ++ b ∷ []) (of, t))) (sym e)
      (seen_skip bs b (of, t) o (λ k. apart (is.sqnum ∙ k.1)) h)
  seen_more bs b of new is t o found (inr (e, inr (q, some))) h =
      subst (λ (x : Option ℕ). MatchOption x ((q : ℕ) → HasStamp z (bs ++ b ∷ []) (of, t) q
      → ⊥) (HasStamp z (bs ++ b ∷ []) (of, t))) (sym (e ∙ some))
      (stamp_old bs b (of, t) q
      (subst (λ (x : Option ℕ). MatchOption x ((q : ℕ) → HasStamp z bs (of, t) q → ⊥) (HasStamp z bs (of, t))) some
      h))

  pub AreSeen-push : (bs : List (List ℕ)) (b : List ℕ) (of : Leb) (new : Candidate) (met : Option Meeting)
      (m n : BTreeMap Leb Candidate) (x y : BTreeMap Stamp ℕ) → AreSeen z bs (twin_in m x) → IsNew z bs b of new
      → held_of met ≡ tree.get leb_cmp m of → Puts m n of (kept met new)
      → IsPutAside of x y (beaten met new) → AreSeen z (bs ++ b ∷ []) (twin_in n y)
  AreSeen-push bs b of new met m n x y h is meets u w = record {
    each = λ stamp. elim (told leb_cmp leb_total leb_exact of stamp.0) [
      | inl t ↦ subst (λ (k : Leb). MatchOption (twin_in n y (k, stamp.1)) ((q : ℕ)
          → HasStamp z (bs ++ b ∷ []) (k, stamp.1) q → ⊥) (HasStamp z (bs ++ b ∷ []) (k, stamp.1))) t.1
          (seen_more bs b of new is stamp.1 (twin_in m x (of, stamp.1)) (twin_in n y (of, stamp.1))
          (subst (λ (k : Option Candidate). IsFound new stamp.1 (twin_in m x (of, stamp.1))
          (twin_by k (tree.get stamp_cmp y (of, stamp.1)) stamp.1)) (sym u.here)
          (subst (λ (k : Option Candidate). IsFound new stamp.1 (twin_by k (tree.get stamp_cmp x (of, stamp.1)) stamp.1)
          (twin_by (Some (kept met new)) (tree.get stamp_cmp y (of, stamp.1)) stamp.1)) meets
          (same_leb of new x y stamp.1 met w))) (h.each (of, stamp.1)))
      | inr t ↦ subst (λ (o : Option ℕ). MatchOption o ((q : ℕ) → HasStamp z (bs ++ b ∷ []) stamp q
          → ⊥) (HasStamp z (bs ++ b ∷ []) stamp))
          (ap₂ (λ k o. twin_by k o stamp.1) (sym (u.others stamp.0 t.0)) (sym (other_leb of new x y stamp met t.1 w)))
          (seen_skip bs b stamp _ (λ e. t.1 (let k = is.named in let k' = e.0 in cc)) (h.each stamp))
    ];
  }

  pub AreSeen-skip : (bs : List (List ℕ)) (b : List ℕ) (seen : Stamp → Option ℕ) → AreSeen z bs seen
      → named_in z b ≡ None → AreSeen z (bs ++ b ∷ []) seen
  AreSeen-skip bs b seen h none =
      record { each = λ stamp. seen_skip bs b stamp _ (λ e. let k = e.0 in absurd (cc)) (h.each stamp) }
