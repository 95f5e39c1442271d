-- No member has a sequence number above the greatest one so far.
use Rattle.ubi_scan.proofs.Prelude.{◌≡◌, ℕ, ◌<◌, ◌≤◌, inl, inr, Bool, true, false, cond, ap, refl, subst, arith, IfSome, IsSome, None, Option, Some, option_and_then, unwrap_or, BTreeMap, then_some, same_Some, EcRead, VidHeader, VidRead, beaten, held_of, kept, known, takes_over, sqnum_if, AreAtMost, IsPutAside, Stamp, stamp_cmp, Leb, has_members, header_if, member_if, sqnum_in_use, Candidate, Meeting, ◌==◌, ◌||◌}
use Rattle.std.specs.BTreeMap as tree
use Rattle.ubi_scan.proofs.Keys.{stamp_exact, stamp_total, told}

-- the number of a member is in use
pub used_by : (o : Option VidHeader) (h : VidHeader)
    → option_and_then (λ (h : VidHeader). then_some (has_members h.vol_id) h) o ≡ Some h
    → option_and_then sqnum_in_use o ≡ Some h.sqnum
used_by None h e = absurd (cc)
used_by (Some k) h e = by_test (has_members k.vol_id) e
  where
    by_test : (b : Bool) → then_some b k ≡ Some h → then_some (b || (k.compat == 1)) k.sqnum ≡ Some h.sqnum
    by_test true e = ap (λ (h : VidHeader). Some h.sqnum) (same_Some k h e)
    by_test false e = absurd (cc)

-- and so it counts
pub number_of_member : (e : EcRead) (v : VidRead) (h : VidHeader) → member_if e v ≡ Some h → sqnum_if e v ≡ h.sqnum
number_of_member e v h is = ap (λ o. unwrap_or o 0) (used_by (header_if e v) h is)

-- a candidate, if there is one, has no sequence number above `top`
abbrev pub IsAtMost : ℕ → Option Candidate → Type 0
IsAtMost top o = IfSome o (λ c. c.sqnum ≤ top)

pub raised : (low high : ℕ) (o : Option Candidate) → low ≤ high → IsAtMost low o → IsAtMost high o
raised low high None l h = tt
raised low high (Some c) l h = omega arith

pub all_raised : (low high : ℕ) (others : BTreeMap Stamp ℕ) → low ≤ high → AreAtMost others low → AreAtMost others high
all_raised low high others l h stamp some = let k = h stamp some in omega arith

-- of a member and the candidate that it meets
pub kept_at_most : (top : ℕ) (met : Option Meeting) (c : Candidate) → IsAtMost top (held_of met) → c.sqnum ≤ top
    → (kept met c).sqnum ≤ top
kept_at_most top None c h l = l
kept_at_most top (Some met) c h l = elim (takes_over met c) as
    (λ b. (cond b (known met.new_good c) (known met.held_good met.held)).sqnum ≤ top) [ true ↦ l | false ↦ h ]

pub beaten_at_most : (top : ℕ) (met : Option Meeting) (c : Candidate) → IsAtMost top (held_of met) → c.sqnum ≤ top
    → IsAtMost top (beaten met c)
beaten_at_most top None c h l = tt
beaten_at_most top (Some met) c h l = elim (takes_over met c) as (λ b. (cond b met.held c).sqnum ≤ top)
    [ true ↦ h | false ↦ l ]

-- of those that are put aside, with one more
pub aside_at_most : (of : Leb) (old new : BTreeMap Stamp ℕ) (top : ℕ) (lost : Option Candidate) → AreAtMost old top
    → IsAtMost top lost → IsPutAside of old new lost → AreAtMost new top
aside_at_most of old new top None h l u stamp some =
    h stamp (subst (λ (k : BTreeMap Stamp ℕ). IsSome (tree.get stamp_cmp k stamp)) u some)
aside_at_most of old new top (Some c) h l u stamp some =
    elim (told stamp_cmp stamp_total stamp_exact (of, c.sqnum) stamp) [
      | inl t ↦ subst (λ (k : Stamp). k.1 ≤ top) t.1 l
      | inr t ↦ h stamp (subst (λ (o : Option ℕ). IsSome o) (u.2 stamp t.0) some)
    ]

-- above the greatest number nothing is found
pub none_above : (others : BTreeMap Stamp ℕ) (of : Leb) (sqnum top : ℕ) → AreAtMost others top → top < sqnum
    → None ≡ tree.get stamp_cmp others (of, sqnum)
none_above others of sqnum top h l = go (tree.get stamp_cmp others (of, sqnum)) (h (of, sqnum))
  where
    go : (o : Option ℕ) → (IsSome o → sqnum ≤ top) → None ≡ o
    go None k = refl
    go (Some q) k = let m = k refl in absurd (omega arith)
