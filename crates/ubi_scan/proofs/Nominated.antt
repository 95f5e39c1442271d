-- A pass that makes a member the candidate of its LEB, and then keeps one of both, goes on over it.
use Rattle.ubi_scan.proofs.Prelude.{◌≡◌, ℕ, [], ◌∷◌, ◌++◌, refl, ap, sym, ◌∙◌, subst, Option, Some, None, MatchOption, if◌then◌else◌, BTreeMap, EcRead, VidHeader, VidRead, beaten, candidate, takes_over, AreCounted, IsEntered, IsNominated, IsPassed, IsPutAside, IsTaken, Puts, Stamp, beaten_in, quiet_state, stamp_cmp, Leb, leb_of, member_if, kept_header, leb_cmp, Candidate, Meeting, Counts, Pass}
use Rattle.std.specs.Prelude.{Bool, true}
use Rattle.std.specs.BTreeMap as tree
use Rattle.ubi_scan.specs.declared.found.ScanState.TheVariants as state

-- what an insertion into the map of candidates makes of a pass
pub nominated_by : (old : Pass) (p : ℕ) (o : Option VidHeader) (h : VidHeader) (best : BTreeMap Leb Candidate) (of : Leb)
    (c : Candidate) → o ≡ Some h → of ≡ leb_of h → c ≡ candidate p h → tree.Updates leb_cmp old.best best of (Some c)
    → IsNominated old p o (record old { best = best })
nominated_by old p o h best of c is at new u = record {
  best = subst (λ (k : Option VidHeader). MatchOption k (best ≡ old.best)
      (λ h. Puts old.best best (leb_of h) (candidate p h))) (sym is)
      (subst (λ (k : Leb). Puts old.best best k (candidate p h)) at
      (subst (λ (k : Candidate). Puts old.best best of k) new (record { here = u.1; others = u.2 })));
  rest = refl;
}

-- the candidate that is beaten is put aside
pub held_aside : (of : Leb) (old new : BTreeMap Stamp ℕ) (met : Meeting) (c : Candidate) → takes_over met c ≡ true
    → tree.Updates stamp_cmp old new (of, met.held.sqnum) (Some met.held.peb)
    → IsPutAside of old new (beaten (Some met) c)
held_aside of old new met c won u =
    subst (λ (b : Bool). IsPutAside of old new (Some (if b then met.held else c))) (sym won) u

-- of two candidates that are put at one LEB the second stays
puts_over : (x y z : BTreeMap Leb Candidate) (of : Leb) (a b : Candidate) → Puts x y of a → Puts y z of b → Puts x z of b
puts_over x y z of a b first second =
    record { here = second.here; others = λ q apart. second.others q apart ∙ first.others q apart }

known_over : (old mid new : Pass) (p : ℕ) (e : EcRead) (v : VidRead) (met : Option Meeting) (o : Option VidHeader)
    → IsNominated old p o mid → MatchOption o (IsPassed mid e v new) (IsEntered mid p met new)
    → MatchOption o (IsPassed old e v new) (IsEntered old p met new)
known_over old mid new p e v met None n k = record {
  best = k.best ∙ n.best;
  others = k.others ∙ ap (λ (x : Pass). x.others) n.rest;
  states = k.states ∙ ap (λ (x : Pass). x.states.items ++ quiet_state e v ∷ []) n.rest;
}
known_over old mid new p e v met (Some h) n k = record {
  best = puts_over old.best mid.best new.best (leb_of h) _ _ n.best k.best;
  others = subst (λ (x : BTreeMap Stamp ℕ). IsPutAside (leb_of h) x new.others (beaten met (candidate p h)))
      (ap (λ (x : Pass). x.others) n.rest) k.others;
  states = k.states ∙ ap (λ (x : Pass). beaten_in (leb_of h) (x.states.items ++ state.Winner (kept_header h) ∷ [])
      (beaten met (candidate p h))) n.rest;
}

pub taken_over : (old mid new : Pass) (p : ℕ) (e : EcRead) (v : VidRead) (met : Option Meeting)
    → IsNominated old p (member_if e v) mid → IsTaken mid p e v met new → IsTaken old p e v met new
taken_over old mid new p e v met n t = record {
  counts = subst (λ (x : Counts). AreCounted x e v new.counts) (ap (λ (x : Pass). x.counts) n.rest) t.counts;
  known = known_over old mid new p e v met (member_if e v) n t.known;
}
