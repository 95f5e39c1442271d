-- What a pass finds lies within the eraseblocks that it has taken, whatever these hold.
use Rattle.ubi_scan.proofs.Prelude.{◌≡◌, ℕ, ◌+◌, ◌<◌, ◌≤◌, inl, inr, true, false, cond, [], ◌∷◌, ◌++◌, length, refl, ap, sym, ◌∙◌, subst, arith, length-append, Option, Some, None, IfSome, MatchOption, max, option_map, BTreeMap, le-max_left, le-max_right, EcHeader, EcRead, VidHeader, VidRead, beaten, candidate, held_of, kept, known, takes_over, counted_if, sqnum_if, AreAtMost, AreCounted, IsEntered, IsNominated, IsPassed, IsTaken, Stamp, found_by, held_in, quiet_state, Leb, leb_of, member_if, option_map_or, valid_ec, kept_header, leb_cmp, LiesWithin, Candidate, Meeting, Counts, Pass}
use Rattle.std.specs.BTreeMap as tree
use Rattle.ubi_scan.specs.declared.found.ScanState.TheVariants as state
use Rattle.ubi_scan.proofs.Keys.{leb_exact, leb_total, told}
use Rattle.ubi_scan.proofs.Nominated.{taken_over}
use Rattle.ubi_scan.proofs.CandidatePlaces.{get-places_of}
use Rattle.ubi_scan.proofs.StatesSoFar.{length-beaten_in}
use Rattle.ubi_scan.proofs.Tops.{IsAtMost, all_raised, aside_at_most, beaten_at_most, kept_at_most, number_of_member, raised}

-- the candidates are below p, no more eraseblocks were counted or told of, and no member has a number above the greatest
pub record IsWithin (p : ℕ) (pass : Pass) : Type 0 where
  pub counted : pass.counts.counted ≤ p
  pub held : (of : Leb) → IfSome (tree.get leb_cmp pass.best of) (λ c. c.peb < p)
  pub states : length pass.states.items ≡ p
  pub tops : AreAtMost pass.others pass.counts.top_sqnum
  pub best_tops : (of : Leb) → IsAtMost pass.counts.top_sqnum (tree.get leb_cmp pass.best of)

abbrev IsBelow : ℕ → Option Candidate → Type 0
IsBelow p o = IfSome o (λ c. c.peb < p)

below_more : (p : ℕ) (o : Option Candidate) → IsBelow p o → IsBelow (p + 1) o
below_more p None h = tt
below_more p (Some c) h = omega arith

counted_one : (o : Option EcHeader) → option_map_or (λ (_ : EcHeader). 1) o 0 ≤ 1
counted_one None = omega arith
counted_one (Some h) = omega arith

counted_more : (p n : ℕ) (e : EcRead) → n ≤ p → n + counted_if e ≤ p + 1
counted_more p n e h = let k = counted_one (valid_ec e) in omega arith

-- the candidate that is kept
kept_below : (p : ℕ) (h : VidHeader) (met : Option Meeting) → IsBelow p (held_of met)
    → (kept met (candidate p h)).peb < p + 1
kept_below p h None k = omega arith
kept_below p h (Some met) k =
    elim (takes_over met (candidate p h)) as
    (λ b. (cond b (known met.new_good (candidate p h)) (known met.held_good met.held)).peb < p + 1)
    [ true ↦ omega arith | false ↦ omega arith ]

top_rises : (e : EcRead) (v : VidRead) (old new : Counts) → AreCounted old e v new → old.top_sqnum ≤ new.top_sqnum
top_rises e v old new t = rw t.top_sqnum (le-max_left old.top_sqnum (sqnum_if e v))

own_top : (e : EcRead) (v : VidRead) (x : VidHeader) (old new : Counts) → member_if e v ≡ Some x → AreCounted old e v new
    → x.sqnum ≤ new.top_sqnum
own_top e v x old new is t = rw t.top_sqnum (subst (λ n. n ≤ max old.top_sqnum (sqnum_if e v)) (number_of_member e v x is)
    (le-max_right old.top_sqnum (sqnum_if e v)))

step_by : (p : ℕ) (old new : Pass) (e : EcRead) (v : VidRead) (met : Option Meeting) (o : Option VidHeader)
    → member_if e v ≡ o → IsWithin p old → held_of met ≡ held_in old.best (member_if e v)
    → IsTaken old p e v met new → MatchOption o (IsPassed old e v new) (IsEntered old p met new) → IsWithin (p + 1) new
step_by p old new e v met None is h meets t k = record {
  counted = rw t.counts.counted (counted_more p old.counts.counted e h.counted);
  held = λ of. rw k.best (below_more p _ (h.held of));
  states = ap length k.states ∙ length-append old.states.items (quiet_state e v ∷ []) ∙ ap (λ n. n + 1) h.states;
  tops = subst (λ (x : BTreeMap Stamp ℕ). AreAtMost x new.counts.top_sqnum) (sym k.others)
      (all_raised old.counts.top_sqnum new.counts.top_sqnum old.others (top_rises e v old.counts new.counts t.counts) h.tops);
  best_tops = λ of. rw k.best (raised old.counts.top_sqnum new.counts.top_sqnum _
      (top_rises e v old.counts new.counts t.counts) (h.best_tops of));
}
step_by p old new e v met (Some x) is h meets t k =
    let held : held_of met ≡ tree.get leb_cmp old.best (leb_of x) = meets ∙ ap (held_in old.best) is in
    let below : IsBelow p (held_of met) = subst (IsBelow p) (sym held) (h.held (leb_of x)) in
    let top = new.counts.top_sqnum in
    let rises : old.counts.top_sqnum ≤ top = top_rises e v old.counts new.counts t.counts in
    let own : x.sqnum ≤ top = own_top e v x old.counts new.counts is t.counts in
    let held_top : IsAtMost top (held_of met) = subst (IsAtMost top) (sym held)
    (raised old.counts.top_sqnum top _ rises (h.best_tops (leb_of x))) in
    record {
      counted = rw t.counts.counted (counted_more p old.counts.counted e h.counted);
      held = λ of. elim (told leb_cmp leb_total leb_exact (leb_of x) of) [
        | inl t ↦ subst (λ q. IsBelow (p + 1) (tree.get leb_cmp new.best q)) t.1
            (subst (IsBelow (p + 1)) (sym k.best.here) (kept_below p x met below))
        | inr t ↦ subst (IsBelow (p + 1)) (sym (k.best.others of t.0)) (below_more p _ (h.held of))
      ];
      states = ap length k.states ∙ length-beaten_in (leb_of x) (old.states.items ++ state.Winner (kept_header x) ∷ []) _
          ∙ length-append old.states.items (state.Winner (kept_header x) ∷ []) ∙ ap (λ n. n + 1) h.states;
      tops = aside_at_most (leb_of x) old.others new.others top (beaten met (candidate p x))
          (all_raised old.counts.top_sqnum top old.others rises h.tops)
          (beaten_at_most top met (candidate p x) held_top own) k.others;
      best_tops = λ of. elim (told leb_cmp leb_total leb_exact (leb_of x) of) [
        | inl t ↦ subst (λ q. IsAtMost top (tree.get leb_cmp new.best q)) t.1
            (subst (IsAtMost top) (sym k.best.here) (kept_at_most top met (candidate p x) held_top own))
        | inr t ↦ subst (IsAtMost top) (sym (k.best.others of t.0)) (raised old.counts.top_sqnum top _ rises (h.best_tops of))
      ];
    }

pub Within-more : (p : ℕ) (old mid new : Pass) (e : EcRead) (v : VidRead) (met : Option Meeting) → IsWithin p old
    → held_of met ≡ held_in old.best (member_if e v) → IsNominated old p (member_if e v) mid
    → IsTaken mid p e v met new → IsWithin (p + 1) new
Within-more p old mid new e v met h meets n t =
    let taken = taken_over old mid new p e v met n t in
    step_by p old new e v met (member_if e v) refl h meets taken taken.known

pub Within-all : (p n : ℕ) (pass : Pass) → p ≡ n → IsWithin p pass → LiesWithin n (found_by pass)
Within-all p n pass is h = record {
  winners = λ of. subst (λ (o : Option ℕ). IfSome o (λ q. q < n)) (sym (get-places_of pass.best of))
      (place_below _ (h.held of));
  states = h.states ∙ is;
}
  where
    place_below : (o : Option Candidate) → IsBelow p o → IfSome (option_map (λ (c : Candidate). c.peb) o) (λ q. q < n)
    place_below None k = tt
    place_below (Some c) k = omega arith
