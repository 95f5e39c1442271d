-- What stays when an eraseblock that wins no LEB that counts is emptied: winners, who wins nothing, and the greatest
-- sequence number.
use Rattle.ubi_change.proofs.Prelude.{◌≡◌, ℕ, ◌<◌, inl, inr, List, length, set, ap, subst, arith, cases_eq, Some, Sizes, NoFault, IsMember, Leb, named_in, sqnum_at, sqnum_in, Records, IsOutside}
use Rattle.ubi_change.proofs.MeaningKept.{KeepsLeb, kept_back}
use Rattle.ubi_change.proofs.Replaced.{block_other, keeps_vacated, member_was, named_here}
use Rattle.ubi_change.proofs.Vacated.{IsVacant, LosesAll}

-- each sequence number of a member is below this
abbrev pub AreBelow : Sizes → List (List ℕ) → ℕ → Type 0
AreBelow s bs limit = (of : Leb) (q : ℕ) → IsMember s bs of q → sqnum_at s bs q < limit

module _ (s : Sizes) (bs : List (List ℕ)) (p : ℕ) (x : List ℕ) (inside : p < length bs) (seq : ℕ) (v : IsVacant s seq x)
    (t : Records) (lost : LosesAll s bs t p) where
  pub emptied_keeps : (of : Leb) → (IsOutside t of → ⊥) → KeepsLeb s bs (set bs p x) of
  emptied_keeps of counts = keeps_vacated s bs p x inside v.nameless of (lost of counts)

  pub emptied_loses : NoFault s (set bs p x) → (q : ℕ) → LosesAll s bs t q → LosesAll s (set bs p x) t q
  emptied_loses clean q l of counts w = l of counts
      ((kept_back s bs (set bs p x) clean of (emptied_keeps of counts)).winner q w).0

  pub emptied_below : (limit : ℕ) → AreBelow s bs limit → AreBelow s (set bs p x) limit
  emptied_below limit below of q k = elim (cases_eq q p) [
    | inl e ↦
        let here : named_in s x ≡ Some of = named_here s bs p x inside of (subst (IsMember s (set bs p x) of) e k) in
        let none = v.nameless in
        absurd (cc)
    | inr e ↦
        let before = below of q (member_was s bs p x inside of q e k) in
        let same : sqnum_at s (set bs p x) q ≡ sqnum_at s bs q = ap (sqnum_in s) (block_other s bs p x inside q e) in
        omega arith
  ]
