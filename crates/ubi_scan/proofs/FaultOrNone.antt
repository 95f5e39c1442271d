-- No eraseblock has a fault, or they are refused for one.
use Rattle.ubi_scan.proofs.Prelude.{ℕ, ◌<◌, ◌⊎◌, inl, inr, List, length, take, refl, MatchOption, None, Option, Some, cases_eq, Sizes, Refusal, HasFault, IsFirstFault, IsScanFault, NoFault, block, Stamp, named_in, sqnum_at, image_seq}
use Rattle.ubi_scan.proofs.BlockFaults.{Judges, judged}
use Rattle.ubi_scan.proofs.Decided.{named_or_not}
use Rattle.ubi_scan.proofs.Least.{least_or}
use Rattle.ubi_scan.proofs.StampedBlocks.{AreSeen, HasStamp}

module _ (z : Sizes) (bs : List (List ℕ)) where
  -- a member has a LEB and a sequence number, or none has
  abbrev Found : Stamp → Type 0
  Found stamp = ((q : ℕ) × HasStamp z bs stamp q) ⊎ ((q : ℕ) → HasStamp z bs stamp q → ⊥)

  stamp_or_not : (stamp : Stamp) (q : ℕ) → q < length bs → HasStamp z bs stamp q ⊎ (HasStamp z bs stamp q → ⊥)
  stamp_or_not stamp q inside = elim (named_or_not stamp.0 (named_in z (block bs q))) [
    | inl e ↦ elim (cases_eq (sqnum_at z bs q) stamp.1) [
      | inl s ↦ inl (record { inside = inside; named = e }, s)
      | inr s ↦ inr (λ h. s h.1)
    ]
    | inr e ↦ inr (λ h. e h.0.named)
  ]

  found : (stamp : Stamp) → Found stamp
  found stamp = elim (least_or (HasStamp z bs stamp) (λ q. HasStamp z bs stamp q → ⊥) (length bs) (stamp_or_not stamp)) [
    | inl f ↦ inl (f.0, f.2)
    | inr none ↦ inr (λ q h. none q h.0.inside h)
  ]

  -- its place
  abbrev place : (stamp : Stamp) → Found stamp → Option ℕ
  place stamp (inl f) = Some f.0
  place stamp (inr none) = None

  is_place : (stamp : Stamp) (f : Found stamp)
      → MatchOption (place stamp f) ((q : ℕ) → HasStamp z bs stamp q → ⊥) (HasStamp z bs stamp)
  is_place stamp (inl f) = f.1
  is_place stamp (inr none) = none

  are_seen : AreSeen z bs (λ stamp. place stamp (found stamp))
  are_seen = record { each = λ stamp. is_place stamp (found stamp) }

module _ (z : Sizes) (bs : List (List ℕ)) where
  -- an eraseblock has a first fault, or none
  first_or_none : (p : ℕ) → p < length bs → ((c : Refusal) × IsFirstFault z bs p c)
      ⊎ ((d : Refusal) → HasFault z bs p d → ⊥)
  first_or_none p inside =
      by_fault _ (judged z bs p (λ stamp. place z (take p bs) stamp (found z (take p bs) stamp))
      (are_seen z (take p bs)) inside (image_seq z (take p bs)) refl)
    where
      by_fault : (o : Option Refusal) → Judges z bs p o → ((c : Refusal) × IsFirstFault z bs p c)
          ⊎ ((d : Refusal) → HasFault z bs p d → ⊥)
      by_fault None h = inr h
      by_fault (Some c) h = inl (c, h)

  pub fault_or_none : NoFault z bs ⊎ ((c : Refusal) × IsScanFault z bs c)
  fault_or_none = elim (least_or (λ p. (c : Refusal) × IsFirstFault z bs p c) (λ p. (d : Refusal) → HasFault z bs p d
      → ⊥) (length bs) first_or_none) [
        | inl f ↦ inr (f.2.0, record { at = f.0; inside = f.1; fault = f.2.1; least = λ p c l. f.3 p l c })
        | inr none ↦ inl (λ p c l. none p l c)
      ]
