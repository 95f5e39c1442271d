-- An image is refused for at most one cause.
use Rattle.ubi_volume.proofs.Prelude.{◌≡◌, ℕ, inl, inr, List, refl, ap, subst, arith, cases_order, Sizes, Refusal, IsScanFault, NoFault, Image, IsSizeFault, eraseblocks, one_scan_fault, Records, fault_unique, never_table_and_fault, table_unique, Refuses, RefusesBlocks, IsVolumeFault}
use Rattle.ubi_media.specs.declared.refusal.Refusal.TheVariants as refusal
use Rattle.ubi_volume.proofs.OneMeaning.{no_size_fault}

-- of the size
one_size_fault : (image : Image) (c d : Refusal) → IsSizeFault image c → IsSizeFault image d → c ≡ d
one_size_fault image refusal.TooMany refusal.TooMany h k = refl
one_size_fault image refusal.TooMany refusal.Length h k = let l = k.0 in absurd (omega arith)
one_size_fault image refusal.Length refusal.TooMany h k = let l = h.0 in absurd (omega arith)
one_size_fault image refusal.Length refusal.Length h k = refl
one_size_fault image refusal.TooMany _ h k = absurd k
one_size_fault image refusal.Length _ h k = absurd k
one_size_fault image _ d h k = absurd h

module _ (s : Sizes) (bs : List (List ℕ)) where
  -- of a volume
  one_volume_fault : (t : Records) (c d : Refusal) → IsVolumeFault s bs t c → IsVolumeFault s bs t d → c ≡ d
  one_volume_fault t (refusal.Mismatch p) (refusal.Mismatch q) h k = elim (cases_order p q) [
    | inl e ↦ ap refusal.Mismatch e
    | inr o ↦ elim o [ inl l ↦ absurd (k.1 p l h.0) | inr l ↦ absurd (h.1 q l k.0) ]
  ]
  one_volume_fault t (refusal.Mismatch p) _ h k = absurd k
  one_volume_fault t _ d h k = absurd h

  -- a fault of the scan stands where there is one
  no_scan_fault : (c : Refusal) → NoFault s bs → IsScanFault s bs c → ⊥
  no_scan_fault c clean h = clean h.at c h.inside h.fault.stands

  -- of the eraseblocks
  one_blocks_fault : (c d : Refusal) → RefusesBlocks s bs c → RefusesBlocks s bs d → c ≡ d
  one_blocks_fault c d (inl h) (inl k) = one_scan_fault s bs c d h k
  one_blocks_fault c d (inl h) (inr (inl k)) = absurd (no_scan_fault c k.0 h)
  one_blocks_fault c d (inl h) (inr (inr k)) = absurd (no_scan_fault c k.0 h)
  one_blocks_fault c d (inr (inl h)) (inl k) = absurd (no_scan_fault d h.0 k)
  one_blocks_fault c d (inr (inl h)) (inr (inl k)) = fault_unique s bs h.0 c d h.1 k.1
  one_blocks_fault c d (inr (inl h)) (inr (inr k)) = absurd (never_table_and_fault s bs h.0 k.1 c k.2 h.1)
  one_blocks_fault c d (inr (inr h)) (inl k) = absurd (no_scan_fault d h.0 k)
  one_blocks_fault c d (inr (inr h)) (inr (inl k)) = absurd (never_table_and_fault s bs h.0 h.1 d h.2 k.1)
  one_blocks_fault c d (inr (inr h)) (inr (inr k)) =
      let same : k.1 ≡ h.1 = table_unique s bs h.0 k.1 h.1 k.2 h.2 in
      one_volume_fault h.1 c d h.3 (subst (λ (t : Records). IsVolumeFault s bs t d) same k.3)

pub one_cause : (image : Image) (c d : Refusal) → Refuses image c → Refuses image d → c ≡ d
one_cause image c d (inl h) (inl k) = one_size_fault image c d h k
one_cause image c d (inl h) (inr k) = absurd (no_size_fault image c k.0 h)
one_cause image c d (inr h) (inl k) = absurd (no_size_fault image d h.0 k)
one_cause image c d (inr h) (inr k) = one_blocks_fault image.sizes (eraseblocks image) c d h.1 k.1
