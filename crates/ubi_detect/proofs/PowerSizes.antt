-- Eraseblocks whose size is a power of two have no pages with out-of-band bytes.
use Rattle.ubi_detect.proofs.Prelude.{◌≡◌, ℕ, ◌*◌, ◌/◌, ◌%◌, ◌<◌, ◌≤◌, Bool, true, inl, inr, refl, ap, ◌∙◌, arith, list_all, range_with_len, ◌==◌, ◌&&◌, ◌||◌, or_left, within_or_past, EcOffsets, greatest_size, step, has_no_way, pow-le-pow_right, PowersOfTwo, ◌^◌}
use Rattle.ubi_detect.proofs.Tested.{passes}

module _ (o : EcOffsets) where
  -- none of 25 powers of two has such a page, by trying each
  no_way : list_all (λ e. has_no_way (2 ^ e) o) (range_with_len 0 25) ≡ true
  no_way = refl

  -- nor has a half or a quarter of one
  abbrev is_seen_of : ℕ → Bool
  is_seen_of q = (q % (2 * step) == 0) || (has_no_way (q / 2) o && has_no_way (q / 4) o)

  all_seen : list_all (λ e. is_seen_of (2 ^ e)) (range_with_len 0 25) ≡ true
  all_seen = refl

few : (e : ℕ) → 2 ^ e ≤ greatest_size → e < 25
few e most = elim (within_or_past 25 e) [
  | inl past ↦ absurd (let m : 2 ^ 25 ≤ 2 ^ e = pow-le-pow_right (omega arith) past in omega (arith, m, most))
  | inr below ↦ below
]

pub powers_of_two : PowersOfTwo
powers_of_two bytes g e size most =
    let o = g.key.offsets in
    let below = few e (let s = size in omega (arith, s, most)) in (
      ap (is_seen_of o) size ∙ passes (λ n. is_seen_of o (2 ^ n)) 25 e (all_seen o) below,
      or_left _ _ (ap (λ q. has_no_way q o) size ∙ passes (λ n. has_no_way (2 ^ n) o) 25 e (no_way o) below),
    )
