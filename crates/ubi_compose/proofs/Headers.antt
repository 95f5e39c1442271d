-- The header of a copy of the volume table breaks no rule.
use Rattle.ubi_compose.proofs.Prelude.{◌≡◌, ℕ, ◌-◌, ◌<◌, inl, inr, refl, arith, None, nat_tests, IsGeometry, Sizes, plain, vid_fault, VidFits, IsMislaid, layout}
use Rattle.ubi_media.specs.Vid.{breaks, fields_from, first_fault}
use Rattle.ubi_media.specs.declared.vid.VolKind.TheVariants as kind

pub layout_sound : (s : Sizes) → IsGeometry s → (copy : ℕ) → copy < 2
    → vid_fault s (plain kind.Dynamic 5 0 layout copy) ≡ None
unfolding first_fault breaks fields_from
layout_sound s g copy l = grind (arith, nat_tests, g.leb, l)

pub layout_fits : (copy : ℕ) → copy < 2 → VidFits (plain kind.Dynamic 5 0 layout copy)
layout_fits copy l = record {
  vol_id = omega arith;
  lnum = omega arith;
  data_size = omega arith;
  used_ebs = omega arith;
  data_pad = omega arith;
  data_crc = omega arith;
  sqnum = omega arith;
}

pub layout_placed : (copy : ℕ) → copy < 2 → IsMislaid (plain kind.Dynamic 5 0 layout copy) → ⊥
layout_placed copy l m = elim m.1 [
  | inl far ↦ omega arith
  | inr o ↦ elim o [ inl static ↦ (cc) | inr padded ↦ padded refl ]
]
