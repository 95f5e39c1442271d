-- The headers of the LEBs of volumes break no rule.
use Rattle.ubi_laid.proofs.Prelude.{◌≡◌, ℕ, ◌+◌, ◌-◌, ◌/◌, ◌^◌, ◌<◌, ◌≤◌, true, arith, nat_tests, None, Sizes, leb_size, plain, vid_fault, breaks, fields_from, first_fault, VidFits, VidHeader, IsMislaid, has_members}
use Rattle.ubi_media.specs.declared.vid.VolKind.TheVariants as kind

-- a volume of a user
pub user_known : (vol : ℕ) → vol < 128 → has_members vol ≡ true
user_known vol l = grind (arith, nat_tests)

pub user_placed : (h : VidHeader) → h.vol_id < 128 → IsMislaid h → ⊥
user_placed h l m = let far = m.0 in omega arith

-- the numbers of a LEB of such a volume
pub record IsUsers (s : Sizes) (pad vol lnum : ℕ) : Type 0 where
  pub slot : vol < 128
  pub number : lnum < 2 ^ 31
  pub half : pad < leb_size s / 2
  pub wide : leb_size s < 2 ^ 31

-- and those of a piece of a static text
pub record IsPart (s : Sizes) (pad lnum size used : ℕ) : Type 0 where
  pub some : 1 ≤ size
  pub most : size ≤ leb_size s - pad
  pub below : lnum < used
  pub few : used < 2 ^ 31
  pub full : lnum + 1 < used → size ≡ leb_size s - pad

module _ (s : Sizes) (pad vol lnum : ℕ) (h : IsUsers s pad vol lnum) where
  short : pad < 2 ^ 31
  short = let half = h.half in let wide = h.wide in omega arith

  pub dynamic_sound : vid_fault s (plain kind.Dynamic 0 pad vol lnum) ≡ None
  unfolding first_fault breaks fields_from
  dynamic_sound = let slot = h.slot in let number = h.number in let half = h.half in let pads = short in
      grind (arith, nat_tests)

  pub dynamic_fits : VidFits (plain kind.Dynamic 0 pad vol lnum)
  dynamic_fits = record {
    vol_id = (let slot = h.slot in omega arith);
    lnum = (let number = h.number in omega arith);
    data_size = omega arith;
    used_ebs = omega arith;
    data_pad = (let pads = short in omega arith);
    data_crc = omega arith;
    sqnum = omega arith;
  }

  module _ (size used crc : ℕ) (part : IsPart s pad lnum size used) where
    pub static_sound : vid_fault s
        (record (plain kind.Static 0 pad vol lnum) { data_size = size; used_ebs = used; data_crc = crc }) ≡ None
    unfolding first_fault breaks fields_from
    static_sound =
        let slot = h.slot in
        let number = h.number in
        let half = h.half in
        let wide = h.wide in
        let pads = short in
        let some = part.some in
        let most = part.most in
        let below = part.below in
        let few = part.few in
        let full = part.full in
        grind (arith, nat_tests)

    pub static_fits : crc < 2 ^ 32
        → VidFits (record (plain kind.Static 0 pad vol lnum) { data_size = size; used_ebs = used; data_crc = crc })
    static_fits checked = record {
      vol_id = (let slot = h.slot in omega arith);
      lnum = (let number = h.number in omega arith);
      data_size = (let most = part.most in let wide = h.wide in omega arith);
      used_ebs = (let few = part.few in omega arith);
      data_pad = (let pads = short in omega arith);
      data_crc = checked;
      sqnum = omega arith;
    }
