-- What is written is read back.
use Rattle.ubi_media.proofs.Prelude.{◌≡◌, ℕ, ◌^◌, ◌<◌, [], Bool, true, false, not, ◌==◌, refl, sym, ap, ◌∙◌, arith, nat_tests, big_number-reads_back, crc_of, field, Sizes, FormIs, EcIs, ec_magic, ec_front, ec_bytes, ec_fields, VidIs, kind_number, kind_of, vid_magic, vid_fault, vid_front, vid_bytes, vid_fields, header_of, EcFits, VidFits, EcHeader, Sealed, VidFields, VidHeader, VolKind, Dynamic, Static}
use Rattle.std.proofs.Common.{None}
use Rattle.std.specs.Bool.{if◌then◌else◌}
use Rattle.ubi_media.specs.Ec as ec
use Rattle.ubi_media.specs.Vid.{fields_from}
use Rattle.ubi_media.specs.declared.ec.EcRead.TheVariants as ec_read
use Rattle.ubi_media.specs.declared.vid.VidRead.TheVariants as vid_read
use Rattle.ubi_media.proofs.Checks.{check_from-lt}

-- the fields of what is written are the header's
ec_fields-ec_bytes : (s : Sizes) (h : EcHeader) → s.vid_offset < 2 ^ 32 → s.data_offset < 2 ^ 32 → h.counter < 2 ^ 64
    → h.image_seq < 2 ^ 32
    → ec_fields (ec_bytes s h) ≡ record {
      version = 1;
      counter = h.counter;
      vid_offset = s.vid_offset;
      data_offset = s.data_offset;
      image_seq = h.image_seq;
    }
unfolding ec_fields
ec_fields-ec_bytes s h vid_fits data_fits counter seq =
    let e1 = big_number-reads_back 8 h.counter [] counter in
    let e2 = big_number-reads_back 4 s.vid_offset [] vid_fits in
    let e3 = big_number-reads_back 4 s.data_offset [] data_fits in
    let e4 = big_number-reads_back 4 h.image_seq [] seq in
    rw (e1, e2, e3, e4) refl

ec_bytes-Sealed : (s : Sizes) (h : EcHeader) → FormIs ec_magic (ec_bytes s h) Sealed
ec_bytes-Sealed s h =
    (refl, big_number-reads_back 4 (crc_of (ec_front s h)) [] (check_from-lt 0xFFFFFFFF (ec_front s h) (omega arith)))

-- the fields of a header break no rule
ec_unbroken : (s : Sizes) (counter seq : ℕ) → counter < 2 ^ 31
    → ec.first_fault s (record {
      version = 1;
      counter = counter;
      vid_offset = s.vid_offset;
      data_offset = s.data_offset;
      image_seq = seq;
    }) ≡ None
unfolding ec.first_fault ec.breaks
ec_unbroken s counter seq small = grind (arith, nat_tests)

pub ec_read_back : (s : Sizes) (h : EcHeader) → s.vid_offset < 2 ^ 32 → s.data_offset < 2 ^ 32 → h.counter < 2 ^ 31
    → h.image_seq < 2 ^ 32
    → EcIs s (ec_bytes s h) (ec_read.Valid h)
ec_read_back s h vid_fits data_fits counter seq =
    let e = ec_fields-ec_bytes s h vid_fits data_fits (omega arith) seq in
    (ec_bytes-Sealed s h, rw e (ec_unbroken s h.counter h.image_seq counter), rw e refl)

-- what has a place in a header's bytes
pub record Fits (f : VidFields) : Type 0 where
  pub vol_id : f.vol_id < 2 ^ 32
  pub lnum : f.lnum < 2 ^ 32
  pub data_size : f.data_size < 2 ^ 32
  pub used_ebs : f.used_ebs < 2 ^ 32
  pub data_pad : f.data_pad < 2 ^ 32
  pub data_crc : f.data_crc < 2 ^ 32
  pub sqnum : f.sqnum < 2 ^ 64

vid_fields-vid_bytes : (h : VidHeader) → Fits (fields_from h) → vid_fields (vid_bytes h) ≡ fields_from h
unfolding vid_fields
vid_fields-vid_bytes h fits =
    let f = fields_from h in
    let e1 = big_number-reads_back 4 f.vol_id [] fits.vol_id in
    let e2 = big_number-reads_back 4 f.lnum [] fits.lnum in
    let e3 = big_number-reads_back 4 f.data_size [] fits.data_size in
    let e4 = big_number-reads_back 4 f.used_ebs [] fits.used_ebs in
    let e5 = big_number-reads_back 4 f.data_pad [] fits.data_pad in
    let e6 = big_number-reads_back 4 f.data_crc [] fits.data_crc in
    let e7 = big_number-reads_back 8 f.sqnum [] fits.sqnum in
    rw (e1, e2, e3, e4, e5, e6, e7) refl

vid_bytes-Sealed : (h : VidHeader) → FormIs vid_magic (vid_bytes h) Sealed
vid_bytes-Sealed h =
    let front = vid_front (fields_from h) in
    (refl, big_number-reads_back 4 (crc_of front) [] (check_from-lt 0xFFFFFFFF front (omega arith)))

pub kind_back : (k : VolKind) → kind_of (kind_number k) ≡ k
kind_back Dynamic = refl
kind_back Static = refl

pub flag_back : (b : Bool) → not ((if b then 1 else 0) == 0) ≡ b
flag_back true = refl
flag_back false = refl

-- a header gives its fields, and they give it back
header_of-fields_from : (h : VidHeader) → header_of (fields_from h) ≡ h
unfolding header_of fields_from
header_of-fields_from h = rw (kind_back h.kind, flag_back h.copy_flag) refl

pub vid_read_back : (s : Sizes) (h : VidHeader) → Fits (fields_from h) → vid_fault s h ≡ None
    → VidIs s (vid_bytes h) (vid_read.Valid h)
vid_read_back s h fits sound =
    let e = vid_fields-vid_bytes h fits in
    (vid_bytes-Sealed h, rw e sound, rw e (sym (header_of-fields_from h)))

-- and two headers with the same bytes are the same
module _ (s : Sizes) (h : EcHeader) (fits : EcFits h) where
  counter_back : field 8 8 (ec_bytes s h) ≡ h.counter
  counter_back = big_number-reads_back 8 h.counter [] (let wide = fits.counter in omega arith)

  image_seq_back : field 4 24 (ec_bytes s h) ≡ h.image_seq
  image_seq_back = big_number-reads_back 4 h.image_seq [] fits.image_seq

pub one_ec_header : (s : Sizes) (h k : EcHeader) → EcFits h → EcFits k → ec_bytes s h ≡ ec_bytes s k → h ≡ k
one_ec_header s h k fits fits_too e =
    let counter : h.counter ≡ k.counter = sym (counter_back s h fits) ∙ ap (field 8 8) e ∙ counter_back s k fits_too in
    let image_seq : h.image_seq ≡ k.image_seq = sym (image_seq_back s h fits) ∙ ap (field 4 24) e
    ∙ image_seq_back s k fits_too in
    λ i. record { counter = counter i; image_seq = image_seq i }

pub fields_fit : (h : VidHeader) → VidFits h → Fits (fields_from h)
unfolding fields_from
fields_fit h fits = record {
  vol_id = fits.vol_id;
  lnum = fits.lnum;
  data_size = fits.data_size;
  used_ebs = fits.used_ebs;
  data_pad = fits.data_pad;
  data_crc = fits.data_crc;
  sqnum = fits.sqnum;
}

header_back : (h : VidHeader) → VidFits h → header_of (vid_fields (vid_bytes h)) ≡ h
header_back h fits = ap header_of (vid_fields-vid_bytes h (fields_fit h fits)) ∙ header_of-fields_from h

pub one_vid_header : (h k : VidHeader) → VidFits h → VidFits k → vid_bytes h ≡ vid_bytes k → h ≡ k
one_vid_header h k fits fits_too e =
    sym (header_back h fits) ∙ ap (λ bytes. header_of (vid_fields bytes)) e ∙ header_back k fits_too
