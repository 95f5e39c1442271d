-- The image sequence number of bytes has the width that a header gives it.
use Rattle.ubi_volume.proofs.Prelude.{◌≡◌, ℕ, ◌*◌, ◌/◌, ◌^◌, ◌<◌, inl, inr, List, [], length, take, drop, refl, ap, sym, ◌∙◌, subst, arith, cases_eq, ec_fields, AreBytes, field, Sizes, EcHeader, EcRead, bytes-drop, bytes-take, field_narrow, ec_is_of, Image, block, ec, ec_area, eraseblocks, image_seq, seq_if, seq_of, get_or-first_chunks, length-first_chunks, seq_from}
use Rattle.ubi_media.specs.declared.ec.EcRead.TheVariants as ec_read

named_field : (bytes : List ℕ) → (ec_fields bytes).image_seq ≡ field 4 24 bytes
unfolding ec_fields
named_field bytes = refl

seq_narrow : (s : Sizes) (b : List ℕ) → AreBytes b → seq_of s b < 2 ^ 32
seq_narrow s b h = by_reading (ec s b) refl
  where
    by_reading : (r : EcRead) → ec s b ≡ r → seq_if r < 2 ^ 32
    by_reading ec_read.Blank e = omega arith
    by_reading ec_read.Corrupt e = omega arith
    by_reading (ec_read.Fault f) e = omega arith
    by_reading (ec_read.Valid x) e =
        let is = ec_is_of s (ec_area b) (ec_read.Valid x) (sym e) in
        let same : x.image_seq ≡ field 4 24 (ec_area b) = ap (λ (k : EcHeader). k.image_seq) is.2
        ∙ named_field (ec_area b) in
        subst (λ (n : ℕ). n < 2 ^ 32) (sym same) (field_narrow 24 (ec_area b) (bytes-take 64 b h))

pub image_narrow : (image : Image) → AreBytes image.bytes → image_seq image.sizes (eraseblocks image) < 2 ^ 32
image_narrow image h =
    let s = image.sizes in
    let bs = eraseblocks image in
    let size = s.peb_size in
    let count = length image.bytes / size in
    elim (cases_eq (image_seq s bs) 0) [
      | inl none ↦ subst (λ (n : ℕ). n < 2 ^ 32) (sym none) (omega arith)
      | inr some ↦
          let r = seq_from s bs some in
          let inside : r.0 < count = subst (λ (n : ℕ). r.0 < n) (length-first_chunks size count image.bytes) r.1 in
          let here : block bs r.0 ≡ take size (drop (r.0 * size) image.bytes) =
          get_or-first_chunks size count image.bytes r.0 [] inside in
          subst (λ (n : ℕ). n < 2 ^ 32) (sym r.2)
          (seq_narrow s (block bs r.0) (subst AreBytes (sym here)
          (bytes-take size (drop (r.0 * size) image.bytes) (bytes-drop (r.0 * size) image.bytes h))))
    ]
