-- The texts that say why no geometry is found, on literals.
use Rattle.ubi_detect.proofs.Prelude.{◌≡◌, codes, refl, digits, undetected_text}
use Rattle.ubi_detect.specs.declared.detect.Undetected.TheVariants as cause

no_header : undetected_text cause.NoHeader ≡ codes "F1 NoHeader"
no_header = refl

cut_off : undetected_text (cause.Length 131072 4096) ≡ codes "F3 Length peb=131072 rest=4096"
unfolding digits
cut_off = refl

with_out_of_band : undetected_text (cause.OutOfBand 135168) ≡ codes "F5 OutOfBand peb=135168"
unfolding digits
with_out_of_band = refl

no_page : undetected_text (cause.Page 1536 (record { vid_offset = 64; data_offset = 96 })) ≡ codes "F6 Page peb=1536 vid=64 data=96"
unfolding digits
no_page = refl
