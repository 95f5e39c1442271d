-- The empty record on literals.
use Rattle.ubi_media.proofs.Prelude.{◌≡◌, [], ◌∷◌, ◌++◌, length, replicate, refl, check_from, remainder, empty_record, record_size}

zeros_and_their_check : empty_record ≡ replicate 168 0 ++ 0xF1 ∷ 0x16 ∷ 0xC3 ∷ 0x6B ∷ []
unfolding empty_record check_from remainder
zeros_and_their_check = refl

pub length-empty_record : length empty_record ≡ record_size
unfolding empty_record
length-empty_record = refl
