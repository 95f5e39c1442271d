-- The definition of the CRC on literals, against vectors from outside.
use Rattle.ubi_media.proofs.Prelude.{◌≡◌, List, ℕ, [], ◌∷◌, replicate, refl, crc_of, check_from, remainder}

no_byte : crc_of [] ≡ 0xFFFFFFFF
unfolding check_from remainder
no_byte = refl

-- the text 123456789, whose usual CRC-32, the complement, is 0xCBF43926
digits : List ℕ
digits = 49 ∷ 50 ∷ 51 ∷ 52 ∷ 53 ∷ 54 ∷ 55 ∷ 56 ∷ 57 ∷ []

nine_digits : crc_of digits ≡ 0x340BC6D9
unfolding check_from remainder digits
nine_digits = refl

in_two_parts : check_from (crc_of (49 ∷ 50 ∷ 51 ∷ 52 ∷ 53 ∷ [])) (54 ∷ 55 ∷ 56 ∷ 57 ∷ []) ≡ 0x340BC6D9
unfolding check_from remainder
in_two_parts = refl

one_blank_byte : crc_of (255 ∷ []) ≡ 0x00FFFFFF
unfolding check_from remainder
one_blank_byte = refl

four_blank_bytes : crc_of (replicate 4 255) ≡ 0
unfolding check_from remainder
four_blank_bytes = refl

five_blank_bytes : crc_of (replicate 5 255) ≡ 0x2D02EF8D
unfolding check_from remainder
five_blank_bytes = refl

-- the generator was added to five blank bytes
same_as_blank : crc_of (0xBE ∷ 0xF9 ∷ 0x8E ∷ 0x24 ∷ 0xFE ∷ []) ≡ 0x2D02EF8D
unfolding check_from remainder
same_as_blank = refl

-- and it may be added anywhere
generator_added : crc_of (7 ∷ 0x41 ∷ 0x06 ∷ 0x71 ∷ 0xDB ∷ 0x01 ∷ 9 ∷ []) ≡ crc_of (7 ∷ 0 ∷ 0 ∷ 0 ∷ 0 ∷ 0 ∷ 9 ∷ [])
unfolding check_from remainder
generator_added = refl

zero_bytes : crc_of (replicate 168 0) ≡ 0xF116C36B
unfolding check_from remainder
zero_bytes = refl
