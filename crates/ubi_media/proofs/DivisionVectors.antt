-- The definitions of the division of pieces on literals.
use Rattle.ubi_media.proofs.Prelude.{◌≡◌, ℕ, List, [], ◌∷◌, ◌++◌, ◌+◌, replicate, refl, arith, check_from, word_at, sum_behind, left_of, bytes_of, Carries}

words : List (List ℕ)
words = (1 ∷ 2 ∷ 3 ∷ 4 ∷ 5 ∷ 6 ∷ 7 ∷ 8 ∷ []) ∷ (0xFF ∷ 0 ∷ 0 ∷ 0 ∷ 0 ∷ 0 ∷ 0 ∷ 0x80 ∷ []) ∷ []

lowest_byte_first : word_at words 0 ≡ 0x0807060504030201
unfolding words
lowest_byte_first = refl

second_word : word_at words 1 ≡ 0x80000000000000FF
unfolding words
second_word = refl

-- 5 at the place itself and 12 two places behind it
two_of_three : sum_behind (2 ∷ 0 ∷ []) (5 ∷ 9 ∷ 12 ∷ []) 0 ≡ 9
two_of_three = refl

none_behind_the_end : sum_behind (2 ∷ 1 ∷ []) (5 ∷ 9 ∷ 12 ∷ []) 2 ≡ 0
none_behind_the_end = refl

-- a quotient with words where those of the divisor's terms stand, seen from place 0: 0, 28, 59, 202 and 236
terms : List ℕ
terms =
    (0x01 ∷ replicate 27 0) ++ (0x02 ∷ replicate 30 0) ++ (0x04 ∷ replicate 142 0) ++ (0x08 ∷ replicate 33 0)
    ++ (0x10 ∷ 0x20 ∷ [])

five_terms_taken_off : left_of words terms 0 ≡ 0x080706050403021E
unfolding words terms
five_terms_taken_off = refl

one_place_on : left_of words terms 1 ≡ 0x80000000000000DF
unfolding words terms
one_place_on = refl

two_words : bytes_of (λ k. k + 0x0201) 2
    ≡ 0x01 ∷ 0x02 ∷ 0 ∷ 0 ∷ 0 ∷ 0 ∷ 0 ∷ 0 ∷ 0x02 ∷ 0x02 ∷ 0 ∷ 0 ∷ 0 ∷ 0 ∷ 0 ∷ 0 ∷ []
unfolding bytes_of
two_words = refl

-- a state that stands first is carried
state_alone : Carries (0x12345678 ∷ []) 0x12345678
unfolding bytes_of check_from
state_alone = record { fits = omega arith; after = refl }
