-- Words of hexadecimal digits: how many bytes they stand for.
use Rattle.ubi_compose.proofs.Prelude.{◌≡◌, ◌≤◌, ℕ, ◌+◌, ◌*◌, Bool, true, false, cond, ◌==◌, List, [], ◌∷◌, length, refl, arith, Option, Some, None, Ok, Err, Result, slice_index, option_and_then, option_map, result_ok, nat_tests, decode_of-ok, ◌>>=◌, decode_of, decode_pairs, digit_or_error, hex_digit_value, FromHexError, flags_of, hex_of, only_byte, escaped_byte}
use Rattle.std.specs.Prelude.{not}

given_ok : (r : Result (List ℕ) FromHexError) (bytes : List ℕ) → result_ok r ≡ Some bytes → r ≡ Ok bytes
given_ok (Ok other) bytes h = cc
given_ok (Err e) bytes h = absurd (cc)

long_by : (word bytes : List ℕ) (b : Bool) → (length word == 0) ≡ b
    → cond b None (result_ok (decode_of word)) ≡ Some bytes
    → (length word ≡ 2 * length bytes) × (1 ≤ length word)
long_by word bytes true e h = absurd (cc)
long_by word bytes false e h =
    let d = decode_of-ok word bytes (given_ok (decode_of word) bytes h) in (d.2, grind (arith, nat_tests))

pub hex_length : (word bytes : List ℕ) → hex_of word ≡ Some bytes → (length word ≡ 2 * length bytes) × (1 ≤ length word)
unfolding hex_of
hex_length word bytes h = long_by word bytes (length word == 0) refl h

-- some byte is written
pub hex_filled : (word bytes : List ℕ) → hex_of word ≡ Some bytes → not (length bytes == 0) ≡ true
hex_filled word bytes h = let l = hex_length word bytes h in grind (arith, nat_tests)

flags_by : (h l : ℕ) (a b : Option ℕ)
    → option_and_then only_byte
    (result_ok ((digit_or_error h 0 a >>= (λ x. digit_or_error l 1 b >>= (λ y. Ok (x * 16 + y)))) >>=
    (λ byte. Ok (byte ∷ []))))
    ≡ option_and_then (λ x. option_map (λ y. x * 16 + y) b) a
flags_by h l None b = refl
flags_by h l (Some x) None = refl
flags_by h l (Some x) (Some y) = refl

flags_pair : (h l : ℕ) → flags_of (h ∷ l ∷ []) ≡ escaped_byte h l
unfolding flags_of hex_of decode_pairs
flags_pair h l = flags_by h l (hex_digit_value h) (hex_digit_value l)

pub flags_two : (word : List ℕ) → length word ≡ 2 → flags_of word ≡ escaped_byte (slice_index word 0) (slice_index word 1)
flags_two [] h = absurd (omega arith)
flags_two (a ∷ []) h = absurd (omega arith)
flags_two (a ∷ b ∷ []) h = flags_pair a b
flags_two (a ∷ b ∷ c ∷ word) h = absurd (omega arith)

no_flags_by : (word : List ℕ) (o : Option (List ℕ)) → hex_of word ≡ o → (length word ≡ 2 → ⊥)
    → option_and_then only_byte o ≡ None
no_flags_by word None e other = refl
no_flags_by word (Some bytes) e other =
    let l = hex_length word bytes e in
    let t : (length bytes == 1) ≡ false = grind (arith, nat_tests) in rw t refl

pub no_flags : (word : List ℕ) → (length word ≡ 2 → ⊥) → flags_of word ≡ None
unfolding flags_of
no_flags word other = no_flags_by word (hex_of word) refl other
