-- Lists of bytes: what is put together from bytes and taken out of them are bytes, and a field of four has 32 bits.
use Rattle.ubi_media.proofs.Prelude.{ℕ, zero, suc, ◌+◌, ◌-◌, ◌^◌, ◌<◌, List, [], ◌∷◌, ◌++◌, get_or, take, drop, arith, big_from-lt, AreBytes, blank, field}
use Rattle.std.specs.Prelude.{slice_index}

pub bytes-append : (xs ys : List ℕ) → AreBytes xs → AreBytes ys → AreBytes (xs ++ ys)
bytes-append [] ys a b = b
bytes-append (x ∷ xs) ys a b = (a.0, bytes-append xs ys a.1 b)

pub bytes-blank : (n : ℕ) → AreBytes (blank n)
bytes-blank zero = tt
bytes-blank (suc n) = (omega arith, bytes-blank n)

pub bytes-take : (n : ℕ) (xs : List ℕ) → AreBytes xs → AreBytes (take n xs)
bytes-take zero xs a = tt
bytes-take (suc n) [] a = tt
bytes-take (suc n) (x ∷ xs) a = (a.0, bytes-take n xs a.1)

pub bytes-drop : (n : ℕ) (xs : List ℕ) → AreBytes xs → AreBytes (drop n xs)
bytes-drop zero xs a = a
bytes-drop (suc n) [] a = tt
bytes-drop (suc n) (x ∷ xs) a = bytes-drop n xs a.1

-- bytes are bytes at each place, and the other way round
pub bytes_each : (xs : List ℕ) → ((i : ℕ) → get_or xs i 0 < 256) → AreBytes xs
bytes_each [] h = tt
bytes_each (x ∷ xs) h = (h 0, bytes_each xs (λ i. h (suc i)))

pub byte_in : (xs : List ℕ) → AreBytes xs → (i : ℕ) → slice_index xs i < 256
byte_in [] a i = omega arith
byte_in (x ∷ xs) a zero = a.0
byte_in (x ∷ xs) a (suc i) = byte_in xs a.1 i

pub field_narrow : (at : ℕ) (xs : List ℕ) → AreBytes xs → field 4 at xs < 2 ^ 32
field_narrow at xs a =
    let part : List ℕ = take (at + 4 - at) (drop at xs) in
    big_from-lt 0 4 part (byte_in part (bytes-take (at + 4 - at) (drop at xs) (bytes-drop at xs a)))
