-- Lists of bits as polynomials.
use Rattle.ubi_media.proofs.Prelude.{◌≡◌, ℕ, zero, suc, ◌+◌, ◌*◌, ◌/◌, ◌^◌, ◌<◌, List, [], ◌∷◌, ◌++◌, length, bit_xor, refl, sym, ap, ◌∙◌, arith, replicate, length-append, pow-suc, flat_map, pow-add, xor_block, shl_below, bits, polynomial, add_to_front}
use Rattle.ubi_media.proofs.Xor.{bit_times}

abbrev pub AreBits : List ℕ → Type 0
AreBits [] = Unit {0}
AreBits (x ∷ xs) = (x < 2) × AreBits xs

pub AreBits-bits : (n x : ℕ) → AreBits (bits n x)
AreBits-bits zero x = tt
AreBits-bits (suc n) x = (omega arith, AreBits-bits n (x / 2))

pub AreBits-append : (xs ys : List ℕ) → AreBits xs → AreBits ys → AreBits (xs ++ ys)
AreBits-append [] ys hx hy = hy
AreBits-append (x ∷ xs) ys hx hy = (hx.0, AreBits-append xs ys hx.1 hy)

pub AreBits-zeros : (n : ℕ) → AreBits (replicate n 0)
AreBits-zeros zero = tt
AreBits-zeros (suc n) = (omega arith, AreBits-zeros n)

pub AreBits-bytes : (n : ℕ) (m : List ℕ) → AreBits (flat_map (bits n) m)
AreBits-bytes n [] = tt
AreBits-bytes n (x ∷ m) = AreBits-append (bits n x) (flat_map (bits n) m) (AreBits-bits n x) (AreBits-bytes n m)

pub length-bits : (n x : ℕ) → length (bits n x) ≡ n
length-bits zero x = refl
length-bits (suc n) x = let ih = length-bits n (x / 2) in omega (arith, ih)

pub length-bytes : (n : ℕ) (m : List ℕ) → length (flat_map (bits n) m) ≡ n * length m
length-bytes n [] = omega arith
length-bytes n (x ∷ m) =
    rw (length-append (bits n x) (flat_map (bits n) m), length-bits n x, length-bytes n m) (omega arith)

pub polynomial-lt : (xs : List ℕ) → AreBits xs → polynomial xs < 2 ^ length xs
polynomial-lt [] h = omega arith
polynomial-lt (x ∷ xs) h =
    let ih = polynomial-lt xs h.1 in
    let low : x < 2 = h.0 in
    rw pow-suc (omega (arith, ih, bit_times x (2 ^ length xs) low))

pub polynomial-append : (xs ys : List ℕ) → polynomial (xs ++ ys) ≡ polynomial xs * 2 ^ length ys + polynomial ys
polynomial-append [] ys = omega arith
polynomial-append (x ∷ xs) ys =
    rw (polynomial-append xs ys, length-append xs ys, pow-add 2 (length xs) (length ys)) (omega arith)

pub polynomial-zeros : (n : ℕ) → polynomial (replicate n 0) ≡ 0
polynomial-zeros zero = refl
polynomial-zeros (suc n) = let ih = polynomial-zeros n in omega (arith, ih)

pub length-add_to_front : (xs ys : List ℕ) → length (add_to_front xs ys) ≡ length ys
length-add_to_front [] ys = refl
length-add_to_front (x ∷ xs) [] = refl
length-add_to_front (x ∷ xs) (y ∷ ys) = let ih = length-add_to_front xs ys in omega (arith, ih)

-- a sum at the front is a sum of polynomials
pub polynomial-add_to_front : (d : ℕ) (xs ys : List ℕ) → length ys ≡ length xs + d → AreBits xs → AreBits ys
    → polynomial (add_to_front xs ys) ≡ bit_xor (polynomial xs * 2 ^ d) (polynomial ys)
polynomial-add_to_front d [] ys e hx hy = let z : 0 * 2 ^ d ≡ 0 = omega arith in rw z refl
polynomial-add_to_front d (x ∷ xs) [] e hx hy = absurd (omega (arith, e))
polynomial-add_to_front d (x ∷ xs) (y ∷ ys) e hx hy =
    let e1 : length ys ≡ length xs + d = omega (arith, e) in
    let ih = polynomial-add_to_front d xs ys e1 hx.1 hy.1 in
    let front : polynomial xs * 2 ^ d < 2 ^ length ys =
    rw e1 (shl_below (polynomial xs) (length xs) d (polynomial-lt xs hx.1)) in
    rw (length-add_to_front xs ys, ih)
    (sym (xor_block (length ys) x y (polynomial xs * 2 ^ d) (polynomial ys) front (polynomial-lt ys hy.1))
    ∙ ap (λ (p : ℕ). bit_xor p (y * 2 ^ length ys + polynomial ys)) (rw (e1, pow-add 2 (length xs) d) (omega arith)))
