-- Sums of polynomials, bit by bit.
use Rattle.ubi_media.proofs.Prelude.{◌≡◌, ℕ, ◌+◌, ◌*◌, ◌/◌, ◌%◌, ◌^◌, ◌<◌, ◌≤◌, bit_xor, sym, ap, ◌∙◌, arith, mul-le-mul_right, pow_pos, xor_shr, xor_mod, xor_block, xor_comm}
use lib.Bits.{xor_assoc, xor_shifted, xor_self, xor_zero_r}

-- a bit times a number is at most the number
pub bit_times : (b p : ℕ) → b < 2 → b * p ≤ p
bit_times b p h = omega (arith, mul-le-mul_right {m = b} {n = 1} p (omega arith))

-- the two halves of a sum of bits
pub xor-mod2 : (a b : ℕ) → bit_xor a b % 2 ≡ bit_xor (a % 2) (b % 2)
xor-mod2 a b = xor_mod a b 1

pub xor-div2 : (a b : ℕ) → bit_xor a b / 2 ≡ bit_xor (a / 2) (b / 2)
xor-div2 a b = xor_shr a b 1

pub xor-scale : (k a b : ℕ) → bit_xor a b * 2 ^ k ≡ bit_xor (a * 2 ^ k) (b * 2 ^ k)
xor-scale k a b =
    let h = xor_block k a b 0 0 (pow_pos k) (pow_pos k) in
    let za : a * 2 ^ k + 0 ≡ a * 2 ^ k = omega arith in
    let zb : b * 2 ^ k + 0 ≡ b * 2 ^ k = omega arith in
    let zc : bit_xor a b * 2 ^ k + bit_xor 0 0 ≡ bit_xor a b * 2 ^ k = omega arith in
    sym (rw (za, zb, zc) at h)

-- a bit above others is a sum
pub xor-above : (a k b : ℕ) → b < 2 ^ k → a * 2 ^ k + b ≡ bit_xor (a * 2 ^ k) b
xor-above a k b h = sym (xor_shifted a k b h)

-- what is added twice is nothing
pub xor-twice : (a b : ℕ) → bit_xor (bit_xor a b) b ≡ a
xor-twice a b = rw (xor_assoc a b b, xor_self b) (xor_zero_r a)

-- three in another order
pub xor-swap : (x y p : ℕ) → bit_xor (bit_xor x y) p ≡ bit_xor (bit_xor x p) y
xor-swap x y p = xor_assoc x y p ∙ ap (λ (q : ℕ). bit_xor x q) (xor_comm y p) ∙ sym (xor_assoc x p y)

-- four in another order
pub xor-four : (a b c d : ℕ) → bit_xor (bit_xor a b) (bit_xor c d) ≡ bit_xor (bit_xor a c) (bit_xor b d)
xor-four a b c d =
    sym (xor_assoc (bit_xor a b) c d) ∙ ap (λ (q : ℕ). bit_xor q d) (xor-swap a b c) ∙ xor_assoc (bit_xor a c) b d
