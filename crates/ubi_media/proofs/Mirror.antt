-- The bits of a number in the opposite order.
use Rattle.ubi_media.proofs.Prelude.{◌≡◌, ℕ, zero, suc, ◌+◌, ◌*◌, ◌/◌, ◌%◌, ◌^◌, ◌<◌, bit_xor, refl, sym, arith, mod-lt, mod-eq_of_lt, div-eq_of_lt, pow-suc, bit_at, pow_pos, xor_block, shr_split, shr_below, mod-pow-add, bit_at-lt, bit_at_lowest, bit_at-suc, bits, polynomial}
use Rattle.ubi_media.proofs.Xor.{bit_times, xor-mod2, xor-div2}
use Rattle.ubi_media.proofs.Polynomials.{length-bits}

-- the lowest n bits of x in the opposite order
pub mirror : ℕ → ℕ → ℕ
mirror zero x = 0
mirror (suc n) x = x % 2 * 2 ^ n + mirror n (x / 2)

pub polynomial-bits : (n x : ℕ) → polynomial (bits n x) ≡ mirror n x
unfolding mirror
polynomial-bits zero x = refl
polynomial-bits (suc n) x = rw (length-bits n (x / 2), polynomial-bits n (x / 2)) refl

pub mirror-suc : (n x : ℕ) → mirror (suc n) x ≡ x % 2 * 2 ^ n + mirror n (x / 2)
unfolding mirror
mirror-suc n x = refl

pub mirror-nothing : (x : ℕ) → mirror 0 x ≡ 0
unfolding mirror
mirror-nothing x = refl

pub mirror-zero : (n : ℕ) → mirror n 0 ≡ 0
unfolding mirror
mirror-zero zero = refl
mirror-zero (suc n) = rw (mirror-zero n) (omega arith)

pub mirror-lt : (n x : ℕ) → mirror n x < 2 ^ n
unfolding mirror
mirror-lt zero x = omega arith
mirror-lt (suc n) x =
    let ih = mirror-lt n (x / 2) in
    let low : x % 2 < 2 = omega arith in
    rw pow-suc (omega (arith, ih, bit_times (x % 2) (2 ^ n) low))

pub mirror-xor : (n a b : ℕ) → mirror n (bit_xor a b) ≡ bit_xor (mirror n a) (mirror n b)
unfolding mirror
mirror-xor zero a b = refl
mirror-xor (suc n) a b =
    rw (xor-mod2 a b, xor-div2 a b, mirror-xor n (a / 2) (b / 2))
    (sym (xor_block n (a % 2) (b % 2) (mirror n (a / 2)) (mirror n (b / 2)) (mirror-lt n (a / 2))
    (mirror-lt n (b / 2))))

-- the mirror of a number that leaves its highest bit free
pub mirror-short : (n x : ℕ) → x < 2 ^ n → mirror (suc n) x ≡ mirror n x * 2
unfolding mirror
mirror-short zero x h = let e : x ≡ 0 = omega arith in rw e refl
mirror-short (suc n) x h =
    let below : x / 2 < 2 ^ n = let h2 = rw pow-suc at h in omega (arith, h2) in
    let ih = mirror-short n (x / 2) below in
    rw (pow-suc 2 n, ih) (omega arith)

pub mirror-twice : (n t : ℕ) → t < 2 ^ suc n → mirror (suc n) t * 2 ≡ t % 2 * 2 ^ suc n + mirror (suc n) (t / 2)
mirror-twice n t h =
    let below : t / 2 < 2 ^ n = let h2 = rw pow-suc at h in omega (arith, h2) in
    rw (mirror-suc n t, mirror-short n (t / 2) below, pow-suc 2 n) (omega arith)

-- the generator's lower 32 coefficients, and the same from the lowest power up, as the code has them
pub mirror-generator : (b : ℕ) → b < 2 → mirror 32 (b * 0xEDB88320) ≡ b * 0x04C11DB7
unfolding mirror
mirror-generator zero h = refl
mirror-generator (suc zero) h = refl
mirror-generator (suc (suc b)) h = absurd (omega arith)

pub mirror-bit : (n b : ℕ) → b < 2 → mirror (suc n) b ≡ b * 2 ^ n
mirror-bit n b h =
    let low : b % 2 ≡ b = mod-eq_of_lt h in
    let high : b / 2 ≡ 0 = div-eq_of_lt h in
    rw (mirror-suc n b, low, high, mirror-zero n) (omega arith)

-- the mirror from its other end
pub mirror-end : (n x : ℕ) → mirror (suc n) x ≡ mirror n (x % 2 ^ n) * 2 + bit_at x n
mirror-end zero x = rw (mirror-suc 0 x, bit_at_lowest x, mirror-nothing (x / 2), mirror-nothing (x % 1)) (omega arith)
mirror-end (suc n) x =
    let parts : x % 2 ^ (n + 1) ≡ (x / 2 % 2 ^ n) * 2 + x % 2 = mod-pow-add x n 1 in
    let e : n + 1 ≡ suc n = omega arith in
    let parts2 : x % 2 ^ suc n ≡ (x / 2 % 2 ^ n) * 2 + x % 2 = rw e at parts in
    let half : x % 2 ^ suc n / 2 ≡ x / 2 % 2 ^ n = omega (arith, parts2) in
    let low : x % 2 ^ suc n % 2 ≡ x % 2 = omega (arith, parts2) in
    rw (
      mirror-suc (suc n) x,
      mirror-suc n (x % 2 ^ suc n),
      half,
      low,
      mirror-end n (x / 2),
      bit_at-suc x n,
      pow-suc 2 n,
    ) (omega arith)

-- the mirror of a mirror
pub mirror-mirror : (n x : ℕ) → x < 2 ^ n → mirror n (mirror n x) ≡ x
mirror-mirror zero x h = rw (mirror-nothing (mirror 0 x)) (omega arith)
mirror-mirror (suc n) x h =
    let end = mirror-end n x in
    let top : bit_at x n < 2 = bit_at-lt x n in
    let half : mirror (suc n) x / 2 ≡ mirror n (x % 2 ^ n) = omega (arith, end, top) in
    let low : mirror (suc n) x % 2 ≡ bit_at x n = omega (arith, end, top) in
    let small : x / 2 ^ n < 2 = let h2 : x < 2 ^ (1 + n) = let e : 1 + n ≡ suc n = omega arith in rw e h in
    shr_below x 1 n h2 in
    let bit : bit_at x n ≡ x / 2 ^ n = mod-eq_of_lt small in
    let ih = mirror-mirror n (x % 2 ^ n) (mod-lt x (pow_pos n)) in
    rw (mirror-suc n (mirror (suc n) x), half, low, ih, bit) (shr_split x n)
