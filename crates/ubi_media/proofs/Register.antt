-- A register that shifts a bit at a time does the division.
use Rattle.ubi_media.proofs.Prelude.{◌≡◌, ℕ, zero, suc, ◌+◌, ◌*◌, ◌/◌, ◌%◌, ◌^◌, ◌<◌, List, [], ◌∷◌, ◌++◌, length, bit_xor, zero-add, refl, sym, ap, ◌∙◌, arith, mod-eq_of_lt, pow-suc, bit_at, pow-add, xor_lt, xor_comm, mod_below, shl_below, shr_high, bit_at_xor, bit_at_above, bits, polynomial, generator, remainder}
use lib.Bits.{xor_assoc, xor_zero_r}
use Rattle.ubi_media.proofs.Xor.{xor-mod2, xor-div2, xor-scale, xor-above, xor-twice, xor-swap}
use Rattle.ubi_media.proofs.Polynomials.{AreBits, polynomial-lt}
use Rattle.ubi_media.proofs.Mirror.{mirror, mirror-lt, mirror-xor, mirror-twice, mirror-generator, mirror-bit}

pub generator-parts : (b : ℕ) → b < 2 → b * generator ≡ bit_xor (b * 2 ^ 32) (b * 0x04C11DB7)
generator-parts zero h = refl
generator-parts (suc zero) h = refl
generator-parts (suc (suc b)) h = absurd (omega arith)

-- what the register becomes when a bit 0 comes in
abbrev pub step : ℕ → ℕ
step t = bit_xor (t / 2) (t % 2 * 0xEDB88320)

regroup : (a m g : ℕ) → bit_xor a m ≡ bit_xor (bit_xor m g) (bit_xor a g)
regroup a m g =
    sym (
    rw (xor_comm a g, ← xor_assoc (bit_xor m g) g a, xor-twice m g) (xor_comm m a)
    )

pub mirror-step : (t : ℕ) → t < 2 ^ 32 → mirror 32 t * 2 ≡ bit_xor (mirror 32 (step t)) (t % 2 * generator)
mirror-step t h =
    let low : t % 2 < 2 = mod_below t 2 (omega arith) in
    let half : mirror 32 (t / 2) < 2 ^ 32 = mirror-lt 32 (t / 2) in
    mirror-twice 31 t h
    ∙ xor-above (t % 2) 32 (mirror 32 (t / 2)) half
    ∙ regroup (t % 2 * 2 ^ 32) (mirror 32 (t / 2)) (t % 2 * 0x04C11DB7)
    ∙ sym (rw (mirror-xor 32 (t / 2) (t % 2 * 0xEDB88320), mirror-generator (t % 2) low, generator-parts (t % 2) low)
    refl)

pub step-lt : (t : ℕ) → t < 2 ^ 32 → step t < 2 ^ 32
step-lt t h =
    let low : t % 2 < 2 = mod_below t 2 (omega arith) in
    xor_lt 32 (t / 2) (t % 2 * 0xEDB88320) (omega arith) (omega arith)

-- what is left to divide: a register, and w more bits, which are the polynomial p
abbrev pub rest : ℕ → ℕ → ℕ → ℕ
rest s w p = bit_xor (mirror 32 s * 2 ^ w) (p * 2 ^ 32)

rest-front : (b w p : ℕ) → b < 2 → p < 2 ^ w → (b * 2 ^ w + p) * 2 ^ 32 ≡ bit_xor (b * 2 ^ (w + 32)) (p * 2 ^ 32)
rest-front b w p hb hp =
    let below = shl_below p w 32 hp in
    let e : (b * 2 ^ w + p) * 2 ^ 32 ≡ b * 2 ^ (w + 32) + p * 2 ^ 32 = rw (pow-add 2 w 32) (omega arith) in
    e ∙ xor-above b (w + 32) (p * 2 ^ 32) below

rest-mirror : (s b w : ℕ) → b < 2 → mirror 32 (bit_xor s b) * 2 * 2 ^ w
    ≡ bit_xor (mirror 32 s * 2 ^ suc w) (b * 2 ^ (w + 32))
rest-mirror s b w hb =
    let e1 : mirror 32 (bit_xor s b) * 2 * 2 ^ w ≡ mirror 32 (bit_xor s b) * 2 ^ suc w =
    rw (pow-suc 2 w) (omega arith) in
    let e2 : b * 2 ^ 31 * 2 ^ suc w ≡ b * 2 ^ (w + 32) = rw (pow-suc 2 w, pow-add 2 w 32) (omega arith) in
    e1 ∙ rw (mirror-xor 32 s b, mirror-bit 31 b hb) (xor-scale (suc w) (mirror 32 s) (b * 2 ^ 31)
    ∙ ap (λ (q : ℕ). bit_xor (mirror 32 s * 2 ^ suc w) q) e2)

-- one more bit comes in
pub rest-step : (s b w p : ℕ) → s < 2 ^ 32 → b < 2 → p < 2 ^ w
    → rest s (suc w) (b * 2 ^ w + p) ≡ bit_xor (rest (step (bit_xor s b)) w p) (bit_xor s b % 2 * generator * 2 ^ w)
rest-step s b w p hs hb hp =
    let t : ℕ = bit_xor s b in
    let ht : t < 2 ^ 32 = xor_lt 32 s b hs (omega arith) in
    ap (λ (q : ℕ). bit_xor (mirror 32 s * 2 ^ suc w) q) (rest-front b w p hb hp)
    ∙ sym (xor_assoc (mirror 32 s * 2 ^ suc w) (b * 2 ^ (w + 32)) (p * 2 ^ 32))
    ∙ ap (λ (q : ℕ). bit_xor q (p * 2 ^ 32)) (sym (rest-mirror s b w hb) ∙ ap (λ (q : ℕ). q * 2 ^ w) (mirror-step t ht)
    ∙ xor-scale w (mirror 32 (step t)) (t % 2 * generator))
    ∙ xor-swap (mirror 32 (step t) * 2 ^ w) (t % 2 * generator * 2 ^ w) (p * 2 ^ 32)

-- what is left has no coefficient from x^(32 + w) on
pub rest-lt : (s w p : ℕ) → p < 2 ^ w → rest s w p < 2 ^ (w + 32)
rest-lt s w p hp =
    let a = shl_below (mirror 32 s) 32 w (mirror-lt 32 s) in
    let e : 32 + w ≡ w + 32 = omega arith in
    xor_lt (w + 32) (mirror 32 s * 2 ^ w) (p * 2 ^ 32) (rw (← e) a) (shl_below p w 32 hp)

-- the coefficient that a step takes off
pub rest-top : (s b w p : ℕ) → s < 2 ^ 32 → b < 2 → p < 2 ^ w
    → bit_at (rest s (suc w) (b * 2 ^ w + p)) (32 + w) ≡ bit_xor s b % 2
rest-top s b w p hs hb hp =
    let t : ℕ = bit_xor s b in
    let ht : t < 2 ^ 32 = xor_lt 32 s b hs (omega arith) in
    let c : ℕ = t % 2 in
    let low : c < 2 = mod_below t 2 (omega arith) in
    let r : ℕ = rest (step t) w p in
    let below : r < 2 ^ (32 + w) = let e : w + 32 ≡ 32 + w = omega arith in rw e at (rest-lt (step t) w p hp) in
    let tail : c * 0x04C11DB7 * 2 ^ w < 2 ^ (32 + w) = shl_below (c * 0x04C11DB7) 32 w (omega arith) in
    let parts : c * generator * 2 ^ w ≡ c * 2 ^ (32 + w) + c * 0x04C11DB7 * 2 ^ w = rw (pow-add 2 32 w) (omega arith) in
    let high : c * generator * 2 ^ w / 2 ^ (32 + w) ≡ c =
    rw parts (shr_high c (32 + w) (c * 0x04C11DB7 * 2 ^ w) tail) in
    let none : bit_at r (32 + w) ≡ 0 = bit_at_above r (32 + w) (32 + w) below (omega arith) in
    let bit : bit_at (c * generator * 2 ^ w) (32 + w) ≡ c = rw high (mod-eq_of_lt low) in
    let both = bit_at_xor r (c * generator * 2 ^ w) (32 + w) in
    ap (λ (q : ℕ). bit_at q (32 + w)) (rest-step s b w p hs hb hp)
    ∙ both ∙ rw (none, bit, zero-add c) (mod-eq_of_lt low)

-- the register after bits
pub run : ℕ → List ℕ → ℕ
run s [] = s
run s (b ∷ bs) = run (step (bit_xor s b)) bs

-- the division leaves the register
pub remainder-run : (bs : List ℕ) (s : ℕ) → s < 2 ^ 32 → AreBits bs
    → remainder (length bs) (rest s (length bs) (polynomial bs)) ≡ mirror 32 (run s bs)
unfolding run remainder
remainder-run [] s hs h =
    let one : mirror 32 s * 1 ≡ mirror 32 s = omega arith in
    xor_zero_r (mirror 32 s * 1) ∙ one
remainder-run (b ∷ bs) s hs h =
    let p : ℕ = polynomial bs in
    let w : ℕ = length bs in
    let below = polynomial-lt bs h.1 in
    let t : ℕ = bit_xor s b in
    let low : b < 2 = h.0 in
    let ht : t < 2 ^ 32 = xor_lt 32 s b hs (omega arith) in
    ap (λ (c : ℕ). remainder w (bit_xor (rest s (suc w) (b * 2 ^ w + p)) (c * generator * 2 ^ w)))
    (rest-top s b w p hs h.0 below)
    ∙ ap (λ (q : ℕ). remainder w (bit_xor q (t % 2 * generator * 2 ^ w))) (rest-step s b w p hs h.0 below)
    ∙ ap (remainder w) (xor-twice (rest (step t) w p) (t % 2 * generator * 2 ^ w))
    ∙ remainder-run bs (step t) (step-lt t ht) h.1

-- the register after n bits 0
unfoldable pub steps : ℕ → ℕ → ℕ
steps zero s = s
steps (suc n) s = steps n (step s)

pub steps-more : (m n s : ℕ) → steps (m + n) s ≡ steps n (steps m s)
unfolding steps
steps-more zero n s = ap (λ k. steps k s) (zero-add n)
steps-more (suc m) n s =
    let e : suc m + n ≡ suc (m + n) = omega arith in
    ap (λ k. steps k s) e ∙ steps-more m n (step s)

-- a bit that comes in stands in the register's lowest place, and those after it follow
pub step-xor : (s x : ℕ) → step (bit_xor s x) ≡ bit_xor (step (bit_xor s (x % 2))) (x / 2)
step-xor s x =
    let e1 : x % 2 / 2 ≡ 0 = omega arith in
    let e2 : x % 2 % 2 ≡ x % 2 = omega arith in
    rw (xor-div2 s x, xor-mod2 s x, xor-div2 s (x % 2), xor-mod2 s (x % 2), e1, e2, xor_zero_r (s / 2))
    (xor-swap (s / 2) (x / 2) (bit_xor (s % 2) (x % 2) * 0xEDB88320))

pub run-bits : (n s x : ℕ) → x < 2 ^ n → run s (bits n x) ≡ steps n (bit_xor s x)
unfolding run steps
run-bits zero s x h = let e : x ≡ 0 = omega arith in rw e (sym (xor_zero_r s))
run-bits (suc n) s x h =
    let below : x / 2 < 2 ^ n = let h2 = rw pow-suc at h in omega (arith, h2) in
    rw (step-xor s x) (run-bits n (step (bit_xor s (x % 2))) (x / 2) below)

pub run-empty : (s : ℕ) → run s [] ≡ s
unfolding run
run-empty s = refl

pub run-append : (xs ys : List ℕ) (s : ℕ) → run s (xs ++ ys) ≡ run (run s xs) ys
unfolding run
run-append [] ys s = refl
run-append (x ∷ xs) ys s = run-append xs ys (step (bit_xor s x))

pub run-lt : (bs : List ℕ) (s : ℕ) → s < 2 ^ 32 → AreBits bs → run s bs < 2 ^ 32
unfolding run
run-lt [] s hs h = hs
run-lt (b ∷ bs) s hs h =
    let low : b < 2 = h.0 in
    run-lt bs (step (bit_xor s b)) (step-lt (bit_xor s b) (xor_lt 32 s b hs (omega arith))) h.1
