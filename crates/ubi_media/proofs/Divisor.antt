-- The divisor of the pieces of a long message is a multiple of the generator.
use Rattle.ubi_media.proofs.Prelude.{◌≡◌, ℕ, zero, suc, ◌+◌, ◌*◌, ◌/◌, ◌%◌, ◌^◌, ◌<◌, List, [], ◌∷◌, bit_xor, refl, sym, ap, ◌∙◌, arith, pow-suc, div-lt_iff_lt-mul, mod_below, pow_pos, shr_split, powers}
use lib.Bits.{xor_shifted, xor_zero_r}
use Rattle.ubi_media.proofs.Fed.{steps-first, steps-none, steps-zero}
use Rattle.ubi_media.proofs.Register.{step, steps, steps-more}
use Rattle.ubi_media.proofs.Table.{step-sum, steps-sum}
use Rattle.ubi_media.proofs.Xor.{xor-four}

-- the sum of the registers after so many words 0
unfoldable pub shifts : List ℕ → ℕ → ℕ
shifts [] r = 0
shifts (d ∷ ds) r = bit_xor (steps (64 * d) r) (shifts ds r)

shifts-sum : (ds : List ℕ) (a b : ℕ) → shifts ds (bit_xor a b) ≡ bit_xor (shifts ds a) (shifts ds b)
unfolding shifts
shifts-sum [] a b = refl
shifts-sum (d ∷ ds) a b =
    ap (λ q. bit_xor q (shifts ds (bit_xor a b))) (steps-sum (64 * d) a b)
    ∙ ap (bit_xor (bit_xor (steps (64 * d) a) (steps (64 * d) b))) (shifts-sum ds a b)
    ∙ xor-four (steps (64 * d) a) (steps (64 * d) b) (shifts ds a) (shifts ds b)

shifts-zero : (ds : List ℕ) → shifts ds 0 ≡ 0
unfolding shifts
shifts-zero [] = refl
shifts-zero (d ∷ ds) = rw (steps-zero (64 * d), shifts-zero ds) refl

steps-one : (s : ℕ) → steps 1 s ≡ step s
unfolding steps
steps-one s = refl

-- a step may come before or after others
steps-step : (n s : ℕ) → steps n (step s) ≡ step (steps n s)
steps-step n s =
    let e : suc n ≡ n + 1 = omega arith in
    sym (steps-first n s) ∙ ap (λ k. steps k s) e ∙ steps-more n 1 s ∙ steps-one (steps n s)

shifts-step : (ds : List ℕ) (r : ℕ) → shifts ds (step r) ≡ step (shifts ds r)
unfolding shifts
shifts-step [] r = refl
shifts-step (d ∷ ds) r =
    ap (λ q. bit_xor q (shifts ds (step r))) (steps-step (64 * d) r)
    ∙ ap (bit_xor (step (steps (64 * d) r))) (shifts-step ds r)
    ∙ sym (step-sum (steps (64 * d) r) (shifts ds r))

-- the powers of x^64 in the divisor
abbrev pub divisor : List ℕ
divisor = 252 ∷ powers

-- the register of 1 after so many words 0, worked out
after_28 : steps (64 * 28) 0x80000000 ≡ 0x6B1D2B53
unfolding steps
after_28 = refl

after_59 : steps (64 * 31) 0x6B1D2B53 ≡ 0xBC9ED98E
unfolding steps
after_59 = refl

after_202 : steps (64 * 143) 0xBC9ED98E ≡ 0x2FC9C253
unfolding steps
after_202 = refl

after_236 : steps (64 * 34) 0x2FC9C253 ≡ 0x5A104E27
unfolding steps
after_236 = refl

after_252 : steps (64 * 16) 0x5A104E27 ≡ 0x225A7EA9
unfolding steps
after_252 = refl

-- a register after so many words 0, and after more
after_more : (a b s t r : ℕ) → steps (64 * a) s ≡ t → steps (64 * b) t ≡ r → steps (64 * (a + b)) s ≡ r
after_more a b s t r first more =
    let e : 64 * (a + b) ≡ 64 * a + 64 * b = omega arith in
    ap (λ k. steps k s) e ∙ steps-more (64 * a) (64 * b) s ∙ ap (steps (64 * b)) first ∙ more

-- the divisor is a multiple of the generator: its remainder, the register of 1 for each of its powers, is none
divisor-of-one : shifts divisor 0x80000000 ≡ 0
unfolding shifts
divisor-of-one =
    let to_59 = after_more 28 31 _ _ _ after_28 after_59 in
    let to_202 = after_more 59 143 _ _ _ to_59 after_202 in
    let to_236 = after_more 202 34 _ _ _ to_202 after_236 in
    let to_252 = after_more 236 16 _ _ _ to_236 after_252 in
    rw (to_252, to_236, to_202, to_59, after_28, steps-none 0x80000000) refl

-- a step makes of a power of x the next
step-power : (i : ℕ) → step (2 ^ suc i) ≡ 2 ^ i
step-power i =
    let half : 2 ^ suc i / 2 ≡ 2 ^ i = rw (pow-suc 2 i) (omega arith) in
    let low : 2 ^ suc i % 2 ≡ 0 = rw (pow-suc 2 i) (omega arith) in
    rw (half, low) (xor_zero_r (2 ^ i))

divisor-of-power : (i j : ℕ) → i + j ≡ 31 → shifts divisor (2 ^ i) ≡ 0
divisor-of-power i zero e = let top : i ≡ 31 = omega arith in rw top divisor-of-one
divisor-of-power i (suc j) e =
    ap (shifts divisor) (sym (step-power i))
    ∙ shifts-step divisor (2 ^ suc i)
    ∙ ap step (divisor-of-power (suc i) j (omega arith))

divisor-of-bit : (b i j : ℕ) → b < 2 → i + j ≡ 31 → shifts divisor (b * 2 ^ i) ≡ 0
divisor-of-bit zero i j h e =
    let none : 0 * 2 ^ i ≡ 0 = omega arith in ap (shifts divisor) none ∙ shifts-zero divisor
divisor-of-bit (suc zero) i j h e =
    let one : 1 * 2 ^ i ≡ 2 ^ i = omega arith in ap (shifts divisor) one ∙ divisor-of-power i j e
divisor-of-bit (suc (suc b)) i j h e = absurd (omega arith)

-- and so of every register
pub divisor-of : (n j r : ℕ) → n + j ≡ 32 → r < 2 ^ n → shifts divisor r ≡ 0
divisor-of zero j r e h = let none : r ≡ 0 = omega arith in ap (shifts divisor) none ∙ shifts-zero divisor
divisor-of (suc n) j r e h =
    let low : r % 2 ^ n < 2 ^ n = mod_below r (2 ^ n) (pow_pos n) in
    let twice : r < 2 * 2 ^ n = let most = rw (pow-suc 2 n) at h in omega (arith, most) in
    let high : r / 2 ^ n < 2 = (div-lt_iff_lt-mul (pow_pos n)).1 twice in
    let parts : bit_xor (r / 2 ^ n * 2 ^ n) (r % 2 ^ n) ≡ r = xor_shifted (r / 2 ^ n) n (r % 2 ^ n) low ∙ shr_split r n in
    ap (shifts divisor) (sym parts)
    ∙ shifts-sum divisor (r / 2 ^ n * 2 ^ n) (r % 2 ^ n)
    ∙ rw (divisor-of-bit (r / 2 ^ n) n j high (omega arith), divisor-of n (suc j) (r % 2 ^ n) (omega arith) low) refl
