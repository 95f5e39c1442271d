-- The register that is fed words of eight bytes, each as one number: sums, zeros, and places that are shifted.
use Rattle.ubi_media.proofs.Prelude.{◌≡◌, ℕ, zero, suc, ◌+◌, ◌*◌, ◌/◌, ◌%◌, ◌^◌, ◌<◌, ◌≤◌, [], ◌∷◌, get_or, bit_xor, refl, sym, ap, ◌∙◌, arith, pow-suc, add_comm, pow_mono, mod_below, xor_lt}
use lib.Bits.{xor_zero_l, xor_zero_r}
use Rattle.ubi_media.proofs.Register.{step, steps, steps-more}
use Rattle.ubi_media.proofs.Table.{steps-sum, steps-high}
use Rattle.ubi_media.proofs.Xor.{xor-four}

-- the register after n words, from a state
unfoldable pub fed : ℕ → (ℕ → ℕ) → ℕ → ℕ
fed s f zero = s
fed s f (suc n) = steps 64 (bit_xor (fed s f n) (f n))

pub fed-none : (s : ℕ) (f : ℕ → ℕ) → fed s f 0 ≡ s
unfolding fed
fed-none s f = refl

pub fed-more : (s : ℕ) (f : ℕ → ℕ) (n : ℕ) → fed s f (suc n) ≡ steps 64 (bit_xor (fed s f n) (f n))
unfolding fed
fed-more s f n = refl

pub fed-same : (s : ℕ) (f g : ℕ → ℕ) (n : ℕ) → ((k : ℕ) → k < n → f k ≡ g k) → fed s f n ≡ fed s g n
fed-same s f g zero h = fed-none s f ∙ sym (fed-none s g)
fed-same s f g (suc n) h =
    fed-more s f n
    ∙ ap (λ q. steps 64 (bit_xor q (f n))) (fed-same s f g n (λ k below. h k (omega arith)))
    ∙ ap (λ q. steps 64 (bit_xor (fed s g n) q)) (h n (omega arith))
    ∙ sym (fed-more s g n)

-- the register of a sum is the sum of the registers
pub fed-sum : (s t : ℕ) (f g : ℕ → ℕ) (n : ℕ)
    → fed (bit_xor s t) (λ k. bit_xor (f k) (g k)) n ≡ bit_xor (fed s f n) (fed t g n)
fed-sum s t f g zero =
    fed-none (bit_xor s t) (λ k. bit_xor (f k) (g k)) ∙ sym (rw (fed-none s f, fed-none t g) refl)
fed-sum s t f g (suc n) =
    fed-more (bit_xor s t) (λ k. bit_xor (f k) (g k)) n
    ∙ ap (λ q. steps 64 (bit_xor q (bit_xor (f n) (g n)))) (fed-sum s t f g n)
    ∙ ap (steps 64) (xor-four (fed s f n) (fed t g n) (f n) (g n))
    ∙ steps-sum 64 (bit_xor (fed s f n) (f n)) (bit_xor (fed t g n) (g n))
    ∙ sym (rw (fed-more s f n, fed-more t g n) refl)

pub fed-parts : (s : ℕ) (f : ℕ → ℕ) (n m : ℕ) → fed s f (n + m) ≡ fed (fed s f n) (λ k. f (n + k)) m
fed-parts s f n zero =
    let e : n + zero ≡ n = omega arith in ap (fed s f) e ∙ sym (fed-none (fed s f n) (λ k. f (n + k)))
fed-parts s f n (suc m) =
    let e : n + suc m ≡ suc (n + m) = omega arith in
    ap (fed s f) e
    ∙ fed-more s f (n + m)
    ∙ ap (λ q. steps 64 (bit_xor q (f (n + m)))) (fed-parts s f n m)
    ∙ sym (fed-more (fed s f n) (λ k. f (n + k)) m)

pub steps-none : (s : ℕ) → steps 0 s ≡ s
unfolding steps
steps-none s = refl

pub steps-zero : (n : ℕ) → steps n 0 ≡ 0
steps-zero n = let e : 0 * 2 ^ n ≡ 0 = omega arith in ap (steps n) (sym e) ∙ steps-high n 0

fed-zeros : (s : ℕ) (f : ℕ → ℕ) (n : ℕ) → ((k : ℕ) → k < n → f k ≡ 0) → fed s f n ≡ steps (64 * n) s
fed-zeros s f zero h = fed-none s f ∙ sym (steps-none s)
fed-zeros s f (suc n) h =
    let e : 64 * n + 64 ≡ 64 * suc n = omega arith in
    let last : f n ≡ 0 = h n (omega arith) in
    fed-more s f n
    ∙ ap (λ q. steps 64 (bit_xor (fed s f n) q)) last
    ∙ ap (steps 64) (xor_zero_r (fed s f n) ∙ fed-zeros s f n (λ k below. h k (omega arith)))
    ∙ sym (steps-more (64 * n) 64 s)
    ∙ ap (λ k. steps k s) e

pub fed-nothing : (f : ℕ → ℕ) (n : ℕ) → ((k : ℕ) → k < n → f k ≡ 0) → fed 0 f n ≡ 0
fed-nothing f n h = fed-zeros 0 f n h ∙ steps-zero (64 * n)

-- words that come earlier by so many places, where nothing is lost: the register goes on over as many zeros
pub fed-earlier : (f : ℕ → ℕ) (n d : ℕ) → ((k : ℕ) → k < d → f k ≡ 0) → ((k : ℕ) → n ≤ k → f k ≡ 0)
    → fed 0 (λ k. f (k + d)) n ≡ steps (64 * d) (fed 0 f n)
fed-earlier f n d before behind =
    fed-same 0 (λ k. f (k + d)) (λ k. f (d + k)) n (λ k below. ap f (add_comm k d))
    ∙ ap (λ s. fed s (λ k. f (d + k)) n) (sym (fed-nothing f d before))
    ∙ sym (fed-parts 0 f d n)
    ∙ ap (fed 0 f) (add_comm d n)
    ∙ fed-parts 0 f n d
    ∙ fed-zeros (fed 0 f n) (λ k. f (n + k)) d (λ k below. behind (n + k) (omega arith))

pub steps-first : (n s : ℕ) → steps (suc n) s ≡ steps n (step s)
unfolding steps
steps-first n s = refl

-- a step makes a number that has more bits than a register shorter
step-shorter : (n t : ℕ) → t < 2 ^ (32 + suc n) → step t < 2 ^ (32 + n)
step-shorter n t h =
    let e : 32 + suc n ≡ suc (32 + n) = omega arith in
    let most : t < 2 ^ (32 + n) * 2 = rw (e, pow-suc 2 (32 + n)) at h in
    let low : t % 2 < 2 = mod_below t 2 (omega arith) in
    let room : 2 ^ 32 ≤ 2 ^ (32 + n) = pow_mono {i = 32} {j = 32 + n} (omega arith) in
    xor_lt (32 + n) (t / 2) (t % 2 * 0xEDB88320) (omega arith) (omega (arith, room))

steps-shorter : (n t : ℕ) → t < 2 ^ (32 + n) → steps n t < 2 ^ 32
steps-shorter zero t h = rw (steps-none t) h
steps-shorter (suc n) t h = rw (steps-first n t) (steps-shorter n (step t) (step-shorter n t h))

pub fed-lt : (f : ℕ → ℕ) (n : ℕ) → ((k : ℕ) → f k < 2 ^ 64) → fed 0 f n < 2 ^ 32
fed-lt f zero h = rw (fed-none 0 f) (omega arith)
fed-lt f (suc n) h =
    let before : fed 0 f n < 2 ^ 96 = let b = fed-lt f n h in omega (arith, b) in
    let word : f n < 2 ^ 96 = let b = h n in omega (arith, b) in
    rw (fed-more 0 f n) (steps-shorter 64 (bit_xor (fed 0 f n) (f n)) (xor_lt 96 (fed 0 f n) (f n) before word))

-- a state that is added to the first word
pub fed-state : (s : ℕ) (f : ℕ → ℕ) (n : ℕ)
    → fed 0 (λ k. bit_xor (get_or (s ∷ []) k 0) (f k)) (suc n) ≡ fed s f (suc n)
fed-state s f zero =
    let g : ℕ → ℕ = λ k. bit_xor (get_or (s ∷ []) k 0) (f k) in
    fed-more 0 g 0
    ∙ ap (λ q. steps 64 (bit_xor q (g 0))) (fed-none 0 g)
    ∙ ap (steps 64) (xor_zero_l (bit_xor s (f 0)))
    ∙ sym (fed-more s f 0 ∙ ap (λ q. steps 64 (bit_xor q (f 0))) (fed-none s f))
fed-state s f (suc n) =
    let g : ℕ → ℕ = λ k. bit_xor (get_or (s ∷ []) k 0) (f k) in
    fed-more 0 g (suc n)
    ∙ ap (λ q. steps 64 (bit_xor q (bit_xor 0 (f (suc n))))) (fed-state s f n)
    ∙ ap (λ q. steps 64 (bit_xor (fed s f (suc n)) q)) (xor_zero_l (f (suc n)))
    ∙ sym (fed-more s f (suc n))
