-- The steps of a byte in the register are a look-up in a table.
use Rattle.ubi_media.proofs.Prelude.{◌≡◌, ℕ, zero, suc, ◌+◌, ◌*◌, ◌/◌, ◌%◌, ◌^◌, ◌<◌, Bool, true, ◌&&◌, ◌==◌, List, [], ◌∷◌, length, get_or, bit_xor, bit_and, refl, sym, ap, ◌∙◌, arith, eqb-true, false, zero-add, and_parts, false≢true, get_or-range_with_len, shr_split, mod_below, and_mask, xor_shr, pow-suc, range_with_len, TABLES}
use lib.Bits.{xor_shifted, xor_zero_r}
use Rattle.ubi_media.proofs.Register.{step, steps, steps-more}
use Rattle.ubi_media.proofs.Xor.{xor-div2, xor-mod2, xor-four}

bit_product : (x y : ℕ) → x < 2 → y < 2 → bit_xor x y * 0xEDB88320 ≡ bit_xor (x * 0xEDB88320) (y * 0xEDB88320)
bit_product zero zero hx hy = refl
bit_product zero (suc zero) hx hy = refl
bit_product (suc zero) zero hx hy = refl
bit_product (suc zero) (suc zero) hx hy = refl
bit_product zero (suc (suc y)) hx hy = absurd (omega arith)
bit_product (suc zero) (suc (suc y)) hx hy = absurd (omega arith)
bit_product (suc (suc x)) y hx hy = absurd (omega arith)

-- a step of a sum is the sum of the steps
pub step-sum : (a b : ℕ) → step (bit_xor a b) ≡ bit_xor (step a) (step b)
step-sum a b =
    let la : a % 2 < 2 = mod_below a 2 (omega arith) in
    let lb : b % 2 < 2 = mod_below b 2 (omega arith) in
    rw (xor-div2 a b, xor-mod2 a b, bit_product (a % 2) (b % 2) la lb)
    (xor-four (a / 2) (b / 2) (a % 2 * 0xEDB88320) (b % 2 * 0xEDB88320))

pub steps-sum : (n a b : ℕ) → steps n (bit_xor a b) ≡ bit_xor (steps n a) (steps n b)
unfolding steps
steps-sum zero a b = refl
steps-sum (suc n) a b = ap (steps n) (step-sum a b) ∙ steps-sum n (step a) (step b)

-- the bits above the lowest n only move down
pub steps-high : (n h : ℕ) → steps n (h * 2 ^ n) ≡ h
unfolding steps
steps-high zero h = omega arith
steps-high (suc n) h =
    let half : h * 2 ^ suc n / 2 ≡ h * 2 ^ n = rw (pow-suc 2 n) (omega arith) in
    let low : h * 2 ^ suc n % 2 ≡ 0 = rw (pow-suc 2 n) (omega arith) in
    rw (half, low, xor_zero_r (h * 2 ^ n)) (steps-high n h)

steps-split : (t : ℕ) → steps 8 t ≡ bit_xor (t / 256) (steps 8 (t % 256))
steps-split t =
    let parts : bit_xor (t / 256 * 2 ^ 8) (t % 256) ≡ t = xor_shifted (t / 256) 8 (t % 256)
    (mod_below t 256 (omega arith)) ∙ shr_split t 8 in
    ap (steps 8) (sym parts) ∙ steps-sum 8 (t / 256 * 2 ^ 8) (t % 256)
    ∙ ap (λ (q : ℕ). bit_xor q (steps 8 (t % 256))) (steps-high 8 (t / 256))

-- whether each word is eight steps of the one at its place before it
are_next : List ℕ → List ℕ → Bool
are_next [] [] = true
are_next [] (y ∷ ys) = false
are_next (x ∷ xs) [] = false
are_next (x ∷ xs) (y ∷ ys) = (y == steps 8 x) && are_next xs ys

are_next-length : (xs ys : List ℕ) → are_next xs ys ≡ true → length ys ≡ length xs
unfolding are_next
are_next-length [] [] e = refl
are_next-length [] (y ∷ ys) e = absurd (false≢true e)
are_next-length (x ∷ xs) [] e = absurd (false≢true e)
are_next-length (x ∷ xs) (y ∷ ys) e = ap suc (are_next-length xs ys (and_parts (y == steps 8 x) (are_next xs ys) e).1)

are_next-at : (xs ys : List ℕ) (k : ℕ) → are_next xs ys ≡ true → k < length xs → get_or ys k 0 ≡ steps 8 (get_or xs k 0)
unfolding are_next
are_next-at [] ys k e h = absurd (omega arith)
are_next-at (x ∷ xs) [] k e h = absurd (false≢true e)
are_next-at (x ∷ xs) (y ∷ ys) zero e h = eqb-true y (steps 8 x) (and_parts (y == steps 8 x) (are_next xs ys) e).0
are_next-at (x ∷ xs) (y ∷ ys) (suc k) e h = are_next-at xs ys k (and_parts (y == steps 8 x) (are_next xs ys) e).1
    (omega arith)

-- whether each table is the next of the one before it
are_tables : List ℕ → List (List ℕ) → Bool
are_tables last [] = true
are_tables last (t ∷ ts) = are_next last t && are_tables t ts

-- the words are n steps of their places
AreSteps : ℕ → List ℕ → Type 0
AreSteps n xs = (length xs ≡ 256) × ((x : ℕ) → x < 256 → get_or xs x 0 ≡ steps n x)

are_next-steps : (n : ℕ) (xs ys : List ℕ) → AreSteps n xs → are_next xs ys ≡ true → AreSteps (n + 8) ys
unfolding AreSteps
are_next-steps n xs ys h e = (
  are_next-length xs ys e ∙ h.0,
  λ x below. are_next-at xs ys x e (omega (arith, h.0)) ∙ ap (steps 8) (h.1 x below) ∙ sym (steps-more n 8 x),
)

are_tables-at : (n : ℕ) (last : List ℕ) (ts : List (List ℕ)) (k x : ℕ) → AreSteps n last → are_tables last ts ≡ true
    → k < length ts → x < 256
    → get_or (get_or ts k []) x 0 ≡ steps (n + 8 * suc k) x
unfolding are_tables AreSteps
are_tables-at n last [] k x steps_of e h below = absurd (omega arith)
are_tables-at n last (t ∷ ts) zero x steps_of e h below =
    let here = (and_parts (are_next last t) (are_tables t ts) e).0 in
    (are_next-steps n last t steps_of here).1 x below
are_tables-at n last (t ∷ ts) (suc k) x steps_of e h below =
    let parts = and_parts (are_next last t) (are_tables t ts) e in
    let same : n + 8 + 8 * suc k ≡ n + 8 * suc (suc k) = omega arith in
    rw (← same) (are_tables-at (n + 8) t ts k x (are_next-steps n last t steps_of parts.0) parts.1 (omega arith) below)

places : List ℕ
places = range_with_len 0 256

places-steps : AreSteps 0 places
unfolding AreSteps places steps
places-steps = (refl, λ x below. get_or-range_with_len 0 256 x 0 below ∙ zero-add x)

tables_are : are_tables places TABLES ≡ true
unfolding are_tables are_next steps places
tables_are = refl

-- the word of a table for a byte
abbrev pub found : ℕ → ℕ → ℕ
found k x = get_or (get_or TABLES k []) x 0

pub found-steps : (k x : ℕ) → k < 16 → x < 256 → found k x ≡ steps (8 * suc k) x
found-steps k x h below =
    are_tables-at 0 places TABLES k x places-steps tables_are h below ∙ ap (λ n. steps n x) (zero-add (8 * suc k))

-- the look-up
pub steps-found : (s b : ℕ) → b < 256 → bit_xor (s / 256) (found 0 (bit_and (bit_xor s b) 255)) ≡ steps 8 (bit_xor s b)
steps-found s b h =
    let low : bit_and (bit_xor s b) 255 ≡ bit_xor s b % 256 = and_mask (bit_xor s b) 8 in
    let below : bit_xor s b % 256 < 256 = mod_below (bit_xor s b) 256 (omega arith) in
    let none : b / 256 ≡ 0 = omega arith in
    let high : bit_xor s b / 256 ≡ s / 256 = xor_shr s b 8 ∙ rw none (xor_zero_r (s / 256)) in
    rw (low, found-steps 0 (bit_xor s b % 256) (omega arith) below, ← high) (sym (steps-split (bit_xor s b)))
