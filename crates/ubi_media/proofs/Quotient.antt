-- A division has a remainder, and only one.
use Rattle.ubi_media.proofs.Prelude.{◌≡◌, ℕ, zero, suc, ◌+◌, ◌*◌, ◌/◌, ◌%◌, ◌^◌, ◌<◌, Bool, true, false, ◌==◌, ◌≤◌, List, [], ◌∷◌, ◌++◌, length, replicate, bit_xor, refl, sym, ap, ◌∙◌, arith, length-append, bit_at, length-replicate, pow_pos, pow-add, xor_comm, xor_lt, xor_block, shl_below, shr_split, shr_below, mod_below, mod-eq_of_lt, mod-lt, pow-suc, generator, remainder, product, IsRemainder}
use Rattle.std.specs.Bool.{if◌then◌else◌}
use lib.Bits.{xor_assoc, xor_self}
use Rattle.ubi_media.proofs.Xor.{xor-twice}

-- the generator times x^k is x^(32 + k) and a part below
generator-above : (c k : ℕ) → c * generator * 2 ^ k ≡ c * 2 ^ (32 + k) + c * 0x04C11DB7 * 2 ^ k
generator-above c k = rw (pow-add 2 32 k) (omega arith)

tail-lt : (c k : ℕ) → c < 2 → c * 0x04C11DB7 * 2 ^ k < 2 ^ (32 + k)
tail-lt c k h = shl_below (c * 0x04C11DB7) 32 k (omega arith)

-- a number by its bit k and those below
by_bit : (p k : ℕ) → p < 2 ^ suc k → p ≡ bit_at p k * 2 ^ k + p % 2 ^ k
by_bit p k h =
    let small : p / 2 ^ k < 2 = let h2 : p < 2 ^ (1 + k) = let e : 1 + k ≡ suc k = omega arith in rw e h in
    shr_below p 1 k h2 in
    let bit : bit_at p k ≡ p / 2 ^ k = mod-eq_of_lt small in
    rw bit (sym (shr_split p k))

-- one step of the division takes the highest coefficient off
step-lt : (k p : ℕ) → p < 2 ^ (32 + suc k) → bit_xor p (bit_at p (32 + k) * generator * 2 ^ k) < 2 ^ (32 + k)
step-lt k p h =
    let c : ℕ = bit_at p (32 + k) in
    let bit : c < 2 = mod_below (p / 2 ^ (32 + k)) 2 (omega arith) in
    let e : 32 + suc k ≡ suc (32 + k) = omega arith in
    let parts : p ≡ c * 2 ^ (32 + k) + p % 2 ^ (32 + k) = by_bit p (32 + k) (rw e at h) in
    let low : p % 2 ^ (32 + k) < 2 ^ (32 + k) = mod-lt p (pow_pos (32 + k)) in
    let tail : ℕ = c * 0x04C11DB7 * 2 ^ k in
    let block = xor_block (32 + k) c c (p % 2 ^ (32 + k)) tail low (tail-lt c k bit) in
    let left : bit_xor p (c * generator * 2 ^ k) ≡ bit_xor (p % 2 ^ (32 + k)) tail =
    ap (λ (x : ℕ). bit_xor x (c * generator * 2 ^ k)) parts
    ∙ ap (λ (x : ℕ). bit_xor (c * 2 ^ (32 + k) + p % 2 ^ (32 + k)) x) (generator-above c k)
    ∙ block ∙ rw (xor_self c) (omega arith) in
    rw left (xor_lt (32 + k) (p % 2 ^ (32 + k)) tail low (tail-lt c k bit))

-- a coefficient as a test
chosen : (c x : ℕ) → c < 2 → (if c == 1 then generator * x else 0) ≡ c * generator * x
chosen zero x h = omega arith
chosen (suc zero) x h = omega arith
chosen (suc (suc c)) x h = absurd (omega arith)

divided : (k p : ℕ) → p < 2 ^ (32 + k) → (q : List Bool) × (length q ≡ k)
    × (p ≡ bit_xor (product q generator) (remainder k p)) × (remainder k p < 2 ^ 32)
unfolding remainder
divided zero p h = ([], refl, refl, h)
divided (suc k) p h =
    let c : ℕ = bit_at p (32 + k) in
    let bit : c < 2 = mod_below (p / 2 ^ (32 + k)) 2 (omega arith) in
    let x : ℕ = c * generator * 2 ^ k in
    let rest : ℕ = bit_xor p x in
    let ih = divided k rest (step-lt k p h) in
    let q : List Bool = ih.0 in
    let count : length q ≡ k = ih.1 in
    let left : ℕ = remainder k rest in
    let sum : p ≡ bit_xor (bit_xor x (product q generator)) left =
    sym (xor-twice p x) ∙ ap (λ (y : ℕ). bit_xor y x) ih.2 ∙ xor_comm (bit_xor (product q generator) left) x
    ∙ sym (xor_assoc x (product q generator) left) in
    let front : (if c == 1 then generator * 2 ^ length q else 0) ≡ x = rw count (chosen c (2 ^ k) bit) in
    ((c == 1) ∷ q, ap suc count, rw front sum, ih.3)

pub remainder-IsRemainder : (k p : ℕ) → p < 2 ^ (32 + k) → IsRemainder p (remainder k p)
remainder-IsRemainder k p h =
    let d = divided k p h in
    record { quotient = d.0; sum = d.2; degree = d.3 }

product-lt : (q : List Bool) → product q generator < 2 ^ (32 + length q)
product-lt [] = omega arith
product-lt (b ∷ q) =
    let n : ℕ = length q in
    let e : 33 + n ≡ 32 + suc n = omega arith in
    let e2 : 32 + suc n ≡ suc (32 + n) = omega arith in
    let ih = product-lt q in
    let more : product q generator < 2 ^ (32 + suc n) = rw (e2, pow-suc 2 (32 + n)) (omega (arith, ih)) in
    let shifted : generator * 2 ^ n < 2 ^ (32 + suc n) = rw e at (shl_below generator 33 n (omega arith)) in
    elim b as (λ (v : Bool). bit_xor (if v then generator * 2 ^ n else 0) (product q generator) < 2 ^ (32 + suc n)) [
      | true ↦ xor_lt (32 + suc n) (generator * 2 ^ n) (product q generator) shifted more
      | false ↦ more
    ]

-- a sum with the generator times x^n has the coefficient of x^(32 + n)
has_top : (n x : ℕ) → x < 2 ^ (32 + n) → 2 ^ (32 + n) ≤ bit_xor (generator * 2 ^ n) x
has_top n x h =
    let tail : ℕ = 1 * 0x04C11DB7 * 2 ^ n in
    let block = xor_block (32 + n) 1 0 tail x (tail-lt 1 n (omega arith)) h in
    let e1 : generator * 2 ^ n ≡ 1 * 2 ^ (32 + n) + tail = let g = generator-above 1 n in omega (arith, g) in
    let e2 : x ≡ 0 * 2 ^ (32 + n) + x = omega arith in
    let whole : bit_xor (generator * 2 ^ n) x ≡ bit_xor 1 0 * 2 ^ (32 + n) + bit_xor tail x =
    ap (λ (y : ℕ). bit_xor y x) e1 ∙ ap (λ (y : ℕ). bit_xor (1 * 2 ^ (32 + n) + tail) y) e2 ∙ block in
    rw whole (omega arith)

-- what is the same with something added is the same
cancel : (g x y : ℕ) → bit_xor g x ≡ bit_xor g y → x ≡ y
cancel g x y e = sym (xor-twice x g) ∙ ap (λ (z : ℕ). bit_xor z g) (xor_comm x g ∙ e ∙ xor_comm g y) ∙ xor-twice y g

rest-lt : (q : List Bool) (r : ℕ) → r < 2 ^ 32 → bit_xor (product q generator) r < 2 ^ (32 + length q)
rest-lt q r h =
    let wide : r < 2 ^ (32 + length q) = let p = pow_pos (length q) in rw (pow-add 2 32 (length q)) (omega arith) in
    xor_lt (32 + length q) (product q generator) r (product-lt q) wide

product-padded : (n : ℕ) (q : List Bool) → product (replicate n false ++ q) generator ≡ product q generator
product-padded zero q = refl
product-padded (suc n) q = product-padded n q

same : (q t : List Bool) (r s : ℕ) → length q ≡ length t → r < 2 ^ 32 → s < 2 ^ 32
    → bit_xor (product q generator) r ≡ bit_xor (product t generator) s → r ≡ s
same [] [] r s e hr hs sum = sum
same [] (b ∷ t) r s e hr hs sum = absurd (omega (arith, e))
same (a ∷ q) [] r s e hr hs sum = absurd (omega (arith, e))
same (false ∷ q) (false ∷ t) r s e hr hs sum = same q t r s (omega (arith, e)) hr hs sum
same (true ∷ q) (true ∷ t) r s e hr hs sum =
    let n : length q ≡ length t = omega (arith, e) in
    let g : ℕ = generator * 2 ^ length q in
    let g2 : generator * 2 ^ length t ≡ g = rw n refl in
    let whole : bit_xor g (bit_xor (product q generator) r) ≡ bit_xor g (bit_xor (product t generator) s) =
    sym (xor_assoc g (product q generator) r) ∙ sum ∙ ap (λ (y : ℕ). bit_xor (bit_xor y (product t generator)) s) g2
    ∙ xor_assoc g (product t generator) s in
    same q t r s n hr hs (cancel g (bit_xor (product q generator) r) (bit_xor (product t generator) s) whole)
same (true ∷ q) (false ∷ t) r s e hr hs sum =
    let n : length t ≡ length q = omega (arith, e) in
    let top = has_top (length q) (bit_xor (product q generator) r) (rest-lt q r hr) in
    let below = rw n at (rest-lt t s hs) in
    let whole : bit_xor (generator * 2 ^ length q) (bit_xor (product q generator) r) ≡ bit_xor (product t generator) s =
    sym (xor_assoc (generator * 2 ^ length q) (product q generator) r) ∙ sum in
    absurd (omega (arith, whole, top, below))
same (false ∷ q) (true ∷ t) r s e hr hs sum =
    let n : length q ≡ length t = omega (arith, e) in
    let top = has_top (length t) (bit_xor (product t generator) s) (rest-lt t s hs) in
    let below = rw n at (rest-lt q r hr) in
    let whole : bit_xor (generator * 2 ^ length t) (bit_xor (product t generator) s) ≡ bit_xor (product q generator) r =
    sym (xor_assoc (generator * 2 ^ length t) (product t generator) s) ∙ sym sum in
    absurd (omega (arith, whole, top, below))

pub one_remainder : (p r s : ℕ) → IsRemainder p r → IsRemainder p s → r ≡ s
one_remainder p r s a b =
    same (replicate (length b.quotient) false ++ a.quotient) (replicate (length a.quotient) false ++ b.quotient) r s
    (rw (
      length-append (replicate (length b.quotient) false) a.quotient,
      length-append (replicate (length a.quotient) false) b.quotient,
      length-replicate {A = Bool} (length b.quotient) false,
      length-replicate {A = Bool} (length a.quotient) false,
    )
    (omega arith))
    a.degree b.degree
    (rw (product-padded (length b.quotient) a.quotient, product-padded (length a.quotient) b.quotient) (sym a.sum
    ∙ b.sum))
