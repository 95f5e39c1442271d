-- Each of the bytes that come into the register together is one look-up.
use Rattle.ubi_media.proofs.Prelude.{◌≡◌, ℕ, zero, suc, ◌+◌, ◌*◌, ◌/◌, ◌%◌, ◌^◌, ◌<◌, ◌≤◌, List, [], ◌∷◌, length, get_or, drop, bit_xor, refl, sym, ap, ◌∙◌, arith, zero-add, drop-cons, drop_all, mod_below, shr_split, xor_comm, xor_lt, w32, to_le_bytes, flat_map, bits, add_to_front, check_from, AreBytes}
use lib.Bits.{xor_assoc, xor_shifted, xor_zero_r}
use Rattle.ubi_media.proofs.Checks.{check_from-run}
use Rattle.ubi_media.proofs.Register.{steps, steps-more, run, run-bits, run-empty, run-append}
use Rattle.ubi_media.proofs.Table.{found, found-steps, steps-sum, steps-high}
use Rattle.ubi_media.proofs.Xor.{xor-four, xor-scale}

-- bytes as one polynomial, the first byte lowest
unfoldable pub word : List ℕ → ℕ
word [] = 0
word (b ∷ bs) = bit_xor b (word bs * 2 ^ 8)

-- eight steps push a byte out, and what stands above it comes down
steps-byte : (n x h : ℕ) → steps (8 * suc n) (bit_xor x (h * 2 ^ 8)) ≡ steps (8 * n) (bit_xor (steps 8 x) h)
steps-byte n x h =
    let e : 8 * suc n ≡ 8 + 8 * n = omega arith in
    ap (λ k. steps k (bit_xor x (h * 2 ^ 8))) e
    ∙ steps-more 8 (8 * n) (bit_xor x (h * 2 ^ 8))
    ∙ ap (steps (8 * n)) (steps-sum 8 x (h * 2 ^ 8) ∙ ap (bit_xor (steps 8 x)) (steps-high 8 h))

-- bytes may come in one by one, or all at once
run-bytes : (m : List ℕ) (s : ℕ) → AreBytes m → run s (flat_map (bits 8) m) ≡ steps (8 * length m) (bit_xor s (word m))
unfolding word steps
run-bytes [] s h = run-empty s ∙ sym (xor_zero_r s)
run-bytes (b ∷ bs) s h =
    let rest : List ℕ = flat_map (bits 8) bs in
    run-append (bits 8 b) rest s
    ∙ ap (λ t. run t rest) (run-bits 8 s b h.0)
    ∙ run-bytes bs (steps 8 (bit_xor s b)) h.1
    ∙ sym (steps-byte (length bs) (bit_xor s b) (word bs))
    ∙ ap (steps (8 * suc (length bs))) (xor_assoc s b (word bs * 2 ^ 8))

pub check_from-word : (s : ℕ) (m : List ℕ) → s < 2 ^ 32 → AreBytes m
    → check_from s m ≡ steps (8 * length m) (bit_xor s (word m))
check_from-word s m h bytes = check_from-run s m h ∙ run-bytes m s bytes

-- the sum of what is found for each byte in the table of how many come behind it
abbrev pub lookups : List ℕ → ℕ
lookups [] = 0
lookups (b ∷ bs) = bit_xor (lookups bs) (found (length bs) b)

lookups-word : (bs : List ℕ) → length bs ≤ 16 → AreBytes bs → lookups bs ≡ steps (8 * length bs) (word bs)
unfolding word steps
lookups-word [] h bytes = refl
lookups-word (b ∷ bs) h bytes =
    let n : ℕ = length bs in
    let e : 8 * suc n ≡ 8 + 8 * n = omega arith in
    let first : found n b ≡ steps (8 * n) (steps 8 b) =
    found-steps n b (omega arith) bytes.0 ∙ ap (λ k. steps k b) e ∙ steps-more 8 (8 * n) b in
    ap (bit_xor (lookups bs)) first
    ∙ ap (λ q. bit_xor q (steps (8 * n) (steps 8 b))) (lookups-word bs (omega arith) bytes.1)
    ∙ xor_comm (steps (8 * n) (word bs)) (steps (8 * n) (steps 8 b))
    ∙ sym (steps-sum (8 * n) (steps 8 b) (word bs))
    ∙ sym (steps-byte n b (word bs))

-- the sum of two words is byte by byte
word-sum : (xs ys : List ℕ) → length xs ≤ length ys → word (add_to_front xs ys) ≡ bit_xor (word xs) (word ys)
unfolding word
word-sum [] ys h = refl
word-sum (x ∷ xs) [] h = absurd (omega arith)
word-sum (x ∷ xs) (y ∷ ys) h =
    ap (λ w. bit_xor (bit_xor x y) (w * 2 ^ 8)) (word-sum xs ys (omega arith))
    ∙ ap (bit_xor (bit_xor x y)) (xor-scale 8 (word xs) (word ys))
    ∙ xor-four x y (word xs * 2 ^ 8) (word ys * 2 ^ 8)

bytes-sum : (xs ys : List ℕ) → AreBytes xs → AreBytes ys → AreBytes (add_to_front xs ys)
bytes-sum [] ys hx hy = hy
bytes-sum (x ∷ xs) [] hx hy = tt
bytes-sum (x ∷ xs) (y ∷ ys) hx hy = (xor_lt 8 x y hx.0 hy.0, bytes-sum xs ys hx.1 hy.1)

-- the bytes of a state
low_byte : (x : ℕ) → bit_xor (x % 256) (x / 256 * 2 ^ 8) ≡ x
low_byte x =
    xor_comm (x % 256) (x / 256 * 2 ^ 8)
    ∙ xor_shifted (x / 256) 8 (x % 256) (mod_below x 256 (omega arith))
    ∙ shr_split x 8

word-state : (s : ℕ) → s < 2 ^ 32 → word (to_le_bytes w32 s) ≡ s
unfolding word
word-state s h =
    let e1 : s / 65536 ≡ s / 256 / 256 = omega arith in
    let e2 : s / 16777216 ≡ s / 65536 / 256 = omega arith in
    let top : s / 16777216 % 256 ≡ s / 65536 / 256 = omega arith in
    rw (top, xor_zero_r (s / 65536 / 256), low_byte (s / 65536), e1, low_byte (s / 256)) (low_byte s)

bytes-state : (s : ℕ) → AreBytes (to_le_bytes w32 s)
bytes-state s =
    let below : (x : ℕ) → x % 256 < 256 = λ x. mod_below x 256 (omega arith) in
    (below s, (below (s / 256), (below (s / 65536), (below (s / 16777216), tt))))

-- the n elements from a place on
abbrev pub elements : ℕ → ℕ → List ℕ → List ℕ
elements i zero m = []
elements i (suc n) m = get_or m i 0 ∷ elements (suc i) n m

pub elements-all : (i n : ℕ) (m : List ℕ) → i + n ≡ length m → elements i n m ≡ drop i m
elements-all i zero m e = sym (drop_all i m (omega arith))
elements-all i (suc n) m e =
    ap (λ rest. get_or m i 0 ∷ rest) (elements-all (suc i) n m (omega arith)) ∙ sym (drop-cons m i 0 (omega arith))

pub bytes-elements : (i n : ℕ) (m : List ℕ) → ((k : ℕ) → get_or m k 0 < 256) → AreBytes (elements i n m)
bytes-elements i zero m h = tt
bytes-elements i (suc n) m h = (h i, bytes-elements (suc i) n m h)

elements-length : (i n : ℕ) (m : List ℕ) → length (elements i n m) ≡ n
elements-length i zero m = refl
elements-length i (suc n) m = ap suc (elements-length (suc i) n m)

add_to_front-length : (xs ys : List ℕ) → length xs ≤ length ys → length (add_to_front xs ys) ≡ length ys
add_to_front-length [] ys h = refl
add_to_front-length (x ∷ xs) [] h = absurd (omega arith)
add_to_front-length (x ∷ xs) (y ∷ ys) h = ap suc (add_to_front-length xs ys (omega arith))

-- n bytes and the four of a state, which are added to the first four
pub check_from-elements : (n s : ℕ) (m state : List ℕ) → 4 ≤ n → n ≤ 16 → s < 2 ^ 32 → length m ≡ n
    → ((k : ℕ) → get_or m k 0 < 256)
    → state ≡ to_le_bytes w32 s → lookups (add_to_front (elements 0 4 state) (elements 0 n m)) ≡ check_from s m
check_from-elements n s m state some most h size below same =
    let front : List ℕ = to_le_bytes w32 s in
    let piece : List ℕ = elements 0 n m in
    let long : length piece ≡ n = elements-length 0 n m in
    let fits : length front ≤ length piece = omega (arith, long) in
    let sum : length (add_to_front front piece) ≡ n = add_to_front-length front piece fits ∙ long in
    let bytes : AreBytes piece = bytes-elements 0 n m below in
    rw same
    (lookups-word (add_to_front front piece) (omega (arith, sum)) (bytes-sum front piece (bytes-state s) bytes)
    ∙ ap (λ k. steps (8 * k) (word (add_to_front front piece))) (sum ∙ sym long)
    ∙ ap (steps (8 * length piece)) (word-sum front piece fits ∙ ap (λ x. bit_xor x (word piece)) (word-state s h))
    ∙ sym (check_from-word s piece h bytes)
    ∙ ap (check_from s) (elements-all 0 n m (zero-add n ∙ sym size)))
