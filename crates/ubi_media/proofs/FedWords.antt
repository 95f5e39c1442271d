-- A message that is cut into words of eight bytes: its CRC is the register that is fed them.
use Rattle.ubi_media.proofs.Prelude.{◌≡◌, ℕ, zero, suc, ◌+◌, ◌*◌, ◌/◌, ◌^◌, ◌<◌, ◌≤◌, List, [], ◌∷◌, ◌++◌, length, take, drop, get_or, bit_xor, refl, sym, ap, ◌∙◌, arith, append-nil, drop_all, length-drop, length-take-le, take_all, from_le_bytes-to_le_bytes_8, mod_below, xor_comm, w64, byte_at, bytes_low_first, from_le_bytes, to_le_bytes, concat, first_chunks, check_from, AreBytes, word_at, bytes_of}
use lib.Bits.{xor_shifted}
use Rattle.ubi_media.proofs.ByteLists.{byte_in, bytes-drop, bytes-take}
use Rattle.ubi_media.proofs.Checks.{check_from-append, check_from-empty, check_from-lt, check_from-piece, first_chunks-rest}
use Rattle.ubi_media.proofs.Fed.{fed, fed-none, fed-more}
use Rattle.ubi_media.proofs.Lookups.{word, check_from-word, elements, elements-all}
use Rattle.ubi_media.proofs.Register.{steps}

-- eight bytes as a number
value : List ℕ → ℕ
value [] = 0
value (b ∷ bs) = b + value bs * 256

word-value : (m : List ℕ) → AreBytes m → word m ≡ value m
unfolding word value
word-value [] h = refl
word-value (b ∷ bs) h =
    let e : word bs * 2 ^ 8 + b ≡ b + word bs * 256 = omega arith in
    xor_comm b (word bs * 2 ^ 8) ∙ xor_shifted (word bs) 8 b h.0 ∙ e ∙ ap (λ v. b + v * 256) (word-value bs h.1)

-- eight bytes
abbrev pub IsWord : List ℕ → Type 0
IsWord m = (length m ≡ 8) × AreBytes m

word-number : (m : List ℕ) → IsWord m → word m ≡ from_le_bytes w64 m
unfolding value
word-number m is =
    let whole : elements 0 8 m ≡ m = elements-all 0 8 m (sym is.0) in
    word-value m is.1 ∙ ap value (sym whole) ∙ omega arith

pub word-lt : (m : List ℕ) → IsWord m → from_le_bytes w64 m < 2 ^ 64
word-lt m is =
    let b : (i : ℕ) → get_or m i 0 < 256 = byte_in m is.1 in
    omega (arith, b 0, b 1, b 2, b 3, b 4, b 5, b 6, b 7)

pub byte-lt : (i n : ℕ) → byte_at i n < 256
byte-lt zero n = mod_below n 256 (omega arith)
byte-lt (suc i) n = mod_below (n / 256 ^ suc i) 256 (omega arith)

number-bytes : (i k n : ℕ) → AreBytes (bytes_low_first i k n)
number-bytes i zero n = tt
number-bytes i (suc k) n = (byte-lt i n, number-bytes (suc i) k n)

pub number-word : (n : ℕ) → IsWord (to_le_bytes w64 n)
number-word n = (refl, number-bytes 0 8 n)

-- a message of words of eight bytes: each is fed to the register
pub check_from-words : (s : ℕ) (words : List (List ℕ)) (n : ℕ) → s < 2 ^ 32
    → ((k : ℕ) → k < n → IsWord (get_or words k [])) → n ≤ length words
    → check_from s (concat (take n words)) ≡ fed s (word_at words) n
check_from-words s words zero h are most = check_from-empty s h ∙ sym (fed-none s (word_at words))
check_from-words s words (suc n) h are most =
    let last : List ℕ = get_or words n [] in
    let before : ℕ = check_from s (concat (take n words)) in
    let is : IsWord last = are n (omega arith) in
    let e : suc n ≡ n + 1 = omega arith in
    ap (λ k. check_from s (concat (take k words))) e
    ∙ sym (check_from-piece s n words before (check_from before last) h (omega arith) refl refl)
    ∙ check_from-word before last (check_from-lt s (concat (take n words)) h) is.1
    ∙ ap (λ l. steps (8 * l) (bit_xor before (word last))) is.0
    ∙ ap (λ w. steps 64 (bit_xor before w)) (word-number last is)
    ∙ ap (λ q. steps 64 (bit_xor q (word_at words n)))
    (check_from-words s words n h (λ k below. are k (omega arith)) (omega arith))
    ∙ sym (fed-more s (word_at words) n)

-- words that are given by their places
pub check_from-bytes_of : (s : ℕ) (f : ℕ → ℕ) (n : ℕ) → s < 2 ^ 32 → ((k : ℕ) → k < n → f k < 2 ^ 64)
    → check_from s (bytes_of f n) ≡ fed s f n
unfolding bytes_of
check_from-bytes_of s f zero h narrow = check_from-empty s h ∙ sym (fed-none s f)
check_from-bytes_of s f (suc n) h narrow =
    let last : List ℕ = to_le_bytes w64 (f n) in
    let before : ℕ = check_from s (bytes_of f n) in
    let is : IsWord last = number-word (f n) in
    check_from-append s (bytes_of f n) last h
    ∙ check_from-word before last (check_from-lt s (bytes_of f n) h) is.1
    ∙ ap (λ w. steps 64 (bit_xor before w))
    (word-number last is ∙ from_le_bytes-to_le_bytes_8 (f n) (narrow n (omega arith)))
    ∙ ap (λ q. steps 64 (bit_xor q (f n))) (check_from-bytes_of s f n h (λ k below. narrow k (omega (arith, below))))
    ∙ sym (fed-more s f n)

-- bytes that are cut into words
pub chunks-words : (n : ℕ) (m : List ℕ) (k : ℕ) → n * 8 ≤ length m → AreBytes m → k < n
    → IsWord (get_or (first_chunks 8 n m) k [])
chunks-words zero m k size are below = absurd (omega arith)
chunks-words (suc n) m zero size are below = (length-take-le 8 m (omega arith), bytes-take 8 m are)
chunks-words (suc n) m (suc k) size are below =
    chunks-words n (drop 8 m) k (omega (arith, length-drop 8 m)) (bytes-drop 8 m are) (omega arith)

pub chunks-length : (n : ℕ) (m : List ℕ) → length (first_chunks 8 n m) ≡ n
chunks-length zero m = refl
chunks-length (suc n) m = ap suc (chunks-length n (drop 8 m))

-- a piece that is cut into words
pub check_from-cut-words : (s n : ℕ) (m : List ℕ) → s < 2 ^ 32 → length m ≡ n * 8 → AreBytes m
    → check_from s m ≡ fed s (word_at (first_chunks 8 n m)) n
check_from-cut-words s n m h size are =
    let words : List (List ℕ) = first_chunks 8 n m in
    let long : length words ≡ n = chunks-length n m in
    let none : drop (n * 8) m ≡ [] = drop_all (n * 8) m (omega (arith, size)) in
    let joined : concat words ≡ m =
    sym (append-nil (concat words)) ∙ ap (λ rest. concat words ++ rest) (sym none) ∙ first_chunks-rest 8 n m in
    ap (check_from s) (sym joined ∙ ap concat (sym (take_all n words (omega (arith, long)))))
    ∙ check_from-words s words n h (λ k below. chunks-words n m k (omega (arith, size)) are below) (omega (arith, long))
