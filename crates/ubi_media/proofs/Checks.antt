-- The CRC of a message: of no byte, of one, of two parts.
use Rattle.ubi_media.proofs.Prelude.{◌≡◌, ℕ, zero, suc, ◌+◌, ◌*◌, ◌^◌, ◌<◌, List, [], ◌∷◌, ◌++◌, length, take, drop, get_or, bit_xor, sym, ap, ◌∙◌, arith, replicate, length-append, append-nil, drop-drop, length-replicate, take-append-drop, take_more, concat-append, flat_map-append, concat, flat_map, first_chunks, bits, polynomial, add_to_front, remainder, dividend, check_from}
use Rattle.std.proofs.lemmas.List.{append_assoc}
use Rattle.ubi_media.proofs.Polynomials.{AreBits, AreBits-bits, AreBits-append, AreBits-zeros, AreBits-bytes, length-bits, length-bytes, polynomial-append, polynomial-zeros, polynomial-add_to_front}
use Rattle.ubi_media.proofs.Mirror.{mirror, polynomial-bits, mirror-mirror}
use Rattle.ubi_media.proofs.Register.{rest, run, remainder-run, steps, run-bits, run-empty, run-append, run-lt}

dividend-parts : (n s : ℕ) (bs : List ℕ) → AreBits bs
    → polynomial (add_to_front (bits n s) (bs ++ replicate n 0))
    ≡ bit_xor (mirror n s * 2 ^ length bs) (polynomial bs * 2 ^ n)
dividend-parts n s bs h =
    let e : length (bs ++ replicate n 0) ≡ length (bits n s) + length bs =
    rw (length-append bs (replicate n 0), length-replicate {A = ℕ} n 0, length-bits n s) (omega arith) in
    polynomial-add_to_front (length bs) (bits n s) (bs ++ replicate n 0) e (AreBits-bits n s)
    (AreBits-append bs (replicate n 0) h (AreBits-zeros n))
    ∙ rw (polynomial-bits n s, polynomial-append bs (replicate n 0), length-replicate {A = ℕ} n 0, polynomial-zeros n)
    (ap (λ (q : ℕ). bit_xor (mirror n s * 2 ^ length bs) q) (omega arith))

-- the check is the register after the message's bits
pub check_from-run : (s : ℕ) (m : List ℕ) → s < 2 ^ 32 → check_from s m ≡ run s (flat_map (bits 8) m)
unfolding check_from
check_from-run s m h =
    let bs : List ℕ = flat_map (bits 8) m in
    let are : AreBits bs = AreBits-bytes 8 m in
    let count : length bs ≡ 8 * length m = length-bytes 8 m in
    let left : remainder (8 * length m) (dividend s m) ≡ mirror 32 (run s bs) =
    ap (remainder (8 * length m)) (dividend-parts 32 s bs are)
    ∙ ap (λ (w : ℕ). remainder w (rest s (length bs) (polynomial bs))) (sym count)
    ∙ remainder-run bs s h are in
    polynomial-bits 32 (remainder (8 * length m) (dividend s m))
    ∙ ap (mirror 32) left
    ∙ mirror-mirror 32 (run s bs) (run-lt bs s h are)

-- a message in two parts: the check of the first is the state for the second
pub check_from-append : (s : ℕ) (xs ys : List ℕ) → s < 2 ^ 32
    → check_from s (xs ++ ys) ≡ check_from (check_from s xs) ys
check_from-append s xs ys h =
    let bits_x : List ℕ = flat_map (bits 8) xs in
    let bits_y : List ℕ = flat_map (bits 8) ys in
    let first = check_from-run s xs h in
    let below : check_from s xs < 2 ^ 32 = rw first (run-lt bits_x s h (AreBits-bytes 8 xs)) in
    check_from-run s (xs ++ ys) h
    ∙ ap (run s) (flat_map-append (bits 8) xs ys)
    ∙ run-append bits_x bits_y s
    ∙ ap (λ (t : ℕ). run t bits_y) (sym first)
    ∙ sym (check_from-run (check_from s xs) ys below)

-- no byte leaves the state
pub check_from-empty : (s : ℕ) → s < 2 ^ 32 → check_from s [] ≡ s
check_from-empty s h = check_from-run s [] h ∙ run-empty s

-- one byte is eight steps of the register
pub check_from-byte : (s x : ℕ) → s < 2 ^ 32 → x < 256 → check_from s (x ∷ []) ≡ steps 8 (bit_xor s x)
check_from-byte s x h hx =
    check_from-run s (x ∷ []) h
    ∙ run-append (bits 8 x) [] s
    ∙ run-empty (run s (bits 8 x))
    ∙ run-bits 8 s x hx

pub check_from-lt : (s : ℕ) (m : List ℕ) → s < 2 ^ 32 → check_from s m < 2 ^ 32
check_from-lt s m h = rw (check_from-run s m h) (run-lt (flat_map (bits 8) m) s h (AreBits-bytes 8 m))

-- one more byte of a message
pub check_from-more : (s i : ℕ) (m : List ℕ) (r t : ℕ) → s < 2 ^ 32 → i < length m → r ≡ check_from s (take i m)
    → t ≡ check_from r (get_or m i 0 ∷ []) → t ≡ check_from s (take (i + 1) m)
check_from-more s i m r t h below before now =
    now ∙ ap (λ (q : ℕ). check_from q (get_or m i 0 ∷ [])) before
    ∙ sym (check_from-append s (take i m) (get_or m i 0 ∷ []) h)
    ∙ ap (check_from s) (sym (take_more m i 0 below))

-- one more piece of a message
pub check_from-piece : (s i : ℕ) (pieces : List (List ℕ)) (r t : ℕ) → s < 2 ^ 32 → i < length pieces
    → r ≡ check_from s (concat (take i pieces))
    → t ≡ check_from r (get_or pieces i []) → t ≡ check_from s (concat (take (i + 1) pieces))
check_from-piece s i pieces r t h below before now =
    let piece : List ℕ = get_or pieces i [] in
    let joined : concat (take (i + 1) pieces) ≡ concat (take i pieces) ++ piece =
    ap concat (take_more pieces i [] below) ∙ concat-append (take i pieces) (piece ∷ [])
    ∙ ap (λ (q : List ℕ). concat (take i pieces) ++ q) (append-nil piece) in
    now ∙ ap (λ (q : ℕ). check_from q piece) before
    ∙ sym (check_from-append s (concat (take i pieces)) piece h)
    ∙ ap (check_from s) (sym joined)

-- the first pieces of a message, and what is left
pub first_chunks-rest : (size n : ℕ) (m : List ℕ) → concat (first_chunks size n m) ++ drop (n * size) m ≡ m
first_chunks-rest size zero m = let e : zero * size ≡ 0 = omega arith in ap (λ (k : ℕ). drop k m) e
first_chunks-rest size (suc n) m =
    let rest : List ℕ = drop size m in
    let e : size + n * size ≡ suc n * size = omega arith in
    append_assoc (take size m) (concat (first_chunks size n rest)) (drop (suc n * size) m)
    ∙ ap (λ (k : ℕ). take size m ++ (concat (first_chunks size n rest) ++ drop k m)) (sym e)
    ∙ ap (λ (q : List ℕ). take size m ++ (concat (first_chunks size n rest) ++ q)) (sym (drop-drop (n * size) size m))
    ∙ ap (λ (q : List ℕ). take size m ++ q) (first_chunks-rest size n rest)
    ∙ take-append-drop size m

-- a message that is cut into pieces and a rest
pub check_from-cut : (s size n : ℕ) (m : List ℕ) (pieces : List (List ℕ)) (rest : List ℕ) (r t : ℕ) → s < 2 ^ 32
    → pieces ≡ first_chunks size n m → rest ≡ drop (n * size) m
    → r ≡ check_from s (concat pieces) → t ≡ check_from r rest → t ≡ check_from s m
check_from-cut s size n m pieces rest r t h front back before now =
    now ∙ ap (λ (q : ℕ). check_from q rest) before
    ∙ sym (check_from-append s (concat pieces) rest h)
    ∙ ap (check_from s) (rw (front, back) (first_chunks-rest size n m))
