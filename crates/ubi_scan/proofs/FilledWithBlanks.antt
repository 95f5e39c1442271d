-- Bytes that are filled up with 0xFF: their parts, and what overwrites them.
use Rattle.ubi_scan.proofs.Prelude.{◌≡◌, ℕ, zero, suc, ◌+◌, ◌-◌, ◌≤◌, List, [], ◌∷◌, ◌++◌, append_assoc, length, take, drop, refl, ap, sym, ◌∙◌, arith, length-append, drop-drop, drop-replicate, drop_at, length-replicate, replicate-append-replicate, take-replicate, take_at, blank, filled, overwrite}
use Rattle.std.specs.Prelude.{slice_range}
use Rattle.std.proofs.Math.Path.{ap₂}

pub length-blank : (n : ℕ) → length (blank n) ≡ n
length-blank n = length-replicate {A = ℕ} n 255

pub join_blank : (a b : ℕ) → blank a ++ blank b ≡ blank (a + b)
join_blank a b = replicate-append-replicate a b 255

pub drop_blank : (k n : ℕ) → drop k (blank n) ≡ blank (n - k)
drop_blank zero n = ap blank (omega arith)
drop_blank (suc k) zero = let e : 0 ≡ 0 - suc k = omega arith in ap blank e
drop_blank (suc k) (suc n) = drop_blank k n ∙ ap blank (omega arith)

pub filled-is : (n : ℕ) (xs : List ℕ) → filled n xs ≡ xs ++ blank (n - length xs)
unfolding filled
filled-is n xs = refl

pub filled-by : (n k : ℕ) (xs : List ℕ) → length xs ≡ k → filled n xs ≡ xs ++ blank (n - k)
unfolding filled
filled-by n k xs e = ap (λ j. xs ++ blank (n - j)) e

pub length-filled : (n : ℕ) (xs : List ℕ) → length xs ≤ n → length (filled n xs) ≡ n
unfolding filled
length-filled n xs h =
    let e = length-append xs (blank (n - length xs)) in
    let k = length-blank (n - length xs) in
    omega (arith, e, k)

overwrite-is : (at : ℕ) (xs bytes : List ℕ) → overwrite at xs bytes ≡ take at bytes ++ xs ++ drop (at + length xs) bytes
unfolding overwrite
overwrite-is at xs bytes = refl

-- behind what is filled up already
pub overwrite_filled : (n at : ℕ) (front c : List ℕ) → length front ≡ at
    → overwrite at c (filled n front) ≡ filled n (front ++ c)
overwrite_filled n at front c e =
    let r = n - at in
    let more : n - at - length c ≡ n - length (front ++ c) = (let k = length-append front c in omega arith) in
    overwrite-is at c (filled n front)
    ∙ ap (λ x. take at x ++ c ++ drop (at + length c) x) (filled-by n at front e)
    ∙ ap (λ x. x ++ c ++ drop (at + length c) (front ++ blank r)) (take_at front (blank r) at e)
    ∙ ap (λ x. front ++ c ++ x) (sym (drop-drop (length c) at (front ++ blank r))
    ∙ ap (drop (length c)) (drop_at front (blank r) at e) ∙ drop_blank (length c) r)
    ∙ ap (λ k. (front ++ c) ++ blank k) more ∙ sym (filled-is n (front ++ c))

pub filled_more : (n k : ℕ) (xs : List ℕ) → length xs ≤ k → k ≤ n → filled n (filled k xs) ≡ filled n xs
filled_more n k xs h l =
    let e : (k - length xs) + (n - k) ≡ n - length xs = omega arith in
    filled-by n k (filled k xs) (length-filled k xs h) ∙ ap (λ x. x ++ blank (n - k)) (filled-is k xs)
    ∙ append_assoc xs (blank (k - length xs)) (blank (n - k))
    ∙ ap (λ x. xs ++ x) (join_blank (k - length xs) (n - k) ∙ ap blank e) ∙ sym (filled-is n xs)

pub filled_inner : (n k : ℕ) (a b : List ℕ) → length b ≤ k → length a + k ≤ n
    → filled n (a ++ filled k b) ≡ filled n (a ++ b)
filled_inner n k a b h l =
    let e : (k - length b) + (n - (length a + k)) ≡ n - length (a ++ b) = (let m = length-append a b in omega arith) in
    let whole : length (a ++ filled k b) ≡ length a + k = length-append a (filled k b)
    ∙ ap (λ j. length a + j) (length-filled k b h) in
    filled-by n (length a + k) (a ++ filled k b) whole
    ∙ ap (λ x. (a ++ x) ++ blank (n - (length a + k))) (filled-is k b)
    ∙ ap (λ x. x ++ blank (n - (length a + k))) (sym (append_assoc a b (blank (k - length b))))
    ∙ append_assoc (a ++ b) (blank (k - length b)) (blank (n - (length a + k)))
    ∙ ap (λ x. (a ++ b) ++ x) (join_blank (k - length b) (n - (length a + k)) ∙ ap blank e) ∙ sym (filled-is n (a ++ b))

pub filled-none : (n : ℕ) → filled n [] ≡ blank n
filled-none n = filled-is n [] ∙ ap blank (omega arith)

-- written over the front
pub overwrite_front : (n k : ℕ) (c xs : List ℕ) → length xs ≤ k → length c ≡ k
    → overwrite 0 c (filled n xs) ≡ filled n c
overwrite_front n k c xs h e =
    let gap : (n - length xs) - (k - length xs) ≡ n - k = omega arith in
    let end : 0 + length c ≡ k = omega arith in
    overwrite-is 0 c (filled n xs) ∙ ap (λ j. c ++ drop j (filled n xs)) end
    ∙ ap (λ x. c ++ drop k x) (filled-is n xs)
    ∙ ap (λ x. c ++ x) (drop_past xs (blank (n - length xs)) k h ∙ drop_blank (k - length xs) (n - length xs)
    ∙ ap blank gap)
    ∙ sym (filled-by n k c e)
  where
    drop_past : (xs ys : List ℕ) (k : ℕ) → length xs ≤ k → drop k (xs ++ ys) ≡ drop (k - length xs) ys
    drop_past [] ys k h = ap (λ j. drop j ys) (omega arith)
    drop_past (x ∷ xs) ys zero h = absurd (omega arith)
    drop_past (x ∷ xs) ys (suc k) h = drop_past xs ys k (omega arith) ∙ ap (λ j. drop j ys) (omega arith)

-- a part of what stands behind a list and is 0xFF
pub behind : (xs : List ℕ) (n at k : ℕ) → length xs ≤ at → at + k ≤ length xs + n
    → slice_range (xs ++ blank n) at (at + k) ≡ blank k
behind xs n at k from to =
    let count : at + k - at ≡ k = omega arith in
    let split : at ≡ length xs + (at - length xs) = omega arith in
    let left : k ≤ n - (at - length xs) = omega arith in
    let rest : drop at (xs ++ blank n) ≡ blank (n - (at - length xs)) =
    ap (λ j. drop j (xs ++ blank n)) split ∙ sym (drop-drop (at - length xs) (length xs) (xs ++ blank n))
    ∙ ap (drop (at - length xs)) (drop_at xs (blank n) (length xs) refl) ∙ drop-replicate (at - length xs) n 255 in
    ap₂ take count rest ∙ take-replicate k (n - (at - length xs)) 255 left
