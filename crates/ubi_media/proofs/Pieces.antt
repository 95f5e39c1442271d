-- The pieces of a message are divided in order, and what remains of the last one has the CRC of all.
use Rattle.ubi_media.proofs.Prelude.{◌≡◌, ℕ, zero, suc, ◌+◌, ◌-◌, ◌*◌, ◌/◌, ◌^◌, ◌<◌, ◌≤◌, List, [], ◌∷◌, ◌++◌, length, take, drop, get_or, set, replicate, bit_xor, inl, inr, refl, sym, ap, ◌∙◌, arith, add-zero, add_comm, get_or_append_left, get_or-append_right, get_or-drop, get_or_past, get_or-take, length-replicate, take_all, cases_lt, concat_is, from_le_bytes-to_le_bytes_8, xor_comm, xor_lt, w64, from_le_bytes, AllByRecursion, concat, flat_map, CopiedTo, SameBelow, first_chunks, check_from, AreBytes, word_at, powers, sum_behind, left_of, Carries, IsPieceRemainder, IsQuotient}
use Rattle.std.proofs.lemmas.List.{length-take}
use lib.Bits.{xor_assoc, xor_self, xor_zero_l, xor_zero_r}
use Rattle.ubi_media.proofs.ByteLists.{bytes_each}
use Rattle.ubi_media.proofs.Checks.{check_from-empty, check_from-lt}
use Rattle.ubi_media.proofs.Divisor.{shifts, divisor, divisor-of}
use Rattle.ubi_media.proofs.Fed.{fed, fed-same, fed-sum, fed-parts, fed-nothing, fed-earlier, fed-lt, fed-state}
use Rattle.ubi_media.proofs.FedWords.{word-lt, number-word, check_from-bytes_of, check_from-words, chunks-length, chunks-words, check_from-cut-words}
use Rattle.ubi_media.proofs.Register.{steps}
use Rattle.ubi_media.proofs.Xor.{xor-four, xor-twice}

fed-behind : (ds xs : List ℕ) (n m : ℕ) → AllByRecursion (λ d. d ≤ m) ds → ((k : ℕ) → k < m → get_or xs k 0 ≡ 0)
    → ((k : ℕ) → n ≤ k → get_or xs k 0 ≡ 0)
    → fed 0 (sum_behind ds xs) n ≡ shifts ds (fed 0 (λ k. get_or xs k 0) n)
unfolding shifts
fed-behind [] xs n m most before behind = fed-nothing (sum_behind [] xs) n (λ k below. refl)
fed-behind (d ∷ ds) xs n m most before behind =
    let words : ℕ → ℕ = λ k. get_or xs k 0 in
    fed-sum 0 0 (λ k. words (k + d)) (sum_behind ds xs) n
    ∙ ap (λ q. bit_xor q (fed 0 (sum_behind ds xs) n))
    (fed-earlier words n d (λ k below. before k (omega (arith, most.0))) behind)
    ∙ ap (bit_xor (steps (64 * d) (fed 0 words n))) (fed-behind ds xs n m most.1 before behind)

-- zeros are zeros wherever one looks
zeros-at : (n k : ℕ) → get_or (replicate {A = ℕ} n 0) k 0 ≡ 0
zeros-at zero k = refl
zeros-at (suc n) zero = refl
zeros-at (suc n) (suc k) = zeros-at n k

-- the quotient's words but for those that were carried, between zeros
abbrev added : ℕ → List ℕ → List ℕ
added n xs = replicate n 0 ++ drop n xs

added-before : (n : ℕ) (xs : List ℕ) (k : ℕ) → k < n → get_or (added n xs) k 0 ≡ 0
added-before n xs k below =
    get_or_append_left (replicate n 0) (drop n xs) 0 k (rw (length-replicate {A = ℕ} n 0) below) ∙ zeros-at n k

added-from : (n : ℕ) (xs : List ℕ) (k : ℕ) → n ≤ k → get_or (added n xs) k 0 ≡ get_or xs k 0
added-from n xs k from =
    let e : n + (k - n) ≡ k = omega (arith, from) in
    get_or-append_right (replicate n 0) (drop n xs) n k 0 (length-replicate {A = ℕ} n 0) from
    ∙ get_or-drop n xs (k - n) 0 ∙ ap (λ i. get_or xs i 0) e

added-narrow : (n : ℕ) (xs : List ℕ) (k : ℕ) → ((i : ℕ) → get_or xs i 0 < 2 ^ 64) → get_or (added n xs) k 0 < 2 ^ 64
added-narrow n xs k h = elim (cases_lt k n) [
  | inl below ↦ rw (added-before n xs k below) (omega arith)
  | inr from ↦ rw (added-from n xs k from) (h k)
]

taken-from : (n : ℕ) (xs : List ℕ) (k : ℕ) → n ≤ k → get_or (take n xs) k 0 ≡ 0
taken-from n xs k from = get_or_past (take n xs) k 0 (omega (arith, from, length-take n xs))

carried-and-added : (n : ℕ) (xs : List ℕ) (k : ℕ)
    → get_or xs k 0 ≡ bit_xor (get_or (take n xs) k 0) (get_or (added n xs) k 0)
carried-and-added n xs k = elim (cases_lt k n) [
  | inl below ↦ rw (get_or-take n xs k 0 below, added-before n xs k below) (sym (xor_zero_r (get_or xs k 0)))
  | inr from ↦ rw (taken-from n xs k from, added-from n xs k from) (sym (xor_zero_l (get_or xs k 0)))
]

sum_behind-parts : (ds : List ℕ) (n : ℕ) (xs : List ℕ) (k : ℕ)
    → sum_behind ds xs k ≡ bit_xor (sum_behind ds (take n xs) k) (sum_behind ds (added n xs) k)
sum_behind-parts [] n xs k = refl
sum_behind-parts (d ∷ ds) n xs k =
    ap (λ q. bit_xor q (sum_behind ds xs k)) (carried-and-added n xs (k + d))
    ∙ ap (bit_xor (bit_xor (get_or (take n xs) (k + d) 0) (get_or (added n xs) (k + d) 0))) (sum_behind-parts ds n xs k)
    ∙ xor-four (get_or (take n xs) (k + d) 0) (get_or (added n xs) (k + d) 0) (sum_behind ds (take n xs) k)
    (sum_behind ds (added n xs) k)

sum_behind-same : (ds xs ys : List ℕ) (k i : ℕ) → ((j : ℕ) → get_or xs (k + j) 0 ≡ get_or ys (i + j) 0)
    → sum_behind ds xs k ≡ sum_behind ds ys i
sum_behind-same [] xs ys k i same = refl
sum_behind-same (d ∷ ds) xs ys k i same =
    ap (λ q. bit_xor q (sum_behind ds xs k)) (same d)
    ∙ ap (bit_xor (get_or ys (i + d) 0)) (sum_behind-same ds xs ys k i same)

sum_behind-none : (ds xs : List ℕ) (k : ℕ) → ((j : ℕ) → k ≤ j → get_or xs j 0 ≡ 0) → sum_behind ds xs k ≡ 0
sum_behind-none [] xs k none = refl
sum_behind-none (d ∷ ds) xs k none = rw (none (k + d) (omega arith), sum_behind-none ds xs k none) refl

-- what the words that were carried take off
abbrev owed : List ℕ → ℕ → ℕ
owed quotient = sum_behind powers (take 252 quotient)

-- the register after 252 words 0 is the one after what is taken off
abbrev pub Stands : List ℕ → ℕ → Type 0
Stands quotient s = fed s (λ k. 0) 252 ≡ fed 0 (owed quotient) 252

-- so it is with all words that follow
stands-with : (quotient : List ℕ) (s : ℕ) (f : ℕ → ℕ) (c : ℕ) → Stands quotient s
    → fed s f (252 + c) ≡ fed 0 (λ k. bit_xor (owed quotient k) (f k)) (252 + c)
stands-with quotient s f c stands =
    let none : ℕ → ℕ = λ k. 0 in
    let zeros : fed s none (252 + c) ≡ fed 0 (owed quotient) (252 + c) =
    fed-parts s none 252 c
    ∙ ap (λ t. fed t none c) stands
    ∙ fed-same (fed 0 (owed quotient) 252) none (λ k. owed quotient (252 + k)) c
    (λ k below. sym (sum_behind-none powers (take 252 quotient) (252 + k)
    (λ j from. taken-from 252 quotient j (omega (arith, from)))))
    ∙ sym (fed-parts 0 (owed quotient) 252 c) in
    ap (λ t. fed t f (252 + c)) (sym (xor_zero_r s))
    ∙ fed-same (bit_xor s 0) f (λ k. bit_xor (none k) (f k)) (252 + c) (λ k below. sym (xor_zero_l (f k)))
    ∙ fed-sum s 0 none f (252 + c)
    ∙ ap (λ q. bit_xor q (fed 0 f (252 + c))) zeros
    ∙ sym (fed-sum 0 0 (owed quotient) f (252 + c))

-- what a word of the quotient takes off is all that was left
taken-off : (s w b q : ℕ) → q ≡ bit_xor w (bit_xor s b) → bit_xor (bit_xor s w) (bit_xor q b) ≡ 0
taken-off s w b q e =
    let order : bit_xor w (bit_xor s b) ≡ bit_xor (bit_xor s w) b =
    sym (xor_assoc w s b) ∙ ap (λ x. bit_xor x b) (xor_comm w s) in
    let twice : bit_xor q b ≡ bit_xor s w = rw (e, order) (xor-twice (bit_xor s w) b) in
    rw twice (xor_self (bit_xor s w))

-- the words of a piece, what is owed, and all that the quotient takes off
abbrev all_of : List (List ℕ) → List ℕ → ℕ → ℕ
all_of words quotient k =
    bit_xor (bit_xor (owed quotient k) (word_at words k)) (sum_behind divisor (added 252 quotient) k)

all_of-first : (words : List (List ℕ)) (quotient : List ℕ) (k : ℕ)
    → get_or quotient (252 + k) 0 ≡ left_of words quotient k → all_of words quotient k ≡ 0
all_of-first words quotient k is =
    let here : get_or (added 252 quotient) (k + 252) 0
    ≡ bit_xor (word_at words k) (bit_xor (owed quotient k) (sum_behind powers (added 252 quotient) k)) =
    added-from 252 quotient (k + 252) (omega arith)
    ∙ ap (λ i. get_or quotient i 0) (add_comm k 252) ∙ is
    ∙ ap (bit_xor (word_at words k)) (sum_behind-parts powers 252 quotient k) in
    taken-off (owed quotient k) (word_at words k) (sum_behind powers (added 252 quotient) k)
    (get_or (added 252 quotient) (k + 252) 0) here

all_of-last : (words : List (List ℕ)) (quotient : List ℕ) (k : ℕ) → get_or quotient (k + 252) 0 ≡ 0
    → all_of words quotient k ≡ left_of words quotient k
all_of-last words quotient k far =
    let none : get_or (added 252 quotient) (k + 252) 0 ≡ 0 = added-from 252 quotient (k + 252) (omega arith) ∙ far in
    let rest : ℕ = sum_behind powers (added 252 quotient) k in
    ap (λ q. bit_xor (bit_xor (owed quotient k) (word_at words k)) (bit_xor q rest)) none
    ∙ ap (bit_xor (bit_xor (owed quotient k) (word_at words k))) (xor_zero_l rest)
    ∙ ap (λ q. bit_xor q rest) (xor_comm (owed quotient k) (word_at words k))
    ∙ xor_assoc (word_at words k) (owed quotient k) rest
    ∙ ap (bit_xor (word_at words k)) (sym (sum_behind-parts powers 252 quotient k))

divisor-most : AllByRecursion (λ d. d ≤ 252) divisor
divisor-most = (omega arith, (omega arith, (omega arith, (omega arith, (omega arith, (omega arith, tt))))))

-- a quotient of c words, and what is left of the words behind them: both lead to one register
divided : (words : List (List ℕ)) (c s : ℕ) (before quotient : List ℕ) → Stands quotient s
    → IsQuotient words c before quotient → ((k : ℕ) → 252 + c ≤ k → get_or quotient k 0 ≡ 0)
    → fed s (word_at words) (c + 252) ≡ fed 0 (λ k. left_of words quotient (c + k)) 252
divided words c s before quotient stands is behind =
    let n : ℕ = c + 252 in
    let e : 252 + c ≡ c + 252 = omega arith in
    let xs : List ℕ = added 252 quotient in
    let first : ℕ → ℕ = λ k. bit_xor (owed quotient k) (word_at words k) in
    let all : ℕ → ℕ = all_of words quotient in
    let narrow : (k : ℕ) → get_or xs k 0 < 2 ^ 64 = λ k. added-narrow 252 quotient k is.narrow in
    let none : fed 0 (sum_behind divisor xs) n ≡ 0 =
    fed-behind divisor xs n 252 divisor-most (added-before 252 quotient)
    (λ k from. added-from 252 quotient k (omega (arith, from)) ∙ behind k (omega (arith, from)))
    ∙ divisor-of 32 0 (fed 0 (λ k. get_or xs k 0) n) refl (fed-lt (λ k. get_or xs k 0) n narrow) in
    let zeros : fed 0 all c ≡ 0 =
    fed-nothing all c (λ k below. all_of-first words quotient k (is.words k below)) in
    ap (fed s (word_at words)) (sym e)
    ∙ stands-with quotient s (word_at words) c stands
    ∙ ap (fed 0 first) e
    ∙ sym (xor_zero_r (fed 0 first n))
    ∙ ap (bit_xor (fed 0 first n)) (sym none)
    ∙ sym (fed-sum 0 0 first (sum_behind divisor xs) n)
    ∙ fed-parts 0 all c 252
    ∙ ap (λ t. fed t (λ k. all (c + k)) 252) zeros
    ∙ fed-same 0 (λ k. all (c + k)) (λ k. left_of words quotient (c + k)) 252
    (λ k below. all_of-last words quotient (c + k) (behind (c + k + 252) (omega arith)))

sum_behind-lt : (ds xs : List ℕ) (k : ℕ) → ((i : ℕ) → get_or xs i 0 < 2 ^ 64) → sum_behind ds xs k < 2 ^ 64
sum_behind-lt [] xs k h = omega arith
sum_behind-lt (d ∷ ds) xs k h =
    xor_lt 64 (get_or xs (k + d) 0) (sum_behind ds xs k) (h (k + d)) (sum_behind-lt ds xs k h)

-- a word of 64 bits put at a place
pub set-narrow : (xs : List ℕ) (at v : ℕ) → ((i : ℕ) → get_or xs i 0 < 2 ^ 64) → v < 2 ^ 64
    → (i : ℕ) → get_or (set xs at v) i 0 < 2 ^ 64
set-narrow [] at v h below i = h i
set-narrow (x ∷ xs) zero v h below zero = below
set-narrow (x ∷ xs) zero v h below (suc i) = h (suc i)
set-narrow (x ∷ xs) (suc at) v h below zero = h zero
set-narrow (x ∷ xs) (suc at) v h below (suc i) = set-narrow xs at v (λ k. h (suc k)) below i

taken-same : (n : ℕ) (xs ys : List ℕ) → ((k : ℕ) → k < n → get_or xs k 0 ≡ get_or ys k 0) → (k : ℕ)
    → get_or (take n xs) k 0 ≡ get_or (take n ys) k 0
taken-same n xs ys same k = elim (cases_lt k n) [
  | inl below ↦ get_or-take n xs k 0 below ∙ same k below ∙ sym (get_or-take n ys k 0 below)
  | inr from ↦ taken-from n xs k from ∙ sym (taken-from n ys k from)
]

taken-narrow : (n : ℕ) (xs : List ℕ) → ((k : ℕ) → k < n → get_or xs k 0 < 2 ^ 64) → (k : ℕ)
    → get_or (take n xs) k 0 < 2 ^ 64
taken-narrow n xs narrow k = elim (cases_lt k n) [
  | inl below ↦ rw (get_or-take n xs k 0 below) (narrow k below)
  | inr from ↦ rw (taken-from n xs k from) (omega arith)
]

stands-same : (xs ys : List ℕ) (s : ℕ) → ((k : ℕ) → k < 252 → get_or xs k 0 ≡ get_or ys k 0) → Stands xs s
    → Stands ys s
stands-same xs ys s same stands =
    stands
    ∙ fed-same 0 (owed xs) (owed ys) 252
    (λ k below. sum_behind-same powers (take 252 xs) (take 252 ys) k k (λ j. taken-same 252 xs ys same (k + j)))

-- what the contracts say of the words that are carried, and what it is to the register
stands-carries : (quotient : List ℕ) (s : ℕ) → s < 2 ^ 32 → ((k : ℕ) → k < 252 → get_or quotient k 0 < 2 ^ 64)
    → Stands quotient s → Carries quotient s
stands-carries quotient s h narrow stands = record {
  fits = h;
  after =
      check_from-bytes_of s (λ k. 0) 252 h (λ k below. omega arith)
      ∙ stands
      ∙ sym (check_from-bytes_of 0 (owed quotient) 252 (omega arith)
      (λ k below. sum_behind-lt powers (take 252 quotient) k (taken-narrow 252 quotient narrow)));
}

carries-stands : (quotient : List ℕ) (s : ℕ) → ((k : ℕ) → get_or quotient k 0 < 2 ^ 64) → Carries quotient s
    → Stands quotient s
carries-stands quotient s narrow carries =
    sym (check_from-bytes_of s (λ k. 0) 252 carries.fits (λ k below. omega arith))
    ∙ carries.after
    ∙ check_from-bytes_of 0 (owed quotient) 252 (omega arith)
    (λ k below. sum_behind-lt powers (take 252 quotient) k (taken-narrow 252 quotient (λ i low. narrow i)))

-- a state alone, where the first word looks for it
owed-state : (s : ℕ) (quotient : List ℕ) (k : ℕ) → ((j : ℕ) → get_or quotient j 0 ≡ get_or (s ∷ []) j 0)
    → owed quotient k ≡ bit_xor (get_or (s ∷ []) k 0) 0
owed-state s quotient k is =
    let here : (j : ℕ) → get_or (take 252 quotient) j 0 ≡ get_or (s ∷ []) j 0 = λ j. elim (cases_lt j 252) [
      | inl below ↦ get_or-take 252 quotient j 0 below ∙ is j
      | inr from ↦ taken-from 252 quotient j from ∙ sym (get_or_past (s ∷ []) j 0 (omega (arith, from)))
    ] in
    let far : (j : ℕ) → 1 ≤ j → get_or (take 252 quotient) j 0 ≡ 0 = λ j from.
    here j ∙ get_or_past (s ∷ []) j 0 (omega (arith, from)) in
    rw (
      far (k + 236) (omega arith),
      far (k + 202) (omega arith),
      far (k + 59) (omega arith),
      far (k + 28) (omega arith),
      here (k + 0),
      add-zero k,
    ) (xor_zero_l _ ∙ xor_zero_l _ ∙ xor_zero_l _ ∙ xor_zero_l _)

state-first : (n s k : ℕ) → 0 < n → get_or (set (replicate {A = ℕ} n 0) 0 s) k 0 ≡ get_or (s ∷ []) k 0
state-first zero s k h = absurd (omega arith)
state-first (suc n) s zero h = refl
state-first (suc n) s (suc k) h = zeros-at n k

carries-state : (n s : ℕ) → 0 < n → s < 2 ^ 32 → Carries (set (replicate {A = ℕ} n 0) 0 s) s
carries-state n s some h =
    let quotient : List ℕ = set (replicate {A = ℕ} n 0) 0 s in
    stands-carries quotient s h
    (λ k below. set-narrow (replicate {A = ℕ} n 0) 0 s (λ i. rw (zeros-at n i) (omega arith)) (omega (arith, h)) k)
    (sym (fed-same 0 (owed quotient) (λ k. bit_xor (get_or (s ∷ []) k 0) 0) 252
    (λ k below. owed-state s quotient k (λ j. state-first n s j some))
    ∙ fed-state s (λ k. 0) 251))

pub carries-start : (n s v : ℕ) → 0 < n → s < 2 ^ 32 → v ≡ s
    → Carries (set (replicate {A = ℕ} n 0) 0 v) (check_from s [])
carries-start n s v some h e = rw (e, check_from-empty s h) (carries-state n s some h)

-- no words behind a piece
words-past : (n k : ℕ) (m : List ℕ) → n ≤ k → word_at (first_chunks 8 n m) k ≡ 0
words-past n k m from =
    ap (from_le_bytes w64) (get_or_past (first_chunks 8 n m) k [] (omega (arith, from, chunks-length n m)))

-- the last words of the quotient of a piece, carried to the front, stand for the state after the piece
pub carries-on : (piece : List ℕ) (words : List (List ℕ)) (before whole after : List ℕ) (s : ℕ)
    → length piece ≡ 12288 → ((i : ℕ) → get_or piece i 0 < 256) → words ≡ first_chunks 8 (length piece / 8) piece
    → ((i : ℕ) → get_or before i 0 < 2 ^ 64) → length whole ≡ 1788 → IsQuotient words 1536 before whole
    → CopiedTo whole after 1536 0 (length whole - 1536) → Carries before s → Carries after (check_from s piece)
carries-on piece words before whole after s size below cut narrow long is copy carries =
    let are : AreBytes piece = bytes_each piece below in
    let cut_at : words ≡ first_chunks 8 1536 piece = cut ∙ ap (λ l. first_chunks 8 (l / 8) piece) size in
    let stands : Stands whole s =
    stands-same before whole s (λ k low. sym (is.carried k low)) (carries-stands before s narrow carries) in
    let behind : (k : ℕ) → 1788 ≤ k → get_or whole k 0 ≡ 0 = λ k from.
    get_or_past whole k 0 (omega (arith, from, long)) in
    let copied : (k : ℕ) → k < 252 → get_or after k 0 ≡ get_or whole (1536 + k) 0 = λ k low.
    let e : k - 0 ≡ k = omega arith in
    copy k 0 (omega arith) (omega (arith, low, long)) ∙ ap (λ i. get_or whole (1536 + i) 0) e in
    let moved : (k : ℕ) → get_or whole (1536 + k) 0 ≡ get_or (take 252 after) k 0 = λ k. elim (cases_lt k 252) [
      | inl low ↦ sym (get_or-take 252 after k 0 low ∙ copied k low)
      | inr from ↦ behind (1536 + k) (omega (arith, from)) ∙ sym (taken-from 252 after k from)
    ] in
    let past : (k : ℕ) → word_at words (1536 + k) ≡ 0 = λ k.
    ap (λ ws. word_at ws (1536 + k)) cut_at ∙ words-past 1536 (1536 + k) piece (omega arith) in
    let left : (k : ℕ) → left_of words whole (1536 + k) ≡ owed after k = λ k.
    ap (λ w. bit_xor w (sum_behind powers whole (1536 + k))) (past k)
    ∙ xor_zero_l (sum_behind powers whole (1536 + k))
    ∙ sum_behind-same powers whole (take 252 after) (1536 + k) k
    (λ j. let e : 1536 + k + j ≡ 1536 + (k + j) = omega arith in ap (λ i. get_or whole i 0) e ∙ moved (k + j)) in
    let now : check_from s piece ≡ fed s (word_at words) 1536 =
    check_from-cut-words s 1536 piece carries.fits size are ∙ ap (λ ws. fed s (word_at ws) 1536) (sym cut_at) in
    stands-carries after (check_from s piece) (check_from-lt s piece carries.fits)
    (λ k low. rw (copied k low) (is.narrow (1536 + k)))
    (ap (λ t. fed t (λ k. 0) 252) now
    ∙ fed-same (fed s (word_at words) 1536) (λ k. 0) (λ k. word_at words (1536 + k)) 252 (λ k low. sym (past k))
    ∙ sym (fed-parts s (word_at words) 1536 252)
    ∙ divided words 1536 s before whole stands is behind
    ∙ fed-same 0 (λ k. left_of words whole (1536 + k)) (owed after) 252 (λ k low. left k))

-- what remains of the last piece has the check of the piece after what was carried
pub check_from-last : (piece : List ℕ) (words : List (List ℕ)) (before clear quotient : List ℕ)
    (remainder : List (List ℕ)) (bytes : List ℕ) (s r : ℕ)
    → length piece ≡ 12288 → ((i : ℕ) → get_or piece i 0 < 256) → words ≡ first_chunks 8 (length piece / 8) piece
    → ((i : ℕ) → get_or before i 0 < 2 ^ 64) → SameBelow before clear 1536
    → ((k : ℕ) → 1536 ≤ k → get_or clear k 0 ≡ 0) → IsQuotient words 1284 clear quotient
    → IsPieceRemainder words quotient remainder → bytes ≡ flat_map (λ x. x) remainder → r ≡ check_from 0 bytes
    → Carries before s → r ≡ check_from s piece
check_from-last piece words before clear quotient remainder bytes s r size below cut narrow same zeros is left flat now
    carries =
    let are : AreBytes piece = bytes_each piece below in
    let cut_at : words ≡ first_chunks 8 1536 piece = cut ∙ ap (λ l. first_chunks 8 (l / 8) piece) size in
    let stands : Stands quotient s =
    stands-same before quotient s (λ k low. sym (is.carried k low ∙ same k 0 (omega (arith, low))))
    (carries-stands before s narrow carries) in
    let behind : (k : ℕ) → 1536 ≤ k → get_or quotient k 0 ≡ 0 = λ k from. is.behind k from ∙ zeros k from in
    let fits : (k : ℕ) → k < 252 → left_of words quotient (1284 + k) < 2 ^ 64 = λ k low.
    xor_lt 64 (word_at words (1284 + k)) (sum_behind powers quotient (1284 + k))
    (rw cut_at (word-lt (get_or (first_chunks 8 1536 piece) (1284 + k) [])
    (chunks-words 1536 piece (1284 + k) (omega (arith, size)) are (omega (arith, low)))))
    (sum_behind-lt powers quotient (1284 + k) is.narrow) in
    let whole : bytes ≡ concat (take 252 remainder) =
    flat ∙ sym (concat_is remainder) ∙ ap concat (sym (take_all 252 remainder (omega (arith, left.long)))) in
    now ∙ ap (check_from 0) whole
    ∙ check_from-words 0 remainder 252 (omega arith)
    (λ k low. rw (left.words k low) (number-word (left_of words quotient (1284 + k)))) (omega (arith, left.long))
    ∙ fed-same 0 (word_at remainder) (λ k. left_of words quotient (1284 + k)) 252
    (λ k low. ap (from_le_bytes w64) (left.words k low)
    ∙ from_le_bytes-to_le_bytes_8 (left_of words quotient (1284 + k)) (fits k low))
    ∙ sym (divided words 1284 s clear quotient stands is behind)
    ∙ ap (λ ws. fed s (word_at ws) 1536) cut_at
    ∙ sym (check_from-cut-words s 1536 piece carries.fits size are)

-- a word and five others, added one after the other
pub word-and-five : (w a b c d e : ℕ)
    → bit_xor (bit_xor (bit_xor (bit_xor (bit_xor w a) b) c) d) e
    ≡ bit_xor w (bit_xor a (bit_xor b (bit_xor c (bit_xor d (bit_xor e 0)))))
word-and-five w a b c d e =
    rw (xor_zero_r e)
    (xor_assoc (bit_xor (bit_xor (bit_xor w a) b) c) d e
    ∙ xor_assoc (bit_xor (bit_xor w a) b) c (bit_xor d e)
    ∙ xor_assoc (bit_xor w a) b (bit_xor c (bit_xor d e))
    ∙ xor_assoc w a (bit_xor b (bit_xor c (bit_xor d e))))
