-- Whether the first pages of some contents are weak, by the CRC of their front and the bytes after it; and the least
-- such place.
use Rattle.ubi_change.proofs.Prelude.{◌≡◌, ℕ, ◌+◌, ◌-◌, ◌*◌, ◌^◌, ◌<◌, ◌≤◌, inl, inr, Bool, true, false, not, List, [], ◌∷◌, ◌++◌, length, take, drop, refl, ap, ap₂, sym, ◌∙◌, arith, length-drop, None, Some, ◌==◌, ◌&&◌, nat_tests, length-take-le, take-append-drop, take_all, crc_of, check_from, blank, is_blank, same_bytes, Sizes, check_from-append, check_from-empty, below_same_or_above, filled-by, join_blank, is_weak, is_whole, pages_of, torn, weak_pages}
use Rattle.std.proofs.Math.Seq.{take-add}
use Rattle.ubi_change.proofs.Torn.{find_range}

same_front : (xs a b : List ℕ) → same_bytes (xs ++ a) (xs ++ b) ≡ same_bytes a b
same_front [] a b = refl
same_front (x ∷ xs) a b = ap (λ t. t && same_bytes (xs ++ a) (xs ++ b)) (itself x) ∙ same_front xs a b
  where
    itself : (n : ℕ) → (n == n) ≡ true
    itself n = grind (arith, nat_tests)

same_blank : (xs : List ℕ) → same_bytes (blank (length xs)) xs ≡ is_blank xs
same_blank [] = refl
same_blank (x ∷ xs) = ap₂ (λ a b. a && b) (turned 255 x) (same_blank xs)
  where
    turned : (a b : ℕ) → (a == b) ≡ (b == a)
    turned a b = grind (arith, nat_tests)

module _ (s : Sizes) (new : List ℕ) (k : ℕ) (inside : k * s.page ≤ length new) where
  abbrev front : List ℕ
  front = take (k * s.page) new

  abbrev rest : List ℕ
  rest = drop (k * s.page) new

  torn-is : torn s new k ≡ front ++ blank (length rest)
  torn-is =
      let e : length new - k * s.page ≡ length rest = sym (length-drop (k * s.page) new) in
      filled-by (length new) (k * s.page) front (length-take-le (k * s.page) new inside) ∙ ap (λ n. front ++ blank n) e

  pub whole-is : is_whole s new k ≡ is_blank rest
  whole-is = ap₂ same_bytes torn-is (sym (take-append-drop (k * s.page) new))
      ∙ same_front front (blank (length rest)) rest ∙ same_blank rest

  check-is : crc_of (torn s new k) ≡ check_from (crc_of front) (blank (length rest))
  check-is = ap crc_of torn-is ∙ check_from-append 0xFFFFFFFF front (blank (length rest)) (omega arith)

  pub weak-is : is_weak s new k ≡ (not (is_blank rest) && (check_from (crc_of front) (blank (length rest)) == crc_of new))
  weak-is = ap₂ (λ a c. not a && (c == crc_of new)) whole-is check-is

  -- as the program finds it out
  pub weak_told : (size start part whole : ℕ) (t : Bool) → size ≡ s.page → start ≡ k * size → part ≡ crc_of front
      → whole ≡ crc_of new
      → t
      ≡ (not (is_blank (take (length new - start) (drop start new))) && (check_from part
      (blank (length (take (length new - start) (drop start new)))) == whole)) → is_weak s new k ≡ t
  weak_told size start part whole t same at e f told =
      let place : start ≡ k * s.page = at ∙ ap (λ n. k * n) same in
      let all : take (length new - start) (drop start new) ≡ rest =
      take_all (length new - start) (drop start new) (omega (arith, length-drop start new))
      ∙ ap (λ n. drop n new) place in
      weak-is ∙ sym (told ∙ ap (λ r. not (is_blank r) && (check_from part (blank (length r)) == whole)) all
      ∙ ap₂ (λ x y. not (is_blank rest) && (check_from x (blank (length rest)) == y)) e f)

-- the check of a page more
pub front_more : (s : Sizes) (new : List ℕ) (k size start part next : ℕ) → size ≡ s.page → start ≡ k * size
    → part ≡ crc_of (take (k * s.page) new)
    → next ≡ check_from part (take (start + size - start) (drop start new)) → next ≡ crc_of (take ((k + 1) * s.page) new)
front_more s new k size start part next same at e f =
    let place : start ≡ k * s.page = at ∙ ap (λ n. k * n) same in
    let count : start + size - start ≡ s.page = omega arith in
    let sum : k * s.page + s.page ≡ (k + 1) * s.page = omega arith in
    f ∙ ap₂ (λ x n. check_from x (take n (drop start new))) e count
    ∙ ap (λ n. check_from (crc_of (take (k * s.page) new)) (take s.page (drop n new))) place
    ∙ sym (check_from-append 0xFFFFFFFF (take (k * s.page) new) (take s.page (drop (k * s.page) new)) (omega arith))
    ∙ ap crc_of (sym (take-add (k * s.page) s.page new) ∙ ap (λ n. take n new) sum)

pub front_none : (s : Sizes) (new : List ℕ) → 0xFFFFFFFF ≡ crc_of (take (0 * s.page) new)
front_none s new = let e : 0 ≡ 0 * s.page = omega arith in sym (check_from-empty 0xFFFFFFFF (omega arith))
    ∙ ap (λ n. crc_of (take n new)) e

-- the check of 64 bytes 0xFF more
pub blank_more : (state n part : ℕ) → state < 2 ^ 32 → part ≡ check_from state (blank (n * 64))
    → check_from part (blank 64) ≡ check_from state (blank ((n + 1) * 64))
blank_more state n part small e =
    let sum : n * 64 + 64 ≡ (n + 1) * 64 = omega arith in
    ap (λ x. check_from x (blank 64)) e ∙ sym (check_from-append state (blank (n * 64)) (blank 64) small)
    ∙ ap (check_from state) (join_blank (n * 64) 64 ∙ ap blank sum)

module _ (s : Sizes) (new : List ℕ) where
  pub no_place : ((j : ℕ) → j < pages_of s new → is_weak s new j ≡ false) → weak_pages s new ≡ None
  no_place none = elim (find_range (is_weak s new) 0 (pages_of s new)) [
    | inl r ↦ r.0
    | inr r ↦ (let f = r.2 in let high = f.high in let e = none r.0 (omega arith) in let p = f.passes in absurd (cc))
  ]

  pub first_place : (k : ℕ) → k < pages_of s new → is_weak s new k ≡ true → ((j : ℕ) → j < k → is_weak s new j ≡ false)
      → weak_pages s new ≡ Some k
  first_place k inside here before = elim (find_range (is_weak s new) 0 (pages_of s new)) [
    | inl r ↦ (let e = r.1 k (omega arith) (omega arith) in absurd (cc))
    | inr r ↦ (let f = r.2 in elim (below_same_or_above r.0 k) [
      | inl l ↦ (let e = before r.0 l in let p = f.passes in absurd (cc))
      | inr o ↦ elim o [
        | inl same ↦ r.1 ∙ ap Some same
        | inr l ↦ (let e = f.before k (omega arith) l in absurd (cc))
      ]
    ])
  ]
