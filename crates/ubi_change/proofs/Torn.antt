-- From which number of pages on contents that were cut short are whole, and that their CRC shows the cut before.
use Rattle.ubi_change.proofs.Prelude.{◌≡◌, ℕ, zero, suc, ◌+◌, ◌-◌, ◌*◌, ◌%◌, ◌<◌, ◌≤◌, ◌⊎◌, inl, inr, Bool, true, false, cond, not, List, [], ◌∷◌, ◌++◌, length, take, drop, refl, ap, ap₂, sym, ◌∙◌, subst, arith, None, Option, Some, ◌==◌, ◌&&◌, find, nat_eq, unwrap_or, range_with_len, div-add-mod, nat_tests, drop-drop, drop_at, length-take-le, take-append-drop, take_all, crc_of, blank, filled, same_bytes, Sizes, is_weak, is_whole, pages_of, torn, weak_pages, pages_needed, drop_blank, filled-by}
use Rattle.std.proofs.lemmas.Nat as nat

same_true : (xs ys : List ℕ) → same_bytes xs ys ≡ true → xs ≡ ys
same_true [] [] e = refl
same_true [] (y ∷ ys) e = absurd (cc)
same_true (x ∷ xs) [] e = absurd (cc)
same_true (x ∷ xs) (y ∷ ys) e = by_test (nat_eq x y) refl e (same_true xs ys)
  where
    by_test : (b : Bool) → nat_eq x y ≡ b → (b && same_bytes xs ys) ≡ true → (same_bytes xs ys ≡ true → xs ≡ ys)
        → (x ∷ xs) ≡ (y ∷ ys)
    by_test true h e rest = let same : x ≡ y = (grind (arith, nat_tests)) in ap₂ (λ u v. u ∷ v) same (rest e)
    by_test false h e rest = absurd (cc)

-- the first number of a range that passes a test
pub record IsFirstJudged (p : ℕ → Bool) (a n k : ℕ) : Type 0 where
  pub low : a ≤ k
  pub high : k < a + n
  pub passes : p k ≡ true
  pub before : (j : ℕ) → a ≤ j → j < k → p j ≡ false

same_or_above : (a j : ℕ) → a ≤ j → (j ≡ a) ⊎ (a + 1 ≤ j)
same_or_above a j l = grind arith

abbrev pub FoundOrNone : (ℕ → Bool) → ℕ → ℕ → Option ℕ → Type 0
FoundOrNone p a n found = ((found ≡ None) × ((j : ℕ) → a ≤ j → j < a + n → p j ≡ false))
    ⊎ ((k : ℕ) × (found ≡ Some k) × IsFirstJudged p a n k)

find_next : (p : ℕ → Bool) (a n : ℕ) (b : Bool) (rest : Option ℕ) → p a ≡ b → FoundOrNone p (a + 1) n rest
    → FoundOrNone p a (suc n) (cond b (Some a) rest)
find_next p a n true rest e h =
    inr (a, refl, record { low = omega arith; high = omega arith; passes = e; before = λ j l h. absurd (omega arith) })
find_next p a n false rest e (inl r) = inl (
  r.0,
  λ j l h. elim (same_or_above a j l) [
    | inl same ↦ ap p same ∙ e
    | inr m ↦ r.1 j m (omega arith)
  ],
)
find_next p a n false rest e (inr r) =
    let f = r.2 in
    inr (
      r.0,
      r.1,
      record {
        low = (let l = f.low in omega arith);
        high = (let l = f.high in omega arith);
        passes = f.passes;
        before = λ j l h. elim (same_or_above a j l) [
          | inl same ↦ ap p same ∙ e
          | inr m ↦ f.before j m h
        ];
      },
    )

pub find_range : (p : ℕ → Bool) (a n : ℕ) → FoundOrNone p a n (find p (range_with_len a n))
find_range p a zero = inl (refl, λ j l h. absurd (omega arith))
find_range p a (suc n) = find_next p a n (p a) (find p (range_with_len (a + 1) n)) refl (find_range p (a + 1) n)

module _ (s : Sizes) (new : List ℕ) (paged : length new % s.page ≡ 0) where
  pub pages-all : pages_of s new * s.page ≡ length new
  pages-all = let k = div-add-mod (length new) s.page in omega arith

  torn-all : torn s new (pages_of s new) ≡ new
  torn-all =
      let zero_left : length new - length new ≡ 0 = omega arith in
      ap (filled (length new)) (take_all (pages_of s new * s.page) new (let k = pages-all in omega arith))
      ∙ filled-by (length new) (length new) new refl ∙ ap (λ n. new ++ blank n) zero_left ∙ none new
    where
      none : (xs : List ℕ) → xs ++ [] ≡ xs
      none [] = refl
      none (x ∷ xs) = ap (λ ys. x ∷ ys) (none xs)

  -- the place from which on the text is whole
  pub record IsWholePlace (w : ℕ) : Type 0 where
    pub most : w ≤ pages_of s new
    pub whole : torn s new w ≡ new
    pub before : (j : ℕ) → j < w → is_whole s new j ≡ false

  pub whole_place-is : IsWholePlace (pages_needed s new)
  whole_place-is = elim (find_range (is_whole s new) 0 (pages_of s new)) [
    | inl r ↦ subst IsWholePlace (sym (ap (λ (o : Option ℕ). unwrap_or o (pages_of s new)) r.0))
        (record { most = omega arith; whole = torn-all; before = λ j l. r.1 j (omega arith) (omega arith) })
    | inr r ↦ (let f = r.2 in subst IsWholePlace (sym (ap (λ (o : Option ℕ). unwrap_or o (pages_of s new)) r.1))
        (record {
          most = (let h = f.high in omega arith);
          whole = same_true _ _ f.passes;
          before = λ j l. f.before j (omega arith) l;
        }))
  ]

  -- with more pages it is whole too
  later : (k m : ℕ) (xs : List ℕ) → k ≤ m → m ≤ length xs → filled (length xs) (take k xs) ≡ xs
      → filled (length xs) (take m xs) ≡ xs
  later k m xs l h e =
      let front : length (take k xs) ≡ k = length-take-le k xs (omega arith) in
      let rest : drop k xs ≡ blank (length xs - k) =
      ap (drop k) (sym (sym (filled-by (length xs) k (take k xs) front) ∙ e))
      ∙ drop_at (take k xs) (blank (length xs - k)) k front in
      let sum : m ≡ k + (m - k) = omega arith in
      let gap : (length xs - k) - (m - k) ≡ length xs - m = omega arith in
      let tail : drop m xs ≡ blank (length xs - m) =
      ap (λ n. drop n xs) sum ∙ sym (drop_twice k (m - k) xs) ∙ ap (drop (m - k)) rest
      ∙ drop_blank (m - k) (length xs - k) ∙ ap blank gap in
      filled-by (length xs) m (take m xs) (length-take-le m xs h) ∙ ap (λ ys. take m xs ++ ys) (sym tail)
      ∙ take-append-drop m xs
    where
      drop_twice : (k n : ℕ) (xs : List ℕ) → drop n (drop k xs) ≡ drop (k + n) xs
      drop_twice k n xs = drop-drop n k xs

  pub whole-from : (j : ℕ) → pages_needed s new ≤ j → j ≤ pages_of s new → torn s new j ≡ new
  whole-from j l h =
      let p = pages-all in
      later (pages_needed s new * s.page) (j * s.page) new (mul-mono (pages_needed s new) j s.page l)
      (let m = mul-mono j (pages_of s new) s.page h in omega arith) whole_place-is.whole
    where
      mul-mono : (a b c : ℕ) → a ≤ b → a * c ≤ b * c
      mul-mono a b c h = nat.mul-le a c b c h (omega arith)

  -- before it is whole the check tells, where none is weak
  pub told-before : weak_pages s new ≡ None → (j : ℕ) → j < pages_needed s new
      → (crc_of (torn s new j) == crc_of new) ≡ false
  told-before strong j l =
      let w = whole_place-is in
      let below : j < pages_of s new = (let m = w.most in omega arith) in
      let each : is_weak s new j ≡ false = elim (find_range (is_weak s new) 0 (pages_of s new)) [
        | inl r ↦ r.1 j (omega arith) (omega arith)
        | inr r ↦ (let e = r.1 in let f = strong in absurd (cc))
      ] in
      sym (ap (λ b. not b && (crc_of (torn s new j) == crc_of new)) (w.before j l)) ∙ each

  pub told-from : (j : ℕ) → pages_needed s new ≤ j → j ≤ pages_of s new → (crc_of (torn s new j) == crc_of new) ≡ true
  told-from j l h = ap (λ t. crc_of t == crc_of new) (whole-from j l h) ∙ one (crc_of new)
    where
      one : (x : ℕ) → (x == x) ≡ true
      one x = grind (arith, nat_tests)
