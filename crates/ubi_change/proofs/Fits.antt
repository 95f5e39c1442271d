-- When steps fit: lists of steps, programs of blank pages, and an erase with its header.
use Rattle.ubi_change.proofs.Prelude.{◌≡◌, ℕ, zero, suc, ◌+◌, ◌-◌, ◌*◌, ◌/◌, ◌<◌, ◌≤◌, inl, inr, Bool, true, false, List, [], ◌∷◌, ◌++◌, length, set, refl, ap, ap₂, sym, ◌∙◌, subst, arith, length-set, get_or-set_same, ◌==◌, ◌&&◌, bit_and, nat_lt, and_self, nat_tests, common_steps, div-add-mod, same_Some, ec_bytes, AreBytes, blank, filled, Sizes, IsGeometry, EcHeader, bytes-append, bytes-blank, zero_or_more, block, AllFit, fits, only_clears, page_of, renew, step_done, Step, behind, filled-is, length-filled}
use Rattle.ubi_change.specs.declared.step.Step.TheVariants as step
use Rattle.ubi_change.proofs.Runs.{done}

cleared : (x : ℕ) → x < 256 → (bit_and 255 x == x) ≡ true
cleared x l = same (bit_and 255 x) x (and_all x l)
  where
    same : (a b : ℕ) → a ≡ b → (a == b) ≡ true
    same a b e = grind (arith, nat_tests)

    and_all : (x : ℕ) → x < 256 → bit_and 255 x ≡ x
    and_all x l = grind (arith, common_steps)

-- a blank page takes any bytes, and the same bytes fit themselves
pub clears_blank : (xs : List ℕ) (n : ℕ) → length xs ≡ n → AreBytes xs → only_clears (blank n) xs ≡ true
clears_blank [] zero e a = refl
clears_blank [] (suc n) e a = absurd (omega arith)
clears_blank (x ∷ xs) zero e a = absurd (omega arith)
clears_blank (x ∷ xs) (suc n) e a = ap (λ b. b && only_clears (blank n) xs) (cleared x a.0)
    ∙ clears_blank xs n (omega arith) a.1

pub clears_same : (xs : List ℕ) → only_clears xs xs ≡ true
clears_same [] = refl
clears_same (x ∷ xs) = ap (λ b. b && only_clears xs xs) (same (bit_and x x) x (and_self x)) ∙ clears_same xs
  where
    same : (a b : ℕ) → a ≡ b → (a == b) ≡ true
    same a b e = grind (arith, nat_tests)

pub clears-append : (old new old_rest new_rest : List ℕ) → length old ≡ length new → only_clears old new ≡ true
    → only_clears (old ++ old_rest) (new ++ new_rest) ≡ only_clears old_rest new_rest
clears-append [] [] u v e h = refl
clears-append [] (x ∷ xs) u v e h = absurd (omega arith)
clears-append (a ∷ os) [] u v e h = absurd (omega arith)
clears-append (a ∷ os) (x ∷ xs) u v e h = by_test (bit_and a x == x) h (clears-append os xs u v (omega arith))
  where
    by_test : (b : Bool) → (b && only_clears os xs) ≡ true
        → (only_clears os xs ≡ true → only_clears (os ++ u) (xs ++ v) ≡ only_clears u v)
        → (b && only_clears (os ++ u) (xs ++ v)) ≡ only_clears u v
    by_test true h rest = rest h
    by_test false h rest = absurd (cc)

module _ (s : Sizes) where
  -- lists of steps, each of which fits
  abbrev pub FitAll : List (List ℕ) → List Step → Type 0
  FitAll bs [] = Unit {0}
  FitAll bs (x ∷ xs) = (fits s bs x ≡ true) × FitAll (step_done s bs x) xs

  pub fit-append : (bs : List (List ℕ)) (xs ys : List Step) → FitAll bs xs → FitAll (done s bs xs) ys
      → FitAll bs (xs ++ ys)
  fit-append bs [] ys a b = b
  fit-append bs (x ∷ xs) ys a b = (a.0, fit-append (step_done s bs x) xs ys a.1 b)

  pub all_fit : (bs : List (List ℕ)) (steps : List Step) → FitAll bs steps → AllFit s bs steps
  all_fit bs [] a k next e = absurd (cc)
  all_fit bs (x ∷ xs) a zero next e = subst (λ (y : Step). fits s bs y ≡ true) (same_Some x next e) a.0
  all_fit bs (x ∷ xs) a (suc k) next e = all_fit (step_done s bs x) xs a.1 k next e

  less_test : (a b : ℕ) → a < b → nat_lt a b ≡ true
  less_test a b l = grind (arith, nat_tests)

  same_test : (a b : ℕ) → a ≡ b → (a == b) ≡ true
  same_test a b e = grind (arith, nat_tests)

  -- one program, and an erase with its header
  pub program_fits : (bs : List (List ℕ)) (p page : ℕ) (c : List ℕ) → p < length bs → page < s.peb_size / s.page
      → length c ≡ s.page
      → only_clears (page_of s (block bs p) page) c ≡ true → fits s bs (step.Program p page c) ≡ true
  program_fits bs p page c inside l size clears =
      ap₂ (λ a b. a && b && (length c == s.page) && only_clears (page_of s (block bs p) page) c)
      (less_test p (length bs) inside) (less_test page (s.peb_size / s.page) l)
      ∙ ap₂ (λ a b. a && b) (same_test (length c) s.page size) clears

  pub blank_page : (front : List ℕ) (n page : ℕ) → length front ≤ page * s.page
      → page * s.page + s.page ≤ length front + n → page_of s (front ++ blank n) page ≡ blank s.page
  blank_page front n page from to = behind front n (page * s.page) s.page from to

  module _ (g : IsGeometry s) (e : EcHeader) (bytes : AreBytes (ec_bytes s e)) (bs : List (List ℕ)) (p : ℕ)
      (inside : p < length bs) where
    pages_some : 0 < s.peb_size / s.page
    pages_some = elim (zero_or_more (s.peb_size / s.page)) [
      | inr m ↦ m
      | inl z ↦
          let split = div-add-mod s.peb_size s.page in
          let none : s.page * (s.peb_size / s.page) ≡ 0 = ap (λ q. s.page * q) z ∙ omega arith in
          let rest = g.peb_pages in
          let some = g.leb in
          absurd (omega arith)
    ]

    full : AreBytes (filled s.page (ec_bytes s e))
    full = subst AreBytes (sym (filled-is s.page (ec_bytes s e)))
        (bytes-append (ec_bytes s e) (blank (s.page - length (ec_bytes s e))) bytes
        (bytes-blank (s.page - length (ec_bytes s e))))

    pub renew_fits : FitAll bs (renew s p e)
    renew_fits =
        let size : length (filled s.page (ec_bytes s e)) ≡ s.page =
        length-filled s.page (ec_bytes s e) (let l = g.page_from in let k : length (ec_bytes s e) ≡ 64 = refl in
        omega arith) in
        let some : 0 < s.peb_size / s.page = pages_some in
        let here : page_of s (block (set bs p (blank s.peb_size)) p) 0 ≡ blank s.page =
        ap (λ b. page_of s b 0) (get_or-set_same bs p (blank s.peb_size) [] inside)
        ∙ blank_page [] s.peb_size 0 (omega arith) (let l = g.peb_from in omega arith) in (
          less_test p (length bs) inside,
          (
            program_fits (set bs p (blank s.peb_size)) p 0 (filled s.page (ec_bytes s e))
                (omega (arith, length-set bs p (blank s.peb_size))) some size
                (ap (λ b. only_clears b (filled s.page (ec_bytes s e))) here
                ∙ clears_blank (filled s.page (ec_bytes s e)) s.page size full),
            tt,
          ),
        )
