-- Where in a plan the header of the copy is programmed: once, after the steps that make its eraseblock ready.
use Rattle.ubi_change.proofs.Prelude.{◌≡◌, ◌≢◌, ℕ, suc, ◌+◌, ◌-◌, ◌*◌, ◌/◌, ◌%◌, ◌<◌, ◌≤◌, ◌⊎◌, inl, inr, Bool, true, false, cond, List, [], ◌∷◌, ◌++◌, append_assoc, length, map, take, drop, refl, ap, sym, ◌∙◌, arith, None, ◌==◌, ◌&&◌, count_by, fold, nat_lt, enumerate_from, position_or_len, first_chunks, div-add-mod, div-eq_of_lt, nat_tests, take_at, drop_at, fold-append, cases_lt, ec_bytes, blank, filled, Sizes, IsGeometry, vid_bytes, vid_fault, vid_reading, VidFits, EcHeader, VidHeader, fields_fit, vid_read_back, one_vid_reading, zero_or_more, header_in, is_copy, programs_copy, turn, vid_page, program_header, program_text, renew, pages_of, pages_needed, Step, behind, filled-by, filled-is, length-filled, blank_vid}
use Rattle.std.specs.Prelude.{slice_range}
use Rattle.ubi_media.specs.declared.vid.VidRead.TheVariants as vid_read
use Rattle.ubi_change.specs.declared.step.Step.TheVariants as step
use Rattle.ubi_change.proofs.PagePlaces.{vid_before, vid_left}

-- one element of a list passes
module _ {X : Type 0} (p : X → Bool) where
  abbrev pub AllFail : List X → Type 0
  AllFail [] = Unit {0}
  AllFail (x ∷ xs) = (p x ≡ false) × AllFail xs

  pub fail-append : (xs ys : List X) → AllFail xs → AllFail ys → AllFail (xs ++ ys)
  fail-append [] ys a b = b
  fail-append (x ∷ xs) ys a b = (a.0, fail-append xs ys a.1 b)

  pub position-one : (xs ys : List X) (x : X) → AllFail xs → p x ≡ true → position_or_len p (xs ++ x ∷ ys) ≡ length xs
  position-one [] ys x a h = rw h refl
  position-one (y ∷ xs) ys x a h = let e = position-one xs ys x a.1 h in rw a.0 (omega arith)

  abbrev more : ℕ → X → ℕ
  more n x = n + cond (p x) 1 0

  count-from : (n : ℕ) (xs : List X) → AllFail xs → fold more n xs ≡ n
  count-from n [] a = refl
  count-from n (x ∷ xs) a =
      let same : more n x ≡ n = ap (λ b. n + cond b 1 0) a.0 ∙ omega arith in
      ap (λ k. fold more k xs) same ∙ count-from n xs a.1

  pub count-none : (xs : List X) → AllFail xs → count_by p xs ≡ 0
  count-none xs a = count-from 0 xs a

  pub count-one : (xs ys : List X) (x : X) → AllFail xs → p x ≡ true → AllFail ys → count_by p (xs ++ x ∷ ys) ≡ 1
  count-one xs ys x a h b =
      let one : more 0 x ≡ 1 = ap (λ b. 0 + cond b 1 0) h ∙ omega arith in
      fold-append more 0 xs (x ∷ ys) ∙ ap (λ k. fold more k (x ∷ ys)) (count-from 0 xs a) ∙ ap (λ k. fold more k ys) one
      ∙ count-from 1 ys b

-- which steps program the header of a copy
other_test : (a b : ℕ) → a ≢ b → (a == b) ≡ false
other_test a b e = grind (arith, nat_tests)

same_test : (a : ℕ) → (a == a) ≡ true
same_test a = grind (arith, nat_tests)

both_false : (a b : Bool) → b ≡ false → (a && b) ≡ false
both_false true b e = e
both_false false b e = refl

module _ (s : Sizes) (g : IsGeometry s) where
  -- an erase-counter header alone is none
  alone : (ec : List ℕ) → length ec ≡ 64 → is_copy (header_in s (filled s.page ec)) ≡ false
      ⊎ (1 ≤ s.vid_offset / s.page)
  alone ec size = elim (zero_or_more (s.vid_offset / s.page)) [
    | inr m ↦ inr m
    | inl z ↦
        let split = div-add-mod s.vid_offset s.page in
        let zero_part : s.page * (s.vid_offset / s.page) ≡ 0 = ap (λ q. s.page * q) z ∙ omega arith in
        let at : s.vid_offset % s.page ≡ s.vid_offset = omega arith in
        let left = vid_left s g in
        let from = g.vid_from in
        inl (ap (λ y. is_copy (vid_reading s (slice_range y (s.vid_offset % s.page) (s.vid_offset % s.page + 64))))
        (filled-by s.page 64 ec size)
        ∙ ap (λ y. is_copy (vid_reading s y))
        (behind ec (s.page - 64) (s.vid_offset % s.page) 64 (omega arith) (omega arith)) ∙ ap is_copy (blank_vid s))
  ]

  pub renew_fails : (p : ℕ) (e : EcHeader) → AllFail (programs_copy s) (renew s p e)
  renew_fails p e = (refl, (program p, tt))
    where
      program : (p : ℕ) → programs_copy s (step.Program p 0 (filled s.page (ec_bytes s e))) ≡ false
      program p = elim (alone (ec_bytes s e) refl) [
        | inl k ↦ both_false (0 == s.vid_offset / s.page) (is_copy (header_in s (filled s.page (ec_bytes s e)))) k
        | inr m ↦ ap (λ b. b && is_copy (header_in s (filled s.page (ec_bytes s e))))
            (other_test 0 (s.vid_offset / s.page) (λ z. omega arith))
      ]

  pages_fail : (p i : ℕ) (es : List (List ℕ)) → s.vid_offset / s.page < i
      → AllFail (programs_copy s) (map (λ e. step.Program p e.0 e.1) (enumerate_from i es))
  pages_fail p i [] l = tt
  pages_fail p i (e ∷ es) l = (
    ap (λ b. b && is_copy (header_in s e)) (other_test i (s.vid_offset / s.page) (λ z. omega arith)),
    pages_fail p (i + 1) es (omega arith),
  )

  pub text_fails : (p : ℕ) (new : List ℕ) → AllFail (programs_copy s) (program_text s p new)
  text_fails p new = pages_fail p (s.data_offset / s.page) (first_chunks s.page (pages_of s new) new) (vid_before s g)

  -- the header of a copy is one
  module _ (ec : List ℕ) (size : length ec ≡ 64) (h : VidHeader) (fits : VidFits h) (sound : vid_fault s h ≡ None) where
    part : List ℕ
    part = cond (nat_lt s.vid_offset s.page) ec []

    part-short : length part ≤ s.vid_offset % s.page
    unfolding part
    part-short = elim (cases_lt s.vid_offset s.page) [
      | inl l ↦
          let q : s.vid_offset / s.page ≡ 0 = div-eq_of_lt l in
          let split = div-add-mod s.vid_offset s.page in
          let zero_part : s.page * (s.vid_offset / s.page) ≡ 0 = ap (λ q. s.page * q) q ∙ omega arith in
          let is : length (cond (nat_lt s.vid_offset s.page) ec []) ≡ 64 =
          ap (λ b. length (cond b ec [])) (less s.vid_offset s.page l) ∙ size in
          let from = g.vid_from in
          omega arith
      | inr l ↦ (let is : length (cond (nat_lt s.vid_offset s.page) ec [])
          ≡ 0 = ap (λ b. length (cond b ec [])) (not_less s.vid_offset s.page l) in omega arith)
    ]
      where
        less : (a b : ℕ) → a < b → nat_lt a b ≡ true
        less a b l = grind (arith, nat_tests)

        not_less : (a b : ℕ) → b ≤ a → nat_lt a b ≡ false
        not_less a b l = grind (arith, nat_tests)

    pub header-in : header_in s (vid_page s ec h) ≡ vid_read.Valid h
    unfolding part
    header-in =
        let r = s.vid_offset % s.page in
        let front : length (filled r part) ≡ r = length-filled r part part-short in
        let count : r + 64 - r ≡ 64 = omega arith in
        let rest : List ℕ = blank (s.page - length (filled r part ++ vid_bytes h)) in
        let whole : vid_page s ec h ≡ filled r part ++ (vid_bytes h ++ rest) =
        filled-is s.page (filled r part ++ vid_bytes h) ∙ append_assoc (filled r part) (vid_bytes h) rest in
        ap (λ y. vid_reading s (slice_range y r (r + 64))) whole
        ∙ ap (λ n. vid_reading s (take n (drop r (filled r part ++ (vid_bytes h ++ rest))))) count
        ∙ ap (λ y. vid_reading s (take 64 y)) (drop_at (filled r part) (vid_bytes h ++ rest) r front)
        ∙ ap (vid_reading s) (take_at (vid_bytes h) rest 64 refl)
        ∙ sym ((one_vid_reading s (vid_bytes h) (vid_read.Valid h)).0 (vid_read_back s h (fields_fit h fits) sound))

    pub header_passes : (p : ℕ) → h.copy_flag ≡ true → programs_copy s (program_header s p ec h) ≡ true
    header_passes p copied =
        ap (λ b. b && is_copy (header_in s (vid_page s ec h))) (same_test (s.vid_offset / s.page))
        ∙ ap is_copy header-in ∙ copied

    pub header_fails : (p : ℕ) → h.copy_flag ≡ false → programs_copy s (program_header s p ec h) ≡ false
    header_fails p plain = both_false (s.vid_offset / s.page == s.vid_offset / s.page)
        (is_copy (header_in s (vid_page s ec h))) (ap is_copy header-in ∙ plain)

  -- so in steps that begin with a copy
  module _ (ec : List ℕ) (size : length ec ≡ 64) (h : VidHeader) (fits : VidFits h) (sound : vid_fault s h ≡ None)
      (copied : h.copy_flag ≡ true) (p : ℕ) (new : List ℕ)
      (prep rest : List Step) (a : AllFail (programs_copy s) prep) where
    abbrev steps : List Step
    steps = (prep ++ program_header s p ec h ∷ []) ++ program_text s p new ++ rest

    steps-are : steps ≡ prep ++ program_header s p ec h ∷ (program_text s p new ++ rest)
    steps-are = append_assoc (prep ++ program_header s p ec h ∷ []) (program_text s p new) rest
        ∙ append_assoc prep (program_header s p ec h ∷ []) (program_text s p new ++ rest)

    pub turn-is : turn s steps new ≡ length prep + suc (pages_needed s new)
    turn-is =
        ap (λ xs. turn s xs new) steps-are
        ∙ ap (λ k. k + 1 + pages_needed s new)
        (position-one (programs_copy s) prep (program_text s p new ++ rest) (program_header s p ec h) a
        (header_passes ec size h fits sound p copied)) ∙ omega arith

    pub one-copy : AllFail (programs_copy s) rest → count_by (programs_copy s) steps ≡ 1
    one-copy b =
        ap (count_by (programs_copy s)) steps-are
        ∙ count-one (programs_copy s) prep (program_text s p new ++ rest) (program_header s p ec h) a
        (header_passes ec size h fits sound p copied)
        (fail-append (programs_copy s) (program_text s p new) rest (text_fails p new) b)
