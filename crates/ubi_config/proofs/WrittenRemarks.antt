-- The remarks of a config that is written are skipped.
use Rattle.ubi_config.proofs.Prelude.{◌≡◌, ◌<◌, ◌≤◌, ◌^◌, ℕ, Bool, false, true, List, ◌++◌, append_assoc, arith, length, refl, sym, ap, ◌∙◌, ◌==◌, codes, None, Ok, list_any, line_of, length-append, is_ascii_digit, decimal, IsGeometry, Sizes, head, left_out_words, LeftOut}
use Rattle.ubi_config.proofs.Digits.{digits_framed, digits_short, none_is, other}
use Rattle.ubi_config.proofs.Framed.{IsFramed, both_none, framed_behind, remark_read}
use Rattle.ubi_config.specs.declared.volume.LeftOut.TheVariants as why

words_framed : (c : LeftOut) → IsFramed (left_out_words c)
words_framed why.Updating = record { some = omega arith; short = omega arith; first = refl; last = refl; slash = refl; zero = refl }
words_framed why.Damaged = record { some = omega arith; short = omega arith; first = refl; last = refl; slash = refl; zero = refl }
words_framed why.Name = record { some = omega arith; short = omega arith; first = refl; last = refl; slash = refl; zero = refl }
words_framed why.Path = record { some = omega arith; short = omega arith; first = refl; last = refl; slash = refl; zero = refl }
words_framed why.Flags = record { some = omega arith; short = omega arith; first = refl; last = refl; slash = refl; zero = refl }
words_framed why.Growing = record { some = omega arith; short = omega arith; first = refl; last = refl; slash = refl; zero = refl }

words_short : (c : LeftOut) → length (left_out_words c) ≤ 50
words_short why.Updating = omega arith
words_short why.Damaged = omega arith
words_short why.Name = omega arith
words_short why.Path = omega arith
words_short why.Flags = omega arith
words_short why.Growing = omega arith

words_unbroken : (c : LeftOut) → list_any (λ b. b == 10) (left_out_words c) ≡ false
words_unbroken why.Updating = refl
words_unbroken why.Damaged = refl
words_unbroken why.Name = refl
words_unbroken why.Path = refl
words_unbroken why.Flags = refl
words_unbroken why.Growing = refl

-- no byte passes a test that none of the digits passes
without : (p : ℕ → Bool) → ((b : ℕ) → is_ascii_digit b ≡ true → p b ≡ false) → (word : List ℕ) (n : ℕ) → n < 2 ^ 64
    → list_any p word ≡ false → list_any p (word ++ decimal n) ≡ false
without p apart word n small none = both_none p word (decimal n) none (none_is n small p apart)

no_zero : (b : ℕ) → is_ascii_digit b ≡ true → (b == 0) ≡ false
no_zero b h = other b 0 h (omega arith)

no_break : (b : ℕ) → is_ascii_digit b ≡ true → (b == 10) ≡ false
no_break b h = other b 10 h (omega arith)

module _ (id : ℕ) (small : id < 2 ^ 64) (c : LeftOut) where
  front : List ℕ
  front = codes "# volume " ++ decimal id ++ codes " is left out: "

  front_none : (p : ℕ → Bool) → ((b : ℕ) → is_ascii_digit b ≡ true → p b ≡ false)
      → list_any p (codes "# volume ") ≡ false → list_any p (codes " is left out: ") ≡ false
      → list_any p (codes "# volume " ++ decimal id ++ codes " is left out: ") ≡ false
  front_none p apart first second =
      both_none p (codes "# volume " ++ decimal id) (codes " is left out: ")
      (without p apart (codes "# volume ") id small first) second

  front_short : length (codes "# volume " ++ decimal id ++ codes " is left out: ") ≤ 50
  front_short =
      omega (
        arith,
        length-append (codes "# volume " ++ decimal id) (codes " is left out: "),
        length-append (codes "# volume ") (decimal id),
        digits_short id small,
      )

  pub left_out_read : (n : ℕ) → line_of n (codes "# volume " ++ decimal id ++ codes " is left out: " ++ left_out_words c) ≡ Ok None
  left_out_read n =
      remark_read n _
      (framed_behind (codes "# volume " ++ decimal id ++ codes " is left out: ") (left_out_words c) (omega arith) refl
      (front_none (λ b. b == 0) no_zero refl refl) (omega (arith, front_short, words_short c)) (words_framed c)) refl

  pub left_out_unbroken : list_any (λ b. b == 10)
      (codes "# volume " ++ decimal id ++ codes " is left out: " ++ left_out_words c) ≡ false
  left_out_unbroken =
      both_none (λ b. b == 10) (codes "# volume " ++ decimal id ++ codes " is left out: ") (left_out_words c)
      (front_none (λ b. b == 10) no_break refl refl) (words_unbroken c)

module _ (s : Sizes) (g : IsGeometry s) (seq : ℕ) (small : seq < 2 ^ 32) where
  peb_small : s.peb_size < 2 ^ 64
  peb_small = omega (arith, g.peb_to)

  page_small : s.page < 2 ^ 64
  page_small = omega (arith, g.peb_to, g.peb_from)

  data_small : s.data_offset < 2 ^ 64
  data_small = omega (arith, g.peb_to, g.leb)

  vid_small : s.vid_offset < 2 ^ 64
  vid_small = omega (arith, g.peb_to, g.leb, g.data_from)

  pebs_small : s.pebs < 2 ^ 64
  pebs_small = omega (arith, g.pebs_to)

  seq_small : seq < 2 ^ 64
  seq_small = omega (arith, small)

  abbrev one : List ℕ
  one = codes "# ubi_tool build ubi.ini --out IMAGE --peb " ++ decimal s.peb_size

  abbrev two : List ℕ
  two = one ++ (codes " --page " ++ decimal s.page)

  abbrev three : List ℕ
  three = two ++ (codes " --vid " ++ decimal s.vid_offset)

  abbrev four : List ℕ
  four = three ++ (codes " --data " ++ decimal s.data_offset)

  abbrev five : List ℕ
  five = four ++ (codes " --pebs " ++ decimal s.pebs)

  none : (p : ℕ → Bool) → ((b : ℕ) → is_ascii_digit b ≡ true → p b ≡ false)
      → list_any p (codes "# ubi_tool build ubi.ini --out IMAGE --peb ") ≡ false → list_any p (codes " --page ") ≡ false
      → list_any p (codes " --vid ") ≡ false → list_any p (codes " --data ") ≡ false
      → list_any p (codes " --pebs ") ≡ false → list_any p (codes " --seq ") ≡ false
      → list_any p (five ++ codes " --seq ") ≡ false
  none p apart a b d e f h =
      let first = without p apart (codes "# ubi_tool build ubi.ini --out IMAGE --peb ") s.peb_size peb_small a in
      let second = both_none p one (codes " --page " ++ decimal s.page) first
      (without p apart (codes " --page ") s.page page_small b) in
      let third = both_none p two (codes " --vid " ++ decimal s.vid_offset) second
      (without p apart (codes " --vid ") s.vid_offset vid_small d) in
      let fourth = both_none p three (codes " --data " ++ decimal s.data_offset) third
      (without p apart (codes " --data ") s.data_offset data_small e) in
      let fifth = both_none p four (codes " --pebs " ++ decimal s.pebs) fourth
      (without p apart (codes " --pebs ") s.pebs pebs_small f) in
      both_none p five (codes " --seq ") fifth h

  short : length (five ++ codes " --seq ") ≤ 200
  short =
      omega (
        arith,
        length-append five (codes " --seq "),
        length-append four (codes " --pebs " ++ decimal s.pebs),
        length-append three (codes " --data " ++ decimal s.data_offset),
        length-append two (codes " --vid " ++ decimal s.vid_offset),
        length-append one (codes " --page " ++ decimal s.page),
        digits_short s.peb_size peb_small,
        digits_short s.page page_small,
        digits_short s.vid_offset vid_small,
        digits_short s.data_offset data_small,
        digits_short s.pebs pebs_small,
      )

  parts : head s seq ≡ five ++ codes " --seq " ++ decimal seq
  unfolding head
  parts = sym (append_assoc five (codes " --seq ") (decimal seq))

  pub head_read : (n : ℕ) → line_of n (head s seq) ≡ Ok None
  head_read n =
      ap (line_of n) parts
      ∙ remark_read n (five ++ codes " --seq " ++ decimal seq)
      (framed_behind (five ++ codes " --seq ") (decimal seq) (omega arith) refl
      (none (λ b. b == 0) no_zero refl refl refl refl refl refl) (omega (arith, short, digits_short seq seq_small))
      (digits_framed seq seq_small)) refl

  pub head_unbroken : list_any (λ b. b == 10) (head s seq) ≡ false
  head_unbroken =
      ap (list_any (λ b. b == 10)) parts
      ∙ both_none (λ b. b == 10) (five ++ codes " --seq ") (decimal seq)
      (none (λ b. b == 10) no_break refl refl refl refl refl refl) (none_is seq seq_small (λ b. b == 10) no_break)
