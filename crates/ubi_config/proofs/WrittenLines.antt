-- What each line of a config that is written says.
use Rattle.ubi_config.proofs.Prelude.{◌≡◌, ◌<◌, ◌≤◌, ◌+◌, ◌-◌, ◌^◌, ℕ, true, false, List, [], ◌∷◌, ◌++◌, arith, get_or, length, drop, take, refl, ap, ◌∙◌, ◌==◌, codes, Some, None, Ok, list_any, nat_le, nat_tests, position, is_space, flag_of, heading_line, is_one_line, key_of, kind_named, line_of, line_said, plain_value, setting, setting_at, setting_line, title_of, trimmed, value_of, Key, Line, VolKind, length-append, slice_range, get_or-append_right, drop-append-add, take-append_seam, decimal, is_name, is_ascii_digit, is_special, is_title, is_mark, is_remark, most_bytes, kind_word, quote_of, quoted, title, most_number}
use Rattle.ubi_media.specs.declared.vid.VolKind.TheVariants as kind
use Rattle.ubi_config.proofs.Digits.{above, none_is, digits_framed, digits_number, digits_short, digits_size, digits_trimmed, digits_value}
use Rattle.ubi_config.proofs.Framed.{IsFramed, both_none, framed_behind, framed_trimmed, line_read}
use Rattle.ubi_config.proofs.QuotedValues.{CanWrite, position_behind, quoted_framed, quoted_read, quoted_trimmed}
use Rattle.ubi_config.specs.declared.key.Key.TheVariants as key
use Rattle.ubi_config.specs.declared.line.Line.TheVariants as line

no_remark : (text : List ℕ) → 0 < length text → is_mark (get_or text 0 0) ≡ false → is_remark text ≡ false
no_remark text some plain =
    let there : (length text == 0) ≡ false = grind (arith, nat_tests, some) in
    rw (there, plain) refl

module _ (n : ℕ) (name value v : List ℕ) (k : Key) (l : Line) (apart : list_any (λ b. b == 61) name ≡ false)
    (whole : trimmed name ≡ name) (named : key_of name ≡ Some k) (trim : trimmed value ≡ value)
    (is : value_of value ≡ Some v) (sets : setting k v ≡ Some l) where
  found : position (λ b. b == 61) (name ++ 61 ∷ value) ≡ Some (length name)
  found = position_behind (λ b. b == 61) name 61 value apart refl

  behind : drop (length name + 1) (name ++ 61 ∷ value) ≡ value
  behind = drop-append-add name (61 ∷ value) 1

  setting_is : setting_line (name ++ 61 ∷ value) ≡ Ok l
  unfolding setting_line setting_at
  setting_is = rw found (rw (take-append_seam name (61 ∷ value), behind) (rw (whole, trim) (rw named (rw is (rw sets refl)))))

  -- a key with a value, as they stand
  pub setting_read : is_mark (get_or (name ++ 61 ∷ value) 0 0) ≡ false → (get_or (name ++ 61 ∷ value) 0 0 == 91) ≡ false
      → IsFramed (name ++ 61 ∷ value) → line_of n (name ++ 61 ∷ value) ≡ Ok (Some l)
  unfolding line_said
  setting_read plain no_title framed = line_read n (name ++ 61 ∷ value) l framed (no_remark (name ++ 61 ∷ value) framed.some plain) (rw no_title setting_is)

-- the lines without a volume in them
pub mode_read : (n : ℕ) → line_of n (codes "mode=ubi") ≡ Ok (Some line.Mode)
unfolding line_of is_one_line trimmed line_said setting_line setting_at key_of value_of setting plain_value
mode_read n = refl

pub kind_read : (n : ℕ) (k : VolKind) → line_of n (codes "vol_type=" ++ kind_word k) ≡ Ok (Some (line.Kind k))
unfolding line_of is_one_line trimmed line_said setting_line setting_at key_of value_of setting plain_value kind_named
kind_read n kind.Dynamic = refl
kind_read n kind.Static = refl

pub autoresize_read : (n : ℕ) → line_of n (codes "vol_flags=autoresize") ≡ Ok (Some line.Autoresize)
unfolding line_of is_one_line trimmed line_said setting_line setting_at key_of value_of setting plain_value flag_of
autoresize_read n = refl

pub skip_check_read : (n : ℕ) → line_of n (codes "vol_flags=skip-check") ≡ Ok (Some line.SkipCheck)
unfolding line_of is_one_line trimmed line_said setting_line setting_at key_of value_of setting plain_value flag_of
skip_check_read n = refl

pub empty_read : (n : ℕ) → line_of n [] ≡ Ok None
unfolding line_of is_one_line trimmed
empty_read n = refl

-- the lines that end with a number
module _ (n number : ℕ) (small : number < 2 ^ 64) where
  framed : (front : List ℕ) → 0 < length front → is_space (get_or front 0 0) ≡ false
      → list_any (λ b. b == 0) front ≡ false → length front ≤ 1000 → IsFramed (front ++ decimal number)
  framed front some first zero short =
      framed_behind front (decimal number) some first zero (omega (arith, short, digits_short number small))
      (digits_framed number small)

  pub id_read : number ≤ most_number → line_of n (codes "vol_id=" ++ decimal number) ≡ Ok (Some (line.Id number))
  unfolding trimmed key_of setting
  id_read within =
      setting_read n (codes "vol_id") (decimal number) (decimal number) key.Id (line.Id number) refl refl refl
      (digits_trimmed number small) (digits_value number small) (rw (digits_number number small most_number within) refl)
      refl refl (framed (codes "vol_id=") (omega arith) refl refl (omega arith))

  pub alignment_read : number ≤ most_number
      → line_of n (codes "vol_alignment=" ++ decimal number) ≡ Ok (Some (line.Alignment number))
  unfolding trimmed key_of setting
  alignment_read within =
      setting_read n (codes "vol_alignment") (decimal number) (decimal number) key.Alignment (line.Alignment number) refl
      refl refl (digits_trimmed number small) (digits_value number small)
      (rw (digits_number number small most_number within) refl) refl refl
      (framed (codes "vol_alignment=") (omega arith) refl refl (omega arith))

  pub size_read : 1 ≤ number → number ≤ most_bytes
      → line_of n (codes "vol_size=" ++ decimal number) ≡ Ok (Some (line.Size number))
  unfolding trimmed key_of setting
  size_read one within =
      setting_read n (codes "vol_size") (decimal number) (decimal number) key.Size (line.Size number) refl refl refl
      (digits_trimmed number small) (digits_value number small) (rw (digits_size number small one within) refl) refl refl
      (framed (codes "vol_size=") (omega arith) refl refl (omega arith))

-- the lines that end with a value in quotes
module _ (n : ℕ) (value : List ℕ) (w : CanWrite value) where
  long : length (quoted value) ≡ length value + 2
  long = omega (arith, length-append value (quote_of value ∷ []))

  pub name_read : is_name value ≡ true → line_of n (codes "vol_name=" ++ quoted value) ≡ Ok (Some (line.Name value))
  unfolding trimmed key_of setting
  name_read named =
      setting_read n (codes "vol_name") (quoted value) value key.Name (line.Name value) refl refl refl
      (quoted_trimmed value w) (quoted_read value w) (rw named refl) refl refl
      (framed_behind (codes "vol_name=") (quoted value) (omega arith) refl refl (omega (arith, long, w.short))
      (quoted_framed value w))

  pub image_read : line_of n (codes "image=" ++ quoted value) ≡ Ok (Some (line.Image value))
  unfolding trimmed key_of setting
  image_read =
      setting_read n (codes "image") (quoted value) value key.Image (line.Image value) refl refl refl
      (quoted_trimmed value w) (quoted_read value w) refl refl refl
      (framed_behind (codes "image=") (quoted value) (omega arith) refl refl (omega (arith, long, w.short))
      (quoted_framed value w))

-- the line that begins a section
special_digit : (b : ℕ) → is_ascii_digit b ≡ true → is_special b ≡ false
special_digit b h = rw (above b 93 h (omega arith), above b 58 h (omega arith)) refl

module _ (n id : ℕ) (small : id < 2 ^ 64) where
  heading : List ℕ
  heading = codes "[" ++ title id ++ codes "]"

  titled : IsFramed (title id)
  titled = framed n id small (codes "volume-") (omega arith) refl refl (omega arith)

  title_short : length (title id) ≤ 27
  title_short = omega (arith, digits_short id small)

  is_titled : is_title (title id) ≡ true
  is_titled =
      let some : nat_le 1 (length (title id)) ≡ true = grind (arith, nat_tests) in
      let short : nat_le (length (title id)) 128 ≡ true = grind (arith, nat_tests, title_short) in
      let none : list_any is_special (title id) ≡ false =
      both_none is_special (codes "volume-") (decimal id) refl (none_is id small is_special special_digit) in
      rw (some, short) (rw none refl)

  heading_long : length (codes "[" ++ title id ++ codes "]") ≡ length (title id) + 2
  heading_long = omega (arith, length-append (title id) (codes "]"))

  between : slice_range (codes "[" ++ title id ++ codes "]") 1 (length (codes "[" ++ title id ++ codes "]") - 1) ≡ title id
  between =
      let inner : length (codes "[" ++ title id ++ codes "]") - 1 - 1 ≡ length (title id) = omega (arith, heading_long) in
      ap (λ k. take k (title id ++ codes "]")) inner ∙ take-append_seam (title id) (codes "]")

  closing : get_or (codes "[" ++ title id ++ codes "]") (length (codes "[" ++ title id ++ codes "]") - 1) 0 ≡ 93
  closing =
      let place : length (codes "[" ++ title id ++ codes "]") - 1 - (length (title id) + 1) ≡ 0 = omega (arith, heading_long) in
      get_or-append_right (codes "[" ++ title id) (codes "]") (length (title id) + 1)
      (length (codes "[" ++ title id ++ codes "]") - 1) 0 (omega arith) (omega (arith, heading_long))
      ∙ ap (λ i. get_or (codes "]") i 0) place

  bracket : IsFramed (codes "]")
  bracket = record { some = omega arith; short = omega arith; first = refl; last = refl; slash = refl; zero = refl }

  heading_framed : IsFramed (codes "[" ++ title id ++ codes "]")
  heading_framed =
      framed_behind (codes "[" ++ title id) (codes "]") (omega arith) refl titled.zero (omega (arith, title_short)) bracket

  title_is : title_of (codes "[" ++ title id ++ codes "]") ≡ Some (title id)
  unfolding title_of
  title_is =
      let two : nat_le 2 (length (codes "[" ++ title id ++ codes "]")) ≡ true = grind (arith, nat_tests, heading_long) in
      let one : nat_le 1 (length (codes "[" ++ title id ++ codes "]")) ≡ true = grind (arith, nat_tests, heading_long) in
      rw between (rw (framed_trimmed (title id) titled) (rw (two, one, closing) (rw is_titled refl)))

  pub heading_read : line_of n (codes "[" ++ title id ++ codes "]") ≡ Ok (Some (line.Heading n (title id)))
  unfolding line_said heading_line
  heading_read =
      line_read n (codes "[" ++ title id ++ codes "]") (line.Heading n (title id)) heading_framed
      (no_remark (codes "[" ++ title id ++ codes "]") heading_framed.some refl) (rw title_is refl)
