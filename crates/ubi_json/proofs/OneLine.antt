-- The text of data is one line: each of its bytes is 0x20 or above.
use Rattle.ubi_json.proofs.Prelude.{◌≡◌, ◌∙◌, ◌⊎◌, ◌&&◌, ◌++◌, ◌+◌, ◌/◌, ◌%◌, ◌<◌, ◌==◌, ◌≤◌, ◌∷◌, [], Bool, List, arith, cond, false, inl, inr, refl, suc, true, zero, ℕ, nat_lt, decimal, nat_le, pos, negsuc, list_all, digit_glyph, digits, digits_onto, cases_lt, le-leb, list_all-append, escape_byte_plain, escape, escape_byte, quoted, Data, Items, Members, Num, array, boolean, float, item, member, negative, no_items, no_members, null, number, object, string, unsigned, comma_if, compact_text, items_text, members_text, number_text}

-- no byte is below 0x20
abbrev Wide : List ℕ → Type 0
Wide xs = list_all (λ b. nat_le 0x20 b) xs ≡ true

wide_both : (xs ys : List ℕ) → Wide xs → Wide ys → Wide (xs ++ ys)
wide_both xs ys a b = list_all-append (λ n. nat_le 0x20 n) xs ys ∙ rw (a, b) refl

wide_first : (x : ℕ) (xs : List ℕ) → 32 ≤ x → Wide xs → Wide (x ∷ xs)
wide_first x xs a b = let here : nat_le 0x20 x ≡ true = le-leb 32 x a in rw (here, b) refl

glyph : (b : Bool) (d : ℕ) → 32 ≤ cond b (48 + d) (87 + d)
glyph true d = omega arith
glyph false d = omega arith

digits_wide : (k n : ℕ) (after : List ℕ) → Wide after → Wide (digits_onto k 10 false n after)
digits_wide zero n after h = h
digits_wide (suc k) n after h =
    let here : Wide (digit_glyph false (n % 10) ∷ after) =
    wide_first (digit_glyph false (n % 10)) after (glyph (nat_lt (n % 10) 10) (n % 10)) h in
    go (n / 10 == 0) here (digits_wide k (n / 10) (digit_glyph false (n % 10) ∷ after) here)
  where
    go : (b : Bool) → Wide (digit_glyph false (n % 10) ∷ after) → Wide (digits_onto k 10 false (n / 10) (digit_glyph false (n % 10) ∷ after))
        → Wide (cond b (digit_glyph false (n % 10) ∷ after) (digits_onto k 10 false (n / 10) (digit_glyph false (n % 10) ∷ after)))
    go true here later = here
    go false here later = later

decimal_wide : (n : ℕ) → Wide (decimal n)
unfolding digits
decimal_wide n = digits_wide 64 n [] refl

number_wide : (n : Num) → Wide (number_text n)
number_wide (unsigned n) = decimal_wide n
number_wide (negative (pos n)) = decimal_wide n
number_wide (negative (negsuc n)) = wide_first 45 (decimal (suc n)) (omega arith) (decimal_wide (suc n))
number_wide (float x) = refl

-- the escapes of the bytes below n
abbrev escapes_below : ℕ → Bool
escapes_below zero = true
escapes_below (suc n) = list_all (λ b. nat_le 0x20 b) (escape_byte n) && escapes_below n

both : (a b : Bool) → (a && b) ≡ true → (a ≡ true) × (b ≡ true)
both true b e = (refl, e)
both false b e = absurd cc

cases_eq : (x n : ℕ) → x < suc n → (x ≡ n) ⊎ (x < n)
cases_eq x n h = elim (cases_lt x n) [ inl less ↦ inr less | inr more ↦ inl (omega arith) ]

escape_below : (n : ℕ) → escapes_below n ≡ true → (x : ℕ) → x < n → Wide (escape_byte x)
escape_below zero e x h = absurd (omega arith)
escape_below (suc n) e x h =
    let p = both _ _ e in
    elim (cases_eq x n h) [ inl same ↦ rw same p.0 | inr other ↦ escape_below n p.1 x other ]

small_escapes : escapes_below 128 ≡ true
unfolding escape_byte
small_escapes = refl

byte_wide : (x : ℕ) → Wide (escape_byte x)
byte_wide x = elim (cases_lt x 128) [
  | inl small ↦ escape_below 128 small_escapes x small
  | inr big ↦ rw (escape_byte_plain x (λ e. omega arith) (λ e. omega arith) (omega arith)) (wide_first x [] (omega arith) refl)
]

escape_wide : (s : List ℕ) → Wide (escape s)
escape_wide [] = refl
escape_wide (x ∷ xs) = wide_both (escape_byte x) (escape xs) (byte_wide x) (escape_wide xs)

quoted_wide : (s : List ℕ) → Wide (quoted s)
quoted_wide s = wide_first 34 (escape s ++ 34 ∷ []) (omega arith) (wide_both (escape s) (34 ∷ []) (escape_wide s) refl)

comma_wide : (b : Bool) → Wide (comma_if b)
comma_wide true = refl
comma_wide false = refl

mutual
  pub text_wide : (d : Data) → Wide (compact_text d)
  text_wide null = refl
  text_wide (boolean true) = refl
  text_wide (boolean false) = refl
  text_wide (number n) = number_wide n
  text_wide (string s) = quoted_wide s
  text_wide (array ds) = wide_first 91 (items_text false ds) (omega arith) (items_wide false ds)
  text_wide (object ms) = wide_first 123 (members_text false ms) (omega arith) (members_wide false ms)

  items_wide : (later : Bool) (ds : Items) → Wide (items_text later ds)
  items_wide later no_items = refl
  items_wide later (item d ds) =
      wide_both (comma_if later) (compact_text d ++ items_text true ds) (comma_wide later)
      (wide_both (compact_text d) (items_text true ds) (text_wide d) (items_wide true ds))

  members_wide : (later : Bool) (ms : Members) → Wide (members_text later ms)
  members_wide later no_members = refl
  members_wide later (member k d ms) =
      wide_both (comma_if later) (quoted k ++ 58 ∷ (compact_text d ++ members_text true ms)) (comma_wide later)
      (wide_both (quoted k) (58 ∷ (compact_text d ++ members_text true ms)) (quoted_wide k)
      (wide_first 58 (compact_text d ++ members_text true ms) (omega arith)
      (wide_both (compact_text d) (members_text true ms) (text_wide d) (members_wide true ms))))
