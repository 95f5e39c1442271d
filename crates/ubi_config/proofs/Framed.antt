-- Lines that no reader trims: what they say.
use Rattle.ubi_config.proofs.Prelude.{◌≡◌, ◌<◌, ◌≤◌, ◌+◌, ◌-◌, ℕ, Bool, true, false, not, List, ◌++◌, arith, get_or, length, refl, ap, ◌∙◌, ◌==◌, Some, None, Ok, list_any, nat_le, nat_tests, position_or_len, suffix_len, is_space, is_one_line, line_of, line_said, trimmed, Line, ◌>>=◌, get_or-append_right, get_or_append_left, take_all, list_any-append, length-append, position_or_len_is, suffix_len_is, is_mark, is_remark, is_visible}
use Rattle.std.specs.Prelude.{◌||◌, if◌then◌else◌}

-- bytes that are a line: some and not too many, no blank at either end, no backslash at the end, and no byte that cuts it
pub record IsFramed (text : List ℕ) : Type 0 where
  pub some : 0 < length text
  pub short : length text ≤ 1022
  pub first : is_space (get_or text 0 0) ≡ false
  pub last : is_space (get_or text (length text - 1) 0) ≡ false
  pub slash : (get_or text (length text - 1) 0 == 92) ≡ false
  pub zero : list_any (λ b. b == 0) text ≡ false

or_true : (a : Bool) → (a || true) ≡ true
or_true true = refl
or_true false = refl

not_false : (b : Bool) → b ≡ false → not b ≡ true
not_false b h = rw h refl

starts : (text : List ℕ) → is_space (get_or text 0 0) ≡ false → position_or_len is_visible text ≡ 0
starts text h =
    position_or_len_is is_visible text 0 0 (omega arith) (λ k below. absurd (omega arith))
    (λ some. not_false (is_space (get_or text 0 0)) h)

ends : (text : List ℕ) → is_space (get_or text (length text - 1) 0) ≡ false → suffix_len is_space text ≡ 0
ends text h =
    let end = suffix_len_is is_space text (length text) 0 (omega arith) (λ k from below. absurd (omega arith)) (λ some. h) in
    omega (arith, end)

-- bytes without a blank at either end stay as they are
pub trimmed_stays : (text : List ℕ) → is_space (get_or text 0 0) ≡ false
    → is_space (get_or text (length text - 1) 0) ≡ false → trimmed text ≡ text
unfolding trimmed
trimmed_stays text first last =
    rw (starts text first) (rw (ends text last) (take_all (length text - 0) text (omega arith)))

pub framed_trimmed : (text : List ℕ) → IsFramed text → trimmed text ≡ text
framed_trimmed text f = trimmed_stays text f.first f.last

-- what such a line says
pub framed_said : (n : ℕ) (text : List ℕ) → IsFramed text → line_of n text
    ≡ (if is_remark text then Ok None else line_said n text >>= (λ l. Ok (Some l)))
unfolding line_of is_one_line
framed_said n text f =
    let short : nat_le (length text) 1022 ≡ true = grind (arith, nat_tests, f.short) in
    let some : nat_le 1 (length text) ≡ true = grind (arith, nat_tests, f.some) in
    rw (framed_trimmed text f) (rw (short, f.zero, f.slash) (rw some refl))

-- a line that begins with a mark is skipped
pub remark_read : (n : ℕ) (text : List ℕ) → IsFramed text → is_mark (get_or text 0 0) ≡ true → line_of n text ≡ Ok None
remark_read n text f mark = framed_said n text f ∙ rw mark (rw (or_true (length text == 0)) refl)

-- what a line says that isn't skipped
pub line_read : (n : ℕ) (text : List ℕ) (l : Line) → IsFramed text → is_remark text ≡ false
    → line_said n text ≡ Ok l → line_of n text ≡ Ok (Some l)
line_read n text l f plain said = framed_said n text f ∙ rw plain (rw said refl)

pub both_none : (p : ℕ → Bool) (xs ys : List ℕ) → list_any p xs ≡ false → list_any p ys ≡ false
    → list_any p (xs ++ ys) ≡ false
both_none p xs ys h k = list_any-append p xs ys ∙ rw (h, k) refl

-- bytes behind others that begin a line
pub framed_behind : (front text : List ℕ) → 0 < length front → is_space (get_or front 0 0) ≡ false
    → list_any (λ b. b == 0) front ≡ false → length front + length text ≤ 1022 → IsFramed text
    → IsFramed (front ++ text)
framed_behind front text some first zero short f =
    let long : length (front ++ text) ≡ length front + length text = length-append front text in
    let within : length front ≤ length (front ++ text) - 1 = omega (arith, long, f.some) in
    let left : length (front ++ text) - 1 - length front ≡ length text - 1 = omega (arith, long) in
    let last : get_or (front ++ text) (length (front ++ text) - 1) 0 ≡ get_or text (length text - 1) 0 =
    get_or-append_right front text (length front) (length (front ++ text) - 1) 0 refl within
    ∙ ap (λ i. get_or text i 0) left in
    record {
      some = omega (arith, long, some);
      short = omega (arith, long, short);
      first = rw (get_or_append_left front text 0 0 some) first;
      last = rw last f.last;
      slash = rw last f.slash;
      zero = both_none (λ b. b == 0) front text zero f.zero;
    }
