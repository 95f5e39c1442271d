-- Names, and the bytes that a record has for one.
use Rattle.ubi_media.proofs.Prelude.{◌≡◌, ℕ, zero, suc, ◌-◌, ◌<◌, ◌≤◌, ◌==◌, true, false, List, ◌∷◌, ◌++◌, length, take, replicate, get_or, refl, ap, ◌∙◌, arith, zero-add, length-append, position, slice_index, nat_lt, eq-eqb, eqb-true, Option, Some, None, option_map_or, list_any, position_or_len, nat_tests, length-replicate, length-take-le, drop-replicate, get_or_append_left, get_or_at, get_or-take, get_or_default, list_any_at, list_any_none, position-Some, position_or_len_is, overwrite, padded, is_name, ends_at}

-- a name written over zeros
pub over_zeros : (n : ℕ) (name : List ℕ) → overwrite 0 name (replicate n 0) ≡ name ++ replicate (n - length name) 0
unfolding overwrite
over_zeros n name =
    rw zero-add (ap (λ (zeros : List ℕ). name ++ zeros) (drop-replicate (length name) n 0))

-- what the test of a name says
pub record IsName (name : List ℕ) : Type 0 where
  pub from : 1 ≤ length name
  pub to : length name ≤ 127
  pub no_zero : list_any (λ byte. byte == 0) name ≡ false

pub name_facts : (name : List ℕ) → is_name name ≡ true → IsName name
name_facts name e = record {
  from = grind (arith, nat_tests);
  to = grind (arith, nat_tests);
  no_zero = grind (arith, nat_tests);
}

pub length-padded : (name : List ℕ) → IsName name → length (padded name) ≡ 128
length-padded name h =
    omega (
      arith,
      h.to,
      length-append name (replicate (128 - length name) 0),
      length-replicate {A = ℕ} (128 - length name) 0,
    )

-- no byte of a name is zero
each_byte : (name : List ℕ) → list_any (λ byte. byte == 0) name ≡ false → (k : ℕ) → k < length name
    → (get_or name k 0 == 0) ≡ false
each_byte name e k h =
    elim (get_or name k 0 == 0) as (λ b. (get_or name k 0 == 0) ≡ b → (get_or name k 0 == 0) ≡ false) [
      | true ↦ λ t. let any = list_any_at (λ byte. byte == 0) name k 0 h t in cc
      | false ↦ λ t. t
    ] refl

-- the first zero byte stands right behind the name
first_zero_behind : (name zeros : List ℕ) → list_any (λ byte. byte == 0) name ≡ false
    → position (λ byte. byte == 0) (name ++ 0 ∷ zeros) ≡ Some (length name)
first_zero_behind name zeros e =
    let size = length-append name (0 ∷ zeros) in
    let place : position_or_len (λ byte. byte == 0) (name ++ 0 ∷ zeros) ≡ length name =
    position_or_len_is (λ byte. byte == 0) (name ++ 0 ∷ zeros) (length name) 0 (omega (arith, size))
    (λ k h. ap (λ byte. byte == 0) (get_or_append_left name (0 ∷ zeros) 0 k h) ∙ each_byte name e k h)
    (λ h. ap (λ byte. byte == 0) (get_or_at name 0 zeros 0 (length name) refl)) in
    let within : nat_lt (length name) (length (name ++ 0 ∷ zeros)) ≡ true = grind (arith, nat_tests, size) in
    rw (place, within) refl

-- the bytes that a record has for a name break none of the rules of names
pub padded_ends : (name : List ℕ) → IsName name → ends_at (padded name) (length name) ≡ true
padded_ends name h =
    let more : 128 - length name ≡ suc (127 - length name) = omega (arith, h.to) in
    ap (λ n. ends_at (name ++ replicate n 0) (length name)) more
    ∙ ap (λ o. option_map_or (λ place. place == length name) o false)
    (first_zero_behind name (replicate (127 - length name) 0) h.no_zero)
    ∙ eq-eqb (length name) (length name) refl

pub padded_begins : (name : List ℕ) → IsName name → (slice_index (padded name) 0 == 0) ≡ false
padded_begins name h =
    ap (λ byte. byte == 0) (get_or_append_left name (replicate (128 - length name) 0) 0 0 h.from)
    ∙ each_byte name h.no_zero 0 h.from

-- and bytes that break none of them begin with a name
is_Some : (o : Option ℕ) (n : ℕ) → option_map_or (λ place. place == n) o false ≡ true → o ≡ Some n
is_Some None n e = cc
is_Some (Some m) n e = ap Some (eqb-true m n e)

is_later : (bytes : List ℕ) (n : ℕ) → (slice_index bytes 0 == 0) ≡ false → (get_or bytes n 0 == 0) ≡ true → 1 ≤ n
is_later bytes zero first here = cc
is_later bytes (suc n) first here = omega arith

pub begins_with_name : (bytes : List ℕ) (n : ℕ) → n ≤ 127 → (slice_index bytes 0 == 0) ≡ false → ends_at bytes n ≡ true
    → is_name (take n bytes) ≡ true
begins_with_name bytes n short first ends =
    let at = position-Some (λ byte. byte == 0) bytes n 0 (is_Some (position (λ byte. byte == 0) bytes) n ends) in
    let size : length (take n bytes) ≡ n = length-take-le n bytes (omega (arith, at.0)) in
    let none : list_any (λ byte. byte == 0) (take n bytes) ≡ false =
    list_any_none (λ byte. byte == 0) (take n bytes) (λ i d h.
    let below : i < n = omega (arith, size) in
    ap (λ byte. byte == 0) (get_or-take n bytes i d below ∙ get_or_default bytes i d 0 (omega (arith, at.0)))
    ∙ at.2 i below) in
    let later : 1 ≤ n = is_later bytes n first at.1 in
    rw (size, none) (grind (arith, nat_tests))
