-- Two hexadecimal digits, and the parts of a shown name in order.
use Rattle.ubi_compose.proofs.Prelude.{◌≡◌, ℕ, ◌+◌, ◌*◌, ◌==◌, ◌&&◌, Bool, true, false, List, [], ◌∷◌, ◌++◌, length, refl, sym, ap, ◌∙◌, append_assoc, arith, length-append, Option, Some, None, Ok, Err, Result, MatchResult, flat_map, nat_le, slice_index, option_and_then, option_map, then_some, list_all, list_any, nat_tests, ◌>>=◌, decode_pairs, decode_sized, digit_or_error, hex_digit_value, FromHexError, escaped, is_escape, escaped_byte, shown_bytes, shown_name, some_name}
use Rattle.std.specs.Prelude.{not}

pair_by : (h l : ℕ) (a b : Option ℕ)
    → MatchResult ((digit_or_error h 0 a >>= (λ x. digit_or_error l 1 b >>= (λ y. Ok (x * 16 + y)))) >>=
    (λ byte. Ok (byte ∷ [])))
    (λ bytes. option_and_then (λ x. option_map (λ y. x * 16 + y) b) a ≡ Some (slice_index bytes 0))
    (λ _. option_and_then (λ x. option_map (λ y. x * 16 + y) b) a ≡ None)
pair_by h l None b = refl
pair_by h l (Some x) None = refl
pair_by h l (Some x) (Some y) = refl

pub decoded_pair : (h l : ℕ)
    → MatchResult (decode_sized (h ∷ l ∷ []) 1) (λ bytes. escaped_byte h l ≡ Some (slice_index bytes 0))
    (λ _. escaped_byte h l ≡ None)
unfolding decode_pairs
decoded_pair h l = pair_by h l (hex_digit_value h) (hex_digit_value l)

-- one part more is read
pub escape_read : (name part : List ℕ) (parts : List (List ℕ)) → is_escape part ≡ true
    → then_some (list_all is_escape (part ∷ parts)) (name ++ flat_map escaped (part ∷ parts))
    ≡ then_some (list_all is_escape parts) ((name ++ escaped part) ++ flat_map escaped parts)
escape_read name part parts h =
    rw h (ap (then_some (list_all is_escape parts)) (sym (append_assoc name (escaped part) (flat_map escaped parts))))

pub escape_refused : (name part : List ℕ) (parts : List (List ℕ)) → is_escape part ≡ false
    → then_some (list_all is_escape (part ∷ parts)) (name ++ flat_map escaped (part ∷ parts)) ≡ None
escape_refused name part parts h = rw h refl

-- more bytes than a name has are none
second_no : (a b c : Bool) → b ≡ false → (a && b && c) ≡ false
second_no true b c h = rw h refl
second_no false b c h = refl

too_long : (ok : Bool) (name more : List ℕ) → nat_le (length name) 127 ≡ false
    → option_and_then some_name (then_some ok (name ++ more)) ≡ None
too_long false name more h = refl
too_long true name more h =
    let l : nat_le (length (name ++ more)) 127 ≡ false = grind (arith, nat_tests, length-append name more) in
    rw (second_no (nat_le 1 (length (name ++ more))) (nat_le (length (name ++ more)) 127)
    (not (list_any (λ byte. byte == 0) (name ++ more))) l) refl

not_read_by : (name part : List ℕ) (parts : List (List ℕ)) (b : Bool) → is_escape part ≡ b
    → (b && nat_le (length (name ++ escaped part)) 127) ≡ false
    → option_and_then some_name
    (then_some (list_all is_escape (part ∷ parts)) (name ++ flat_map escaped (part ∷ parts))) ≡ None
not_read_by name part parts true e h =
    ap (option_and_then some_name) (escape_read name part parts e)
    ∙ too_long (list_all is_escape parts) (name ++ escaped part) (flat_map escaped parts) h
not_read_by name part parts false e h = ap (option_and_then some_name) (escape_refused name part parts e)

-- where a part isn't read, or makes the name too long, there is no name
pub not_read : (word name part : List ℕ) (left parts : List (List ℕ))
    → shown_bytes word ≡ then_some (list_all is_escape left) (name ++ flat_map escaped left) → left ≡ part ∷ parts
    → (is_escape part && nat_le (length (name ++ escaped part)) 127) ≡ false → shown_name word ≡ None
unfolding shown_name
not_read word name part left parts h l bad =
    ap (option_and_then some_name)
    (h ∙ ap (λ (ps : List (List ℕ)). then_some (list_all is_escape ps) (name ++ flat_map escaped ps)) l)
    ∙ not_read_by name part parts (is_escape part) refl bad

first_yes : (a b : Bool) → (a && b) ≡ true → a ≡ true
first_yes true b h = refl
first_yes false b h = h

pub part_read : (word name part more : List ℕ) (left parts : List (List ℕ))
    → shown_bytes word ≡ then_some (list_all is_escape left) (name ++ flat_map escaped left) → left ≡ part ∷ parts
    → (is_escape part && nat_le (length (name ++ escaped part)) 127) ≡ true → more ≡ name ++ escaped part
    → shown_bytes word ≡ then_some (list_all is_escape parts) (more ++ flat_map escaped parts)
part_read word name part more left parts h l good m =
    h ∙ ap (λ (ps : List (List ℕ)). then_some (list_all is_escape ps) (name ++ flat_map escaped ps)) l
    ∙ escape_read name part parts (first_yes (is_escape part) (nat_le (length (name ++ escaped part)) 127) good)
    ∙ ap (λ n. then_some (list_all is_escape parts) (n ++ flat_map escaped parts)) (sym m)

pub pair_ok : (r : Result (List ℕ) FromHexError) (answer : Result (Unit {0}) FromHexError) (out : List ℕ) (o : Option ℕ)
    (x : Unit {0})
    → MatchResult r (λ bytes. o ≡ Some (slice_index bytes 0)) (λ _. o ≡ None)
    → MatchResult r (λ bytes. (answer ≡ Ok tt) × (out ≡ bytes)) (λ e. answer ≡ Err e) → answer ≡ Ok x
    → Some (slice_index out 0) ≡ o
pair_ok (Ok bytes) answer out o x d v h = ap (λ b. Some (slice_index b 0)) v.1 ∙ sym d
pair_ok (Err e) answer out o x d v h = absurd (cc)

pub pair_err : (r : Result (List ℕ) FromHexError) (answer : Result (Unit {0}) FromHexError) (out : List ℕ)
    (o : Option ℕ) (e : FromHexError)
    → MatchResult r (λ bytes. o ≡ Some (slice_index bytes 0)) (λ _. o ≡ None)
    → MatchResult r (λ bytes. (answer ≡ Ok tt) × (out ≡ bytes)) (λ f. answer ≡ Err f) → answer ≡ Err e → None ≡ o
pair_err (Ok bytes) answer out o e d v h = absurd (cc (v.0, h))
pair_err (Err f) answer out o e d v h = sym d
