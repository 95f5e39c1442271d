-- The request that words are, once the command line takes them.
use Rattle.ubi_commands.proofs.Prelude.{◌≡◌, ◌∙◌, ◌&&◌, ◌||◌, ◌<◌, ◌==◌, ◌^◌, ◌∷◌, [], ap, ap₂, Bool, List, Some, arith, cond, drop, false, not, refl, subst, sym, true, true≢false, ℕ, Bor, option_and_then, option_map, pos, slice_get, unwrap_or, find, list_any, option_map_or, bytes_eq, IsNumeral, digits_value, starts_with_minus, without_leading_plus, eqb-true, ne_eqb, ints, same_Some, bytes_eq-Decides, digit_from_value, explicit_source, parser_of_value, without_minus, is_given, accepts, IsSignedIn, read_as, reading_of, Row, Rule, Text, first_of, is_empty, one_of, row_text, Reading, ValueParser, Accepts-accepts, accepts-Accepts, both, HasNumber, HasText, MayHaveNumber, None, Option, map, HasTexts, all_of}
use Rattle.clap.specs.Values.{Accepts}
use Rattle.clap.specs.declared.builder.value_parser.ValueParser.TheVariants as parser
use Rattle.ubi_commands.proofs.Uses.{EachRow, IsGiven, either, is_number, is_word, takes_one}

-- ---- a number

minus_or_not : (t : Text) → without_minus t ≡ cond (starts_with_minus t) (drop 1 t) t
minus_or_not [] = refl
minus_or_not (x ∷ xs) = go (x == 45)
  where
    go : (b : Bool) → unwrap_or (cond b (Some xs) None) (x ∷ xs) ≡ cond b xs (x ∷ xs)
    go true = refl
    go false = refl

no_plus : (ds : Text) → IsNumeral 10 ds → without_leading_plus ds ≡ ds
no_plus [] h = refl
no_plus (d ∷ ds) h =
    let plus : (d == 43) ≡ false = ne_eqb _ _ (λ e. omega (arith, digit_from_value d h.1.0)) in
    ap (λ (b : Bool). drop (cond b 1 0) (d ∷ ds)) plus

-- the digits of a text that the parser of a number takes
pub digits_read : (t : Text) → IsSignedIn (pos 0) (pos 4294967295) t
    → (digits : Text) × (without_leading_plus (without_minus t) ≡ digits) × IsNumeral 10 digits
    × (digits_value 10 digits < 2 ^ 32)
digits_read t passed = go (starts_with_minus t) refl
  where
    go : (b : Bool) → starts_with_minus t ≡ b → (digits : Text) × (without_leading_plus (without_minus t) ≡ digits)
        × IsNumeral 10 digits × (digits_value 10 digits < 2 ^ 32)
    go true minus =
        let low = rw minus at passed.2 in
        let numeral : IsNumeral 10 (drop 1 t) = rw minus at passed.0 in
        let same : without_leading_plus (without_minus t) ≡ drop 1 t =
        ap without_leading_plus (minus_or_not t ∙ ap (λ b. cond b (drop 1 t) t) minus) ∙ no_plus (drop 1 t) numeral in
        (drop 1 t, same, numeral, omega (arith, ints))
    go false minus =
        let high = rw minus at passed.3 in
        let numeral : IsNumeral 10 (without_leading_plus t) = rw minus at passed.0 in
        let same : without_leading_plus (without_minus t) ≡ without_leading_plus t =
        ap without_leading_plus (minus_or_not t ∙ ap (λ b. cond b (drop 1 t) t) minus) in
        (without_leading_plus t, same, numeral, omega (arith, ints))

-- ---- rows

-- the row of an argument that was given
abbrev pub RowOf : List Row → Text → Type 0
RowOf rows id = (r : Row) × (find (λ x. bytes_eq x.id id) rows ≡ Some r) × IsGiven r × (bytes_eq r.id id ≡ true)

pub found_row : (id : Text) (rows : List Row) → EachRow rows → (r : Row) → find (λ x. bytes_eq x.id id) rows ≡ Some r → RowOf rows id
found_row id [] each r e = absurd (cc)
found_row id (first ∷ rest) each r e = go (bytes_eq first.id id) refl e (λ h. found_row id rest each.1 r h)
  where
    go : (b : Bool) → bytes_eq first.id id ≡ b → cond b (Some first) (find (λ x. bytes_eq x.id id) rest) ≡ Some r
        → (find (λ x. bytes_eq x.id id) rest ≡ Some r → RowOf rest id)
        → (x : Row) × (cond b (Some first) (find (λ y. bytes_eq y.id id) rest) ≡ Some x) × IsGiven x × (bytes_eq x.id id ≡ true)
    go true is h behind = (first, refl, each.0, is)
    go false is h behind = behind h

given_row : (id : Text) (rows : List Row) → EachRow rows → is_given id rows ≡ true
    → RowOf rows id
given_row id [] each e = absurd (true≢false (sym e))
given_row id (r ∷ rest) each e = go (bytes_eq r.id id) refl e (λ h. given_row id rest each.1 h)
  where
    go : (b : Bool) → bytes_eq r.id id ≡ b
        → option_map_or (λ x. explicit_source x.source) (cond b (Some r) (find (λ x. bytes_eq x.id id) rest)) false ≡ true
        → (is_given id rest ≡ true → RowOf rest id)
        → (x : Row) × (cond b (Some r) (find (λ y. bytes_eq y.id id) rest) ≡ Some x) × IsGiven x × (bytes_eq x.id id ≡ true)
    go true is h behind = (r, refl, each.0, is)
    go false is h behind = behind h

-- an argument of this name has to be given
abbrev pub needs : List Rule → Text → Bool
needs c id = list_any (λ a. a.required && bytes_eq a.id id) c

needed_given : (c : List Rule) (rows : List Row) (id : Text) → needs c id ≡ true
    → list_any (λ a. a.required && not (is_given a.id rows)) c ≡ false → is_given id rows ≡ true
needed_given [] rows id wants e = absurd (true≢false (sym wants))
needed_given (a ∷ rest) rows id wants e =
    go a.required (bytes_eq a.id id) (is_given a.id rows) refl refl wants e (λ w f. needed_given rest rows id w f)
  where
    go : (b : Bool) (same : Bool) (given : Bool) → bytes_eq a.id id ≡ same → is_given a.id rows ≡ given
        → ((b && same) || needs rest id) ≡ true
        → ((b && not given) || list_any (λ x. x.required && not (is_given x.id rows)) rest) ≡ false
        → (needs rest id ≡ true → list_any (λ x. x.required && not (is_given x.id rows)) rest ≡ false
        → is_given id rows ≡ true)
        → is_given id rows ≡ true
    go true true true is has w f behind =
        let id_is : a.id ≡ id = (bytes_eq-Decides a.id id).0 is in
        subst (λ x. is_given x rows ≡ true) id_is has
    go true true false is has w f behind = absurd (true≢false f)
    go true false true is has w f behind = behind w f
    go true false false is has w f behind = absurd (true≢false f)
    go false same given is has w f behind = behind w f

pub row_of_needed : (c : List Rule) (rows : List Row) (id : Text) → EachRow rows → needs c id ≡ true
    → list_any (λ a. a.required && not (is_given a.id rows)) c ≡ false
    → RowOf rows id
row_of_needed c rows id each wants e = given_row id rows each (needed_given c rows id wants e)

pub text_in_row : (rows : List Row) (id : Text) → RowOf rows id → (text : Bor Text) × HasText rows id text
text_in_row rows id row =
    let is : first_of id rows ≡ slice_get row.0.values 0 =
    ap (λ (o : Option Row). option_and_then (λ r. slice_get r.values 0) o) row.1 in (
      record { ref_ptr = (0, 0); now = row.2.text },
      is ∙ ap (λ (vs : List Text). slice_get vs 0) row.2.values,
    )

pub text_asked : (c : List Rule) (rows : List Row) (id : Text) → EachRow rows
    → list_any (λ a. a.required && not (is_given a.id rows)) c ≡ false → needs c id ≡ true
    → (text : Bor Text) × HasText rows id text
text_asked c rows id each e wants = text_in_row rows id (row_of_needed c rows id each wants e)

-- the texts behind new references to them
behind : (ts : List Text) → map (λ (t : Bor Text). t.now) (map (λ (t : Text). record { ref_ptr = (0, 0); now = t }) ts) ≡ ts
behind [] = refl
behind (t ∷ ts) = ap (λ (xs : List Text). t ∷ xs) (behind ts)

-- the texts of an argument that may be given more than once, or left out
pub texts_in : (rows : List Row) (id : Text) → (texts : Bor (List (Bor Text))) × HasTexts rows id texts.now
texts_in rows id =
    let ts = unwrap_or (all_of id rows) [] in
    (record { ref_ptr = (0, 0); now = map (λ (t : Text). record { ref_ptr = (0, 0); now = t }) ts }, behind ts)

-- the parser of a number
abbrev word : ValueParser
word = parser.Signed (pos 0) (pos 4294967295)

word_parser : (p : Option ValueParser) → is_word p ≡ true → p ≡ Some word
word_parser (Some (parser.Signed (pos low) (pos high))) e =
    let two = both (low == 0) (high == 4294967295) e in
    ap₂ (λ (l h : ℕ). Some (parser.Signed (pos l) (pos h))) (eqb-true _ _ two.0) (eqb-true _ _ two.1)
word_parser _ e = absurd (true≢false (sym e))

-- the parser of an argument that is a number
number_parser : (a : Rule) (id : Text) → takes_one a ≡ true → a.id ≡ id → is_number id ≡ true → a.parser ≡ Some word
number_parser a id takes same number =
    let named : is_number a.id ≡ true = ap is_number same ∙ number in
    let last = both (is_empty a.defaults) _ (both _ (is_empty a.defaults && (not (is_number a.id) || is_word a.parser))
    takes).1 in
    word_parser a.parser (either (not (is_number a.id)) (is_word a.parser) last.1 (ap not named))

pub number_in_row : (rows : List Row) (id : Text) → is_number id ≡ true → RowOf rows id → (n : ℕ) × HasNumber rows id n
number_in_row rows id number row =
    let given : IsGiven row.0 = row.2 in
    let same : given.rule.id ≡ id = given.id ∙ (bytes_eq-Decides row.0.id id).0 row.3 in
    let by : given.rule.parser ≡ Some word = number_parser given.rule id given.takes same number in
    let passes : accepts given.rule.ignore_case word given.text ≡ true =
    ap (λ p. accepts given.rule.ignore_case (parser_of_value p) given.text) (sym by) ∙ given.passes in
    let digits = digits_read given.text (accepts-Accepts given.rule.ignore_case word given.text passes) in
    let reading : row.0.reading ≡ reading_of word = given.reading ∙ ap (λ p. reading_of (parser_of_value p)) by in
    let is : one_of id rows ≡ Some (without_minus given.text) =
    ap (option_and_then row_text) row.1
    ∙ ap₂ (λ (how : Reading) (vs : List Text). option_map (read_as how) (slice_get vs 0)) reading given.values in
    let has : HasNumber rows id (digits_value 10 digits.0) = (
      digits.0,
      ap (option_map without_leading_plus) is ∙ ap (λ (t : Text). Some t) digits.1,
      digits.2,
      refl,
      digits.3,
    ) in
    (digits_value 10 digits.0, has)

pub number_asked : (c : List Rule) (rows : List Row) (id : Text) → EachRow rows
    → list_any (λ a. a.required && not (is_given a.id rows)) c ≡ false → needs c id ≡ true → is_number id ≡ true
    → (n : ℕ) × HasNumber rows id n
number_asked c rows id each e wants number = number_in_row rows id number (row_of_needed c rows id each wants e)

-- ---- a number that may be left out

-- a text that begins with no minus, of a number of 32 bits
abbrev plain_word : ValueParser
plain_word = parser.Unsigned 0 4294967295

has_text : (rows : List Row) (name t : Text) (n : ℕ) → one_of name rows ≡ Some t → HasNumber rows name n
    → (Accepts false plain_word t) × (n ≡ digits_value 10 (without_leading_plus t))
has_text rows name t n is has =
    let same : without_leading_plus t ≡ has.0 =
    same_Some _ _ (sym (ap (option_map without_leading_plus) is) ∙ has.1) in
    let small : digits_value 10 has.0 < 2 ^ 32 = rw (← has.3) has.4 in
    ((rw same has.2, rw same (omega arith), omega arith, rw same (omega arith)), has.3 ∙ sym (ap (digits_value 10) same))

pub number_in : (rows : List Row) (name : Text) → (number : Option ℕ) × MayHaveNumber rows name number
number_in rows name = by_text (one_of name rows) refl
  where
    by_test : (t : Text) (b : Bool) → one_of name rows ≡ Some t → accepts false plain_word t ≡ b
        → (number : Option ℕ) × MayHaveNumber rows name number
    by_test t true is passes =
        let read : Accepts false plain_word t = accepts-Accepts false plain_word t passes in
        let small : digits_value 10 (without_leading_plus t) < 2 ^ 32 = omega (arith, read.3) in (
          Some (digits_value 10 (without_leading_plus t)),
          λ n. (
            λ e. (
              without_leading_plus t,
              ap (option_map without_leading_plus) is,
              read.0,
              sym (same_Some _ _ e),
              subst (λ x. x < 2 ^ 32) (same_Some _ _ e) small,
            ),
            λ has. ap (λ (x : ℕ). Some x) (sym (has_text rows name t n is has).1),
          ),
        )
    by_test t false is passes = (
      None,
      λ n. (
        λ e. absurd (cc),
        λ has.
            absurd (true≢false (sym (Accepts-accepts false plain_word t (has_text rows name t n is has).0) ∙ passes)),
      ),
    )

    by_text : (o : Option Text) → one_of name rows ≡ o → (number : Option ℕ) × MayHaveNumber rows name number
    by_text None is = (
      None,
      λ n. (
        λ e. absurd (cc),
        λ has.
            let bad : None ≡ Some has.0 = sym (ap (option_map without_leading_plus) is) ∙ has.1 in
            absurd (cc),
      ),
    )
    by_text (Some t) is = by_test t (accepts false plain_word t) is refl
