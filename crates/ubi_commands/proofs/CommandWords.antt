-- What the words of a command give.
use Rattle.ubi_commands.proofs.Prelude.{◌≡◌, ◌∙◌, ◌<◌, ◌^◌, List, Some, ap, refl, subst, sym, ℕ, same_Some, Bor, Err, Ok, Result, is_some, ParsesUnsigned, digits_value, without_leading_plus, ReadsOne, first_value, one_text, one_of, rows_of, Found, first_value-rows, one_text-rows, HasNumber, HasText, IsOneOf, MayHaveNumber, gives_word, None, Option, map, [], raw_values-rows, matched_of, raw_values, HasTexts}
use Rattle.std.proofs.Common.{option_map, unwrap_or}

-- a text that the matches give is one of the words
pub text_given : (f : Found) (name : List ℕ) (text : Option (Bor (List ℕ)))
    → option_map (λ s. s.now) text ≡ first_value f name → IsOneOf (HasText (rows_of f) name) text
text_given f name None same = λ t has.
    let bad : None ≡ Some t.now = same ∙ first_value-rows f name ∙ has in
    cc
text_given f name (Some s) same = sym (first_value-rows f name) ∙ sym same

-- the texts that they give are those of the words
pub texts_given : (f : Found) (name : List ℕ) (texts : Option (Bor (List (Bor (List ℕ))))) (none : Bor (List (Bor (List ℕ)))) → none.now ≡ []
    → option_map (λ s. map (λ v. v.now) s.now) texts ≡ option_map raw_values (matched_of f name)
    → HasTexts (rows_of f) name (unwrap_or texts none).now
texts_given f name None none empty same =
    ap (map (λ v. v.now)) empty ∙ ap (λ (o : Option (List (List ℕ))). unwrap_or o []) (same ∙ raw_values-rows f name)
texts_given f name (Some s) none empty same = ap (λ (o : Option (List (List ℕ))). unwrap_or o []) (same ∙ raw_values-rows f name)

-- whether they give one is whether the words do
pub is_given : (f : Found) (name : List ℕ) (text : Option (Bor (List ℕ))) → option_map (λ s. s.now) text ≡ first_value f name
    → is_some text ≡ gives_word (rows_of f) name
is_given f name None same = ap is_some (same ∙ first_value-rows f name)
is_given f name (Some s) same = ap is_some (same ∙ first_value-rows f name)

-- and so is a number of 32 bits, where they give one
pub number_given : (E : Type 0) (G : List ℕ → Result ℕ E → Type 0) (f : Found) (name : List ℕ) (number : Option ℕ)
    → ((t : List ℕ) (r : Result ℕ E) → G t r → ParsesUnsigned 32 10 t r)
    → (one_text f name ≡ None → number ≡ None)
    → ((t : List ℕ) → one_text f name ≡ Some t → ReadsOne G t number)
    → MayHaveNumber (rows_of f) name number
number_given E G f name number parses none value n = (there, back)
  where
    text : Option (List ℕ)
    text = one_text f name

    shown : option_map without_leading_plus (one_of name (rows_of f)) ≡ option_map without_leading_plus text
    shown = ap (option_map without_leading_plus) (sym (one_text-rows f name))

    there : number ≡ Some n → HasNumber (rows_of f) name n
    there is = go text refl
      where
        go : (o : Option (List ℕ)) → text ≡ o → HasNumber (rows_of f) name n
        go None e =
            let bad : Some n ≡ None = sym is ∙ none e in
            cc
        go (Some t) e =
            let read : ReadsOne G t (Some n) = subst (λ o. ReadsOne G t o) is (value t e) in
            let parsed : ParsesUnsigned {E = E} 32 10 t (Ok n) = parses t (Ok n) read in (
              without_leading_plus t,
              shown ∙ ap (option_map without_leading_plus) e,
              parsed.0.0,
              parsed.1,
              rw parsed.1 parsed.0.1,
            )

    back : HasNumber (rows_of f) name n → number ≡ Some n
    back has = go text refl
      where
        reads : (t : List ℕ) → without_leading_plus t ≡ has.0 → (o : Option ℕ) → ReadsOne G t o → o ≡ Some n
        reads t same (Some v) given =
            let parsed : ParsesUnsigned {E = E} 32 10 t (Ok v) = parses t (Ok v) given in
            ap Some (parsed.1 ∙ ap (digits_value 10) same ∙ sym has.3)
        reads t same None given =
            let small : digits_value 10 has.0 < 2 ^ 32 = rw (← has.3) has.4 in
            absurd (parses t (Err given.0) given.1 (rw same has.2, rw same small))

        go : (o : Option (List ℕ)) → text ≡ o → number ≡ Some n
        go None e =
            let bad : None ≡ Some has.0 = sym (shown ∙ ap (option_map without_leading_plus) e) ∙ has.1 in
            cc
        go (Some t) e =
            let same : Some (without_leading_plus t) ≡ Some has.0 =
            sym (shown ∙ ap (option_map without_leading_plus) e) ∙ has.1 in
            reads t (same_Some _ _ same) number (value t e)

-- what they give is a number of the words
pub one_given : (f : Found) (name : List ℕ) (number : Option ℕ) → MayHaveNumber (rows_of f) name number
    → IsOneOf (HasNumber (rows_of f) name) number
one_given f name None whole = λ n has.
    let bad : None ≡ Some n = (whole n).1 has in
    cc
one_given f name (Some n) whole = (whole n).0 refl
