-- The form of a line, and how many words it has.
use Rattle.ubi_compose.proofs.Prelude.{◌≡◌, ◌≤◌, ◌==◌, ℕ, List, true, map, length, take, refl, sym, ap, ◌∙◌, arith, Option, Some, None, Err, and_parts, eqb-true, length-map, length-take, take_all, map-id, same_bytes, found_passes, first_word, line_form, forms, is_form, is_spelled, line_of, said, word, word_count, words, Form}
use Rattle.ubi_compose.specs.declared.errors.SpecCause.TheVariants as cause
use Rattle.ubi_compose.specs.declared.line.Form.TheVariants as form

pub form_fits : {X : Type 0} (read : X → List ℕ) (ws : List X) (f : Form) → line_form (map read ws) ≡ Some f
    → length ws ≡ word_count f
unfolding line_form
form_fits read ws f h =
    sym (length-map ws read)
    ∙ eqb-true (length (map read ws)) (word_count f)
    (and_parts (length (map read ws) == word_count f) (same_bytes (word (map read ws) 0) (first_word f))
    (found_passes (is_form (map read ws)) forms f h)).0

few_words : (f : Form) → word_count f ≤ 7
few_words form.Volume = omega arith
few_words _ = omega arith

count_of : (ws : List (List ℕ)) (f : Form) → line_form ws ≡ Some f → length ws ≤ 7
count_of ws f h =
    omega (arith, few_words f, form_fits (λ w. w) ws f (ap line_form (map-id ws) ∙ h))

-- words that have a form are all among the first eight
all_taken : (ws : List (List ℕ)) (f : Form) → line_form (take 8 ws) ≡ Some f → take 8 ws ≡ ws
all_taken ws f h = take_all 8 ws (omega (arith, length-take 8 ws, count_of (take 8 ws) f h))

no_form : (ws : List (List ℕ)) (o : Option Form) → line_form ws ≡ o → line_form (take 8 ws) ≡ None → line_form ws ≡ None
no_form ws None e h = e
no_form ws (Some f) e h =
    let t = take_all 8 ws (omega (arith, count_of ws f e)) in sym (ap line_form t) ∙ h

-- a line that is spelled by the rules says what its form's line says, and nothing where it has no form
pub line_said : (text : List ℕ) (ws : List (List ℕ)) (f : Form) → is_spelled text ≡ true → ws ≡ take 8 (words text)
    → line_form ws ≡ Some f → line_of text ≡ said ws f
unfolding line_of
line_said text ws f s w h =
    let all : ws ≡ words text = w ∙ all_taken (words text) f (ap line_form (sym w) ∙ h) in rw (s, ← all, h) refl

pub nothing_said : (text : List ℕ) (ws : List (List ℕ)) → is_spelled text ≡ true → ws ≡ take 8 (words text)
    → line_form ws ≡ None → line_of text ≡ Err cause.Word
unfolding line_of
nothing_said text ws s w h =
    rw (s, no_form (words text) (line_form (words text)) refl (ap line_form (sym w) ∙ h)) refl
