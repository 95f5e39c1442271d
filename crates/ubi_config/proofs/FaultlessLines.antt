-- What each line without a fault keeps holds for the lines of a text without a line at fault.
use Rattle.ubi_config.proofs.Prelude.{◌≡◌, ℕ, List, [], ◌∷◌, ◌++◌, append-nil, append_assoc, length, subst, refl, sym, ap, ◌∙◌, Option, Some, None, Result, Ok, Err, option_map, option_to_list, option_or, result_unwrap_or, later_cause, Fault, cause_after, line_at, line_fault, lines, sayings, ConfigCause, Line}
use Rattle.ubi_config.proofs.LinesLeft.{first_from_start, first_left, next_cause}
use Rattle.ubi_config.proofs.ReadSoFar.{nothing_yet, saying_is, sayings-push}

pub or_none : (a b : Option Fault) → option_or a b ≡ None → (a ≡ None) × (b ≡ None)
or_none None b h = (refl, h)
or_none (Some x) b h = absurd (cc)

map_none : (f : ConfigCause → Fault) (o : Option ConfigCause) → option_map f o ≡ None → o ≡ None
map_none f None h = refl
map_none f (Some c) h = absurd (cc)

module _ (P : List Line → Type 0)
    (step : (above : List Line) (l : Line) → P above → later_cause above l ≡ None → P (above ++ l ∷ [])) where
  with_one : (above : List Line) (r : Result (Option Line) ConfigCause) → P above → cause_after above r ≡ None
      → P (above ++ option_to_list (result_unwrap_or r None))
  with_one above (Err c) p h = absurd (cc)
  with_one above (Ok None) p h = subst P (sym (append-nil above)) p
  with_one above (Ok (Some l)) p h = step above l p h

  with_line : (before : List (List ℕ)) (text : List ℕ) → P (sayings before) → next_cause before text ≡ None
      → P (sayings (before ++ text ∷ []))
  with_line before text p h =
      let more = with_one (sayings before) (line_at (length before, text)) p (map_none _ _ h) in
      subst P
      (ap (λ (o : Option Line). sayings before ++ option_to_list o) (sym (saying_is (length before) text))
      ∙ sym (sayings-push before text)) more

  kept_left : (before rest : List (List ℕ)) → P (sayings before) → first_left before rest ≡ None
      → P (sayings (before ++ rest))
  kept_left before [] p h = subst P (ap sayings (sym (append-nil before))) p
  kept_left before (text ∷ rest) p h =
      let both = or_none (next_cause before text) (first_left (before ++ text ∷ []) rest) h in
      subst P (ap sayings (append_assoc before (text ∷ []) rest))
      (kept_left (before ++ text ∷ []) rest (with_line before text p both.0) both.1)

  pub kept : P [] → (text : List ℕ) → line_fault text ≡ None → P (sayings (lines text))
  kept p text h = kept_left [] (lines text) (subst P nothing_yet p) (sym (first_from_start text) ∙ h)
