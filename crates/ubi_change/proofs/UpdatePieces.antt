-- What edits write is laid out as their commit lays it out.
use Rattle.ubi_change.proofs.Prelude.{◌≡◌, ℕ, ◌+◌, ◌<◌, ◌≤◌, Bool, true, false, cond, List, [], ◌∷◌, length, length-map, map, filter, ap, ap₂, ◌∙◌, None, AllByRecursion, range_with_len, empty, slots, Sizes, Volume, laid_blocks, AttachValue, records_of, NewVolume, Part, commit_needs, placed, made_in, parts_of, free_slots, Rises, range_rises, first_edit_fault, is_taken, reads_whole, all_asked, news_of, all_layings, edited_parts, Edit}
use Rattle.std.specs.FinMap as finite
use Rattle.ubi_change.proofs.EditedAllowed.{news_sound}
use Rattle.ubi_change.proofs.EditedRecords.{fresh_are, written_are}
use Rattle.ubi_change.proofs.PartLayings.{laid_as, parts_laid, placed_entries}
use Rattle.ubi_change.proofs.PlacedParts.{parts_sound}

-- numbers that rise do so after some are left out
all_filter : (P : ℕ → Type 0) (p : ℕ → Bool) (xs : List ℕ) → AllByRecursion P xs → AllByRecursion P (filter p xs)
all_filter P p [] h = tt
all_filter P p (x ∷ xs) h = by (p x) (all_filter P p xs h.1)
  where
    by : (b : Bool) → AllByRecursion P (filter p xs) → AllByRecursion P (cond b (x ∷ filter p xs) (filter p xs))
    by true rest = (h.0, rest)
    by false rest = rest

filter_rises : (p : ℕ → Bool) (xs : List ℕ) → Rises (λ j. j) xs → Rises (λ j. j) (filter p xs)
filter_rises p [] h = tt
filter_rises p (x ∷ xs) h = by (p x) (filter_rises p xs h.1)
  where
    by : (b : Bool) → Rises (λ j. j) (filter p xs) → Rises (λ j. j) (cond b (x ∷ filter p xs) (filter p xs))
    by true rest = (all_filter (λ j. x < j) p xs h.0, rest)
    by false rest = rest

parts_reach : (size : ℕ) (js : List ℕ) (vs : List NewVolume) → AllByRecursion (λ v. v.start + v.len ≤ size) vs
    → AllByRecursion (λ (p : Part). p.start + p.len ≤ size) (parts_of js vs)
parts_reach size [] vs h = tt
parts_reach size (j ∷ js) [] h = tt
parts_reach size (j ∷ js) (v ∷ vs) h = (h.0, parts_reach size js vs h.1)

module _ (s : Sizes) (bs : List (List ℕ)) (ends : List ℕ) (a : AttachValue) (sizes : a.meaning.sizes ≡ s) (contents : List ℕ) (es : List Edit)
    (faultless : first_edit_fault s (is_taken s bs ends) (reads_whole a.meaning) 0 (records_of a.meaning) es ≡ None)
    (reach : AllByRecursion (λ v. v.start + v.len ≤ length contents) (news_of es)) where
  pub pieces_are : laid_blocks s (finite.entries (made_in s bs ends a.meaning (all_asked s contents es)))
      ≡ map (laid_as s contents) (all_layings s contents (edited_parts (is_taken s bs ends) (records_of a.meaning) es))
  pieces_are =
      let js = free_slots (is_taken s bs ends) (records_of a.meaning) in
      let vs = news_of es in
      let sound = news_sound s (is_taken s bs ends) (reads_whole a.meaning) 0 (records_of a.meaning) es faultless in
      ap₂ (λ (js : List ℕ) (vs : List Volume). laid_blocks s (finite.entries (placed empty js vs))) (fresh_are s bs ends a.meaning sizes)
      (written_are s contents es)
      ∙ ap (laid_blocks s) (placed_entries s contents js vs (filter_rises _ (range_with_len 0 (slots a.meaning.sizes)) (range_rises 0 (slots a.meaning.sizes))))
      ∙ parts_laid s contents js vs (parts_sound s js vs sound) (parts_reach (length contents) js vs reach)

  pub needs_are : commit_needs s bs ends a (all_asked s contents es)
      ≡ length (all_layings s contents (edited_parts (is_taken s bs ends) (records_of a.meaning) es)) + 2
  needs_are = ap (λ n. n + 2) (ap length pieces_are ∙ length-map (all_layings s contents (edited_parts (is_taken s bs ends) (records_of a.meaning) es)) (laid_as s contents))
