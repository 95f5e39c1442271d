-- Ranges of LEBs that are found in order.
use Rattle.ubi_compare.proofs.Prelude.{◌≡◌, ℕ, ◌+◌, ◌==◌, Bool, true, false, List, [], ◌∷◌, ◌++◌, append_assoc, append-nil, ap, sym, ◌∙◌, None, Option, Some, ranges_after, Difference, Ranges, AddsLeb, ranges_told, told_with}
use Rattle.ubi_compare.proofs.NoDifferences.{both_none, chosen, map_none, not_chosen, range_begun}
use Rattle.ubi_compare.specs.declared.difference.Difference.TheVariants as difference

-- a LEB that follows the last joins it
pub joined : (old new : Ranges) (lnum first last : ℕ) → old.begun ≡ Some (first, last) → (lnum == last + 1) ≡ true
    → new.id ≡ old.id → new.told.items ≡ old.told.items → new.begun ≡ Some (first, lnum) → (rest : List ℕ)
    → told_with old (lnum ∷ rest) ≡ told_with new rest
joined old new lnum first last begun follows id told more rest =
    ap (λ o. old.told.items ++ ranges_told old.id (ranges_after o (lnum ∷ rest))) begun
    ∙ ap (λ rs. old.told.items ++ ranges_told old.id rs)
    (chosen (lnum == last + 1) (ranges_after (Some (first, lnum)) rest) ((first, last) ∷ ranges_after (Some (lnum, lnum)) rest)
    follows)
    ∙ ap (λ o. old.told.items ++ ranges_told old.id (ranges_after o rest)) (sym more)
    ∙ ap (λ xs. xs ++ ranges_told old.id (ranges_after new.begun rest)) (sym told)
    ∙ ap (λ i. new.told.items ++ ranges_told i (ranges_after new.begun rest)) (sym id)

-- one that doesn't begins another
module _ (old new : Ranges) (lnum : ℕ) (id : new.id ≡ old.id) (told : new.told.items ≡ told_with old [])
    (more : new.begun ≡ Some (lnum, lnum)) (rest : List ℕ) where
  abbrev next : List Difference
  next = ranges_told old.id (ranges_after (Some (lnum, lnum)) rest)

  after : told_with old [] ++ next ≡ told_with new rest
  after = ap (λ xs. xs ++ next) (sym told)
      ∙ ap (λ o. new.told.items ++ ranges_told old.id (ranges_after o rest)) (sym more)
      ∙ ap (λ i. new.told.items ++ ranges_told i (ranges_after new.begun rest)) (sym id)

  pub begins_apart : (first last : ℕ) → old.begun ≡ Some (first, last) → (lnum == last + 1) ≡ false
      → told_with old (lnum ∷ rest) ≡ told_with new rest
  begins_apart first last begun apart =
      ap (λ o. old.told.items ++ ranges_told old.id (ranges_after o (lnum ∷ rest))) begun
      ∙ ap (λ rs. old.told.items ++ ranges_told old.id rs)
      (not_chosen (lnum == last + 1) (ranges_after (Some (first, lnum)) rest)
      ((first, last) ∷ ranges_after (Some (lnum, lnum)) rest) apart)
      ∙ sym (append_assoc old.told.items (difference.Lebs old.id first last ∷ []) next)
      ∙ ap (λ o. old.told.items ++ ranges_told old.id (ranges_after o []) ++ next) (sym begun) ∙ after

  pub begins_first : old.begun ≡ None → told_with old (lnum ∷ rest) ≡ told_with new rest
  begins_first begun =
      ap (λ o. old.told.items ++ ranges_told old.id (ranges_after o (lnum ∷ rest))) begun
      ∙ ap (λ xs. xs ++ next) (sym (append-nil old.told.items))
      ∙ ap (λ o. old.told.items ++ ranges_told old.id (ranges_after o []) ++ next) (sym begun) ∙ after

-- a range there is once a LEB was added
some_range : (o : Option (ℕ × ℕ)) (lnum : ℕ) → ranges_after o (lnum ∷ []) ≡ [] → ⊥
some_range None lnum none = range_begun (lnum, lnum) [] none
some_range (Some r) lnum none = range_begun r (lnum ∷ []) none

pub adds_leb : (brief : Bool) (lnum : ℕ) (old new : Ranges)
    → ((rest : List ℕ) → told_with old (lnum ∷ rest) ≡ told_with new rest) → AddsLeb brief lnum old new
adds_leb false lnum old new more = more
adds_leb true lnum old new more = λ none.
    let told = both_none old.told.items (ranges_told old.id (ranges_after old.begun (lnum ∷ []))) (more [] ∙ none) in
    some_range old.begun lnum
    (map_none (λ (e : ℕ × ℕ). difference.Lebs old.id e.0 e.1) (ranges_after old.begun (lnum ∷ [])) told.1)
