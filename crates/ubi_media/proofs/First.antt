-- The first element of a list that passes a test.
use Rattle.ubi_media.proofs.Prelude.{◌≡◌, zero, suc, ◌<◌, Bool, true, false, cond, List, [], ◌∷◌, length, get_or, refl, ap, sym, ◌∙◌, arith, All, None, Option, Some, find, IsFirst}

module _ {X : Type 0} (p : X → Bool) where
  -- where none is found, each fails, and the other way round
  pub none_passes : (xs : List X) → find p xs ≡ None → All (λ x. p x ≡ false) xs
  none_passes [] e k d h = absurd (omega arith)
  none_passes (x ∷ xs) e k d h =
      elim (p x) as (λ b. p x ≡ b → cond b (Some x) (find p xs) ≡ None → p (get_or (x ∷ xs) k d) ≡ false) [
        | true ↦ λ t n. absurd (cc)
        | false ↦ λ t n. elim k as (λ i. i < suc (length xs) → p (get_or (x ∷ xs) i d) ≡ false) [
          | zero ↦ λ _. t
          | suc i ↦ λ l. none_passes xs n i d (omega arith)
        ] h
      ] refl e

  pub none_found : (xs : List X) → All (λ x. p x ≡ false) xs → find p xs ≡ None
  none_found [] h = refl
  none_found (x ∷ xs) h =
      ap (λ b. cond b (Some x) (find p xs)) (h 0 x (omega arith)) ∙ none_found xs (λ k d l. h (suc k) d (omega arith))

  -- what is found passes
  pub found_passes : (xs : List X) (x : X) → find p xs ≡ Some x → p x ≡ true
  found_passes [] x e = absurd (cc)
  found_passes (y ∷ xs) x e =
      elim (p y) as (λ b. p y ≡ b → cond b (Some y) (find p xs) ≡ Some x → p x ≡ true) [
        | true ↦ λ t n. let same : y ≡ x = cc in ap p (sym same) ∙ t
        | false ↦ λ t n. found_passes xs x n
      ] refl e

  first_of_none : All (λ x. p x ≡ false) []
  first_of_none k d h = absurd (omega arith)

  one_more : (x : X) (xs : List X) → p x ≡ false → All (λ y. p y ≡ false) xs → All (λ y. p y ≡ false) (x ∷ xs)
  one_more x xs e h zero d l = e
  one_more x xs e h (suc k) d l = h k d (omega arith)

  behind : (x : X) (xs : List X) (o : Option X) → p x ≡ false → IsFirst p xs o → IsFirst p (x ∷ xs) o
  behind x xs None e h = one_more x xs e h
  behind x xs (Some y) e h = (x ∷ h.0, h.1, ap (λ l. x ∷ l) h.2, h.3, one_more x h.0 e h.4)

  -- what is found is the first
  pub find-IsFirst : (xs : List X) → IsFirst p xs (find p xs)
  find-IsFirst [] = first_of_none
  find-IsFirst (x ∷ xs) =
      let rest = find-IsFirst xs in
      elim (p x) as (λ b. p x ≡ b → IsFirst p (x ∷ xs) (cond b (Some x) (find p xs))) [
        | true ↦ λ t. ([], xs, refl, t, first_of_none)
        | false ↦ λ t. behind x xs (find p xs) t rest
      ] refl
