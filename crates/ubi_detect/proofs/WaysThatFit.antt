-- What is found for a row of numbers, in order.
use Rattle.ubi_detect.proofs.Prelude.{◌≡◌, ℕ, ◌+◌, ◌<◌, List, [], ◌∷◌, ◌++◌, length, take, get_or, ap, sym, ◌∙◌, Option, Some, None, cons_option, filter_map, flat_map, append-nil, take_more, flat_map-append, filter_map-append, append_assoc}

module _ {X : Type 0} (f : ℕ → Option X) (xs : List ℕ) (i d : ℕ) (inside : i < length xs) (before found : List X)
    (so_far : found ≡ before ++ filter_map f (take i xs)) where
  kept : filter_map f (take (i + 1) xs) ≡ filter_map f (take i xs) ++ cons_option (f (get_or xs i d)) []
  kept = ap (filter_map f) (take_more xs i d inside) ∙ filter_map-append f (take i xs) (get_or xs i d ∷ [])

  all_kept : (o : Option X) → f (get_or xs i d) ≡ o
      → before ++ filter_map f (take (i + 1) xs) ≡ (before ++ filter_map f (take i xs)) ++ cons_option o []
  all_kept o e =
      ap (λ zs. before ++ zs) kept ∙ ap (λ p. before ++ (filter_map f (take i xs) ++ cons_option p [])) e
      ∙ sym (append_assoc before (filter_map f (take i xs)) (cons_option o []))

  -- one more of which something is found comes behind, and one of which nothing is found changes nothing
  pub fit_more : (y : X) → f (get_or xs i d) ≡ Some y → found ++ y ∷ [] ≡ before ++ filter_map f (take (i + 1) xs)
  fit_more y e = ap (λ zs. zs ++ y ∷ []) so_far ∙ sym (all_kept (Some y) e)

  pub miss_more : f (get_or xs i d) ≡ None → found ≡ before ++ filter_map f (take (i + 1) xs)
  miss_more e = so_far ∙ sym (append-nil _) ∙ sym (all_kept None e)

-- what is found of each of a row of numbers, one more of them
pub found_more : {X : Type 0} (f : ℕ → List X) (xs : List ℕ) (i d : ℕ) → i < length xs
    → flat_map f (take (i + 1) xs) ≡ flat_map f (take i xs) ++ f (get_or xs i d)
found_more f xs i d inside =
    ap (flat_map f) (take_more xs i d inside) ∙ flat_map-append f (take i xs) (get_or xs i d ∷ [])
    ∙ ap (λ ys. flat_map f (take i xs) ++ ys) (append-nil (f (get_or xs i d)))
