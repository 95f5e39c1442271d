-- The line of a cause, with the name under which something is asked.
use Rattle.ubi_writing.proofs.Prelude.{IfSome, List, None, Option, Some, [], ap, arith, codes, get_or, length, map, refl, refused_line, slice_get, suc, sym, zero, ℕ, ◌++◌, ◌-◌, ◌<◌, ◌∙◌, ◌∷◌, ◌≡◌, ◌≤◌}

pub named : (o : Option (List ℕ)) (words asked line : List ℕ) → IfSome o (λ text. words ≡ codes "refused " ++ text)
    → line ≡ (words ++ asked) ++ codes "\n" → IfSome o (λ text. line ≡ refused_line (text ++ asked))
named None words asked line is e = tt
named (Some text) words asked line is e = e ∙ ap (λ (xs : List ℕ). (xs ++ asked) ++ codes "\n") is

-- the names of two lists, one after the other
module _ {A B : Type 0} (f : A → List ℕ) (g : B → List ℕ) where
  behind : (xs : List A) (ys : List (List ℕ)) (i : ℕ) → length xs ≤ i → slice_get (map f xs ++ ys) i ≡ slice_get ys (i - length xs)
  behind [] ys i l = ap (slice_get ys) (omega arith)
  behind (x ∷ xs) ys zero l = absurd (omega (arith, l))
  behind (x ∷ xs) ys (suc i) l = behind xs ys i (omega (arith, l)) ∙ ap (slice_get ys) (omega arith)

  here : (ys : List B) (k : ℕ) (d : B) → k < length ys → slice_get (map g ys) k ≡ Some (g (get_or ys k d))
  here [] k d l = absurd (omega (arith, l))
  here (y ∷ ys) zero d l = refl
  here (y ∷ ys) (suc k) d l = here ys k d (omega (arith, l))

  nowhere : (ys : List B) (k : ℕ) → length ys ≤ k → slice_get (map g ys) k ≡ None
  nowhere [] k l = refl
  nowhere (y ∷ ys) zero l = absurd (omega (arith, l))
  nowhere (y ∷ ys) (suc k) l = nowhere ys k (omega (arith, l))

  -- a name of the second list
  pub second_named : (xs : List A) (ys : List B) (i : ℕ) (d : B) → length xs ≤ i → i - length xs < length ys → d ≡ get_or ys (i - length xs) d
      → slice_get (map f xs ++ map g ys) i ≡ Some (g d)
  second_named xs ys i d l inside is = behind xs (map g ys) i l ∙ here ys (i - length xs) d inside ∙ ap (λ (y : B). Some (g y)) (sym is)

  -- or none at all
  pub none_named : (xs : List A) (ys : List B) (i : ℕ) → length xs ≤ i → length ys ≤ i - length xs → slice_get (map f xs ++ map g ys) i ≡ None
  none_named xs ys i l past = behind xs (map g ys) i l ∙ nowhere ys (i - length xs) past
