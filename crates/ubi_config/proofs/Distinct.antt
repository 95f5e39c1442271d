-- Keys that are distinct, and lists of keys that have none in common.
use Rattle.ubi_config.proofs.Prelude.{◌≡◌, Bool, true, false, ◌||◌, List, [], ◌∷◌, ◌++◌, refl, Option, Some, None, AllByRecursion, IsDistinct, cons_option, list_any}

pub or_false : (a b : Bool) → (a || b) ≡ false → (a ≡ false) × (b ≡ false)
or_false false b h = (refl, h)
or_false true b h = absurd (cc)

pub both_false : (a b : Bool) → a ≡ false → b ≡ false → (a || b) ≡ false
both_false false b h k = k
both_false true b h k = absurd (cc)

module _ {X : Type 0} (e : X → X → Bool) where
  all-push : (P : X → Type 0) (xs : List X) (n : X) → AllByRecursion P xs → P n → AllByRecursion P (xs ++ n ∷ [])
  all-push P [] n h p = (p, tt)
  all-push P (x ∷ xs) n h p = (h.0, all-push P xs n h.1 p)

  -- one more key that none before it equals
  pub distinct-push : (xs : List X) (n : X) → IsDistinct e xs → AllByRecursion (λ x. e x n ≡ false) xs
      → IsDistinct e (xs ++ n ∷ [])
  unfolding IsDistinct
  distinct-push [] n d h = (tt, tt)
  distinct-push (x ∷ xs) n d h = (all-push (λ y. e x y ≡ false) xs n d.0 h.0, distinct-push xs n d.1 h.1)

  pub distinct_tail : (o : Option X) (xs : List X) → IsDistinct e (cons_option o xs) → IsDistinct e xs
  unfolding IsDistinct
  distinct_tail None xs d = d
  distinct_tail (Some x) xs d = d.1

  pub all_none : (p : X → Bool) (xs : List X) → list_any p xs ≡ false → AllByRecursion (λ x. p x ≡ false) xs
  all_none p [] h = tt
  all_none p (x ∷ xs) h = let both = or_false (p x) (list_any p xs) h in (both.0, all_none p xs both.1)

  any_apart : (x : X) (xs ys : List X) → AllByRecursion (λ y. e x y ≡ false) (xs ++ ys) → list_any (e x) ys ≡ false
  any_apart x [] [] h = refl
  any_apart x [] (y ∷ ys) h = both_false (e x y) (list_any (e x) ys) h.0 (any_apart x [] ys h.1)
  any_apart x (z ∷ xs) ys h = any_apart x xs ys h.1

  -- of distinct keys none of the first equals one of those behind them
  pub apart : (xs ys : List X) → IsDistinct e (xs ++ ys) → list_any (λ x. list_any (e x) ys) xs ≡ false
  unfolding IsDistinct
  apart [] ys d = refl
  apart (x ∷ xs) ys d =
      both_false (list_any (e x) ys) (list_any (λ x. list_any (e x) ys) xs) (any_apart x xs ys d.0) (apart xs ys d.1)

  -- keys are distinct where the first equals none of the others
  pub distinct_cons : (x : X) (xs : List X) → list_any (e x) xs ≡ false → IsDistinct e xs → IsDistinct e (x ∷ xs)
  unfolding IsDistinct
  distinct_cons x xs h d = (all_none (e x) xs h, d)

  pub distinct_none : IsDistinct e []
  unfolding IsDistinct
  distinct_none = tt
