-- Tests that are done in order.
use Rattle.ubi_detect.proofs.Prelude.{◌≡◌, Bool, true, false, refl, ap, sym, ◌∙◌, ◌&&◌, ◌||◌}

module _ (a b c : Bool) where
  pub first_fails : a ≡ false → false ≡ (a && b && c)
  first_fails e = sym (ap (λ x. x && b && c) e)

  pub second_fails : a ≡ true → b ≡ false → false ≡ (a && b && c)
  second_fails e f = sym (ap (λ x. x && b && c) e ∙ ap (λ x. x && c) f)

  pub third_decides : (d : Bool) → a ≡ true → b ≡ true → d ≡ c → d ≡ (a && b && c)
  third_decides d e f g = g ∙ sym (ap (λ x. x && b && c) e ∙ ap (λ x. x && c) f)

  -- where the first fails the two others decide, of which the first passes, or doesn't
  pub last_decides : (d : Bool) → a ≡ false → b ≡ true → d ≡ c → d ≡ (a || (b && c))
  last_decides d e f g = g ∙ sym (ap (λ x. x || (b && c)) e ∙ ap (λ x. x && c) f)

  pub both_fail : (d : Bool) → a ≡ false → b ≡ false → d ≡ false → d ≡ (a || (b && c))
  both_fail d e f g = g ∙ sym (ap (λ x. x || (b && c)) e ∙ ap (λ x. x && c) f)

-- of a first test, and of a second one or else a third and a fourth
module _ (a b c d : Bool) where
  pub none_of : a ≡ true → b ≡ false → c ≡ false → false ≡ (a && (b || (c && d)))
  none_of e f g = sym (ap (λ x. x && (b || (c && d))) e ∙ ap (λ x. x || (c && d)) f ∙ ap (λ x. x && d) g)

  pub second_passes : a ≡ true → b ≡ true → true ≡ (a && (b || (c && d)))
  second_passes e f = sym (ap (λ x. x && (b || (c && d))) e ∙ ap (λ x. x || (c && d)) f)

  pub fourth_decides : (x : Bool) → a ≡ true → b ≡ false → c ≡ true → x ≡ d → x ≡ (a && (b || (c && d)))
  fourth_decides x e f g h = h ∙ sym (ap (λ x. x && (b || (c && d))) e ∙ ap (λ x. x || (c && d)) f ∙ ap (λ x. x && d) g)

-- and of two
module _ (a b : Bool) where
  pub first_of_two : a ≡ false → false ≡ (a && b)
  first_of_two e = sym (ap (λ x. x && b) e)

  pub second_of_two : (x : Bool) → a ≡ true → x ≡ b → x ≡ (a && b)
  second_of_two x e f = f ∙ sym (ap (λ y. y && b) e)

-- and of three of which one is enough
second_of : (a b c : Bool) → b ≡ true → true ≡ (a || b || c)
second_of true b c e = refl
second_of false b c e = sym (ap (λ x. x || c) e)

module _ (a b c : Bool) where
  pub second_holds : b ≡ true → true ≡ (a || b || c)
  second_holds e = second_of a b c e

  pub last_of_three : (x : Bool) → a ≡ false → b ≡ false → x ≡ c → x ≡ (a || b || c)
  last_of_three x e f h = h ∙ sym (ap (λ y. y || b || c) e ∙ ap (λ y. y || c) f)
