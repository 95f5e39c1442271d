use Rattle.ubi_map.proofs.Prelude.{◌≡◌, ◌∙◌, ◌==◌, ℕ, Bool, true, false, not, List, [], ◌∷◌, refl, cond, codes, flat_map, list_all, list_all-append, compact_text, script_byte}
use Rattle.ubi_map.proofs.laws.stays_inside.Goals as goal

-- a byte that isn't the one that could end the element
abbrev other : ℕ → Bool
other b = not (b == 0x3C)

by_test : (test : Bool) (b : ℕ) → (b == 0x3C) ≡ test → list_all other (cond test (codes "\\u003c") (b ∷ [])) ≡ true
by_test true b is = refl
by_test false b is = rw is refl

byte_inside : (b : ℕ) → list_all other (script_byte b) ≡ true
byte_inside b = by_test (b == 0x3C) b refl

inside : (text : List ℕ) → list_all other (flat_map script_byte text) ≡ true
inside [] = refl
inside (b ∷ bs) = list_all-append other (script_byte b) (flat_map script_byte bs) ∙ rw (byte_inside b, inside bs) refl

pub returns : goal.returns
returns c = λ d. inside (compact_text d)
