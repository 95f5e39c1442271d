-- What a remainder of a polynomial is on division by the generator.
use Rattle.std.specs.Prelude.{◌≡◌, ℕ, ◌*◌, ◌^◌, ◌<◌, bit_xor, Bool, if◌then◌else◌, List, [], ◌∷◌, length}
use Rattle.ubi_media.specs.Check.{generator}

-- the product of a polynomial, given by its coefficients from the highest power down, with another
abbrev pub product : List Bool → ℕ → ℕ
product [] p = 0
product (b ∷ bs) p = bit_xor (if b then p * 2 ^ length bs else 0) (product bs p)

-- r is a remainder of p on division by the generator: p is the sum of r and a product with the generator, and r has a
-- degree below 32
pub record IsRemainder (p r : ℕ) : Type 0 where
  pub quotient : List Bool
  pub sum : p ≡ bit_xor (product quotient generator) r
  pub degree : r < 2 ^ 32
