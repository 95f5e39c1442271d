-- The place of the first element that passes a test, or the one after the last.
use Rattle.ubi_config.proofs.Prelude.{◌≡◌, Bool, List, length, arith, position, unwrap_or, position_or_len, nat_tests, prefix_len-le-length}

-- the place that was found, or the length
pub first_or_end : {X : Type 0} (p : X → Bool) (xs : List X)
    → unwrap_or (position p xs) (length xs) ≡ position_or_len p xs
first_or_end p xs = grind (arith, nat_tests, prefix_len-le-length)
