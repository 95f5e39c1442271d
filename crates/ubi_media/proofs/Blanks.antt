-- Bytes that are all 0xFF, as one comparison of memory tells.
use Rattle.ubi_media.proofs.Prelude.{◌≡◌, ℕ, Bool, true, false, List, [], ◌∷◌, length, take, refl, subst, eqb-true, nat_eq, is_blank, pointwise, list_all}
use Rattle.std.specs.Prelude.{◌&&◌}

-- each byte is the one before it exactly if all are the first one
each_before : (x : ℕ) (xs : List ℕ) → pointwise nat_eq xs (take (length xs) (x ∷ xs)) ≡ list_all (λ b. nat_eq b x) xs
each_before x [] = refl
each_before x (y ∷ ys) = by_test (nat_eq y x) refl (each_before y ys) where
  by_test : (b : Bool) → nat_eq y x ≡ b → pointwise nat_eq ys (take (length ys) (y ∷ ys)) ≡ list_all (λ z. nat_eq z y) ys
      → (b && pointwise nat_eq ys (take (length ys) (y ∷ ys))) ≡ (b && list_all (λ z. nat_eq z x) ys)
  by_test false e rest = refl
  by_test true e rest = subst (λ v. pointwise nat_eq ys (take (length ys) (y ∷ ys)) ≡ list_all (λ z. nat_eq z v) ys) (eqb-true y x e) rest

-- bytes are blank if the first is 0xFF, and each of the others is the one before it
pub blank_shifted : (bytes : List ℕ) (x : ℕ) (xs : List ℕ) → bytes ≡ x ∷ xs → x ≡ 255 → pointwise nat_eq xs (take (length xs) bytes) ≡ is_blank bytes
blank_shifted bytes x xs e first = rw (e, first) (each_before 255 xs)
