-- What is detected in a source, by the group of its image.
use Rattle.ubi_detect.proofs.Prelude.{◌≡◌, ◌≢◌, ◌∷◌, ℕ, List, [], ap, get_or, refl, sym, Result, Ok, Err, IfErr, IfOk, AreDetectedOf, IsDetectError, IsFound, told, Agreed, Source, WhereHeld, DetectError, Detected, Group, IsUntold}
use Rattle.ubi_detect.specs.declared.detect.DetectError.TheVariants as error
use Rattle.ubi_detect.specs.declared.detect.Undetected.TheVariants as cause

module _ (agrees : Agreed) (g : Group) (found : WhereHeld agrees (λ bytes. IsFound bytes g)) where
  pub detected : {V : Type 0} (items : V → List Detected) (r : Result V DetectError) → IfOk r (λ v. WhereHeld agrees (λ bytes. items v ≡ told bytes g))
      → IfOk r (λ v. items v ≢ []) → IfOk r (λ v. AreDetectedOf agrees (items v))
  detected items (Ok v) are some = λ bytes holds. record { group = g; is = found bytes holds; are = are bytes holds; some = some }
  detected items (Err e) are some = tt

  undetected_by : (k : Source) (n : ℕ) (e : DetectError) → n ≡ k.size → IsUntold n agrees g e → IsDetectError k agrees e
  undetected_by k n (error.Undetected (cause.OutOfBand q)) size is = λ bytes holds. (g, found bytes holds, is.0 bytes holds, is.1, is.2)
  undetected_by k n (error.Undetected (cause.Page q o)) size is = λ bytes holds. (g, found bytes holds, is.0 bytes holds, is.1, is.2, is.3)
  undetected_by k n (error.Undetected c) size is = absurd is
  undetected_by k n (error.Read at) size is = rw (← size) is
  undetected_by k n error.Memory size is = tt

  pub undetected : {V : Type 0} (k : Source) (n : ℕ) (r : Result V DetectError) → n ≡ k.size → IfErr r (IsUntold n agrees g) → IfErr r (IsDetectError k agrees)
  undetected k n (Ok v) size is = tt
  undetected k n (Err e) size is = undetected_by k n e size is

-- a list with an element begins with the one that is its first
pub first_of : {A : Type 0} (xs : List A) (x : A) → xs ≢ [] → x ≡ get_or xs 0 x → (more : List A) × (xs ≡ x ∷ more)
first_of [] x some e = absurd (some refl)
first_of (y ∷ ys) x some e = (ys, ap (λ z. z ∷ ys) (sym e))

-- and there is one
pub some_first : {A : Type 0} (xs : List A) → xs ≢ [] → (x : A) × (more : List A) × (xs ≡ x ∷ more)
some_first [] some = absurd (some refl)
some_first (x ∷ xs) some = (x, xs, refl)
