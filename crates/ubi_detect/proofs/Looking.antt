-- Reads that follow each other.
use Rattle.ubi_detect.proofs.Prelude.{◌∙◌, ap, Err, Ok, Result, Looks, after_detecting, DetectError, Undetected, Ghosts}
use Rattle.ubi_detect.specs.declared.detect.DetectError.TheVariants as error

-- what two calls do, of which the first answers
pub looks_on : {S A B : Type 0} → (g : Ghosts S) → (a b c : S) → (x : A) → (r : Result B DetectError)
    → Looks g a b (Ok x) → Looks g b c r → Looks g a c r
looks_on g a b c x r first second = record {
  known = second.known ∙ ap (λ k. after_detecting k r) first.known;
  narrows = λ bytes holds. first.narrows bytes (second.narrows bytes holds);
  named = second.named;
}

-- another answer, of the same reads
pub looks_same : {S A B : Type 0} → (g : Ghosts S) → (a b : S) → (x : A) → (y : B) → Looks g a b (Ok x) → Looks g a b (Ok y)
looks_same g a b x y looks = record {
  known = looks.known;
  narrows = looks.narrows;
  named = looks.named;
}

-- a cause that is none of a read, of the same reads
pub looks_err : {S A B : Type 0} → (g : Ghosts S) → (a b : S) → (x : A) → (c : Undetected) → Looks g a b (Ok x)
    → Looks {A = B} g a b (Err (error.Undetected c))
looks_err g a b x c looks = record { known = looks.known; narrows = looks.narrows; named = tt }

-- the same error of another call
pub looks_fails : {S A B : Type 0} → (g : Ghosts S) → (a b : S) → (e : DetectError) → Looks {A = A} g a b (Err e)
    → Looks {A = B} g a b (Err e)
looks_fails g a b (error.Undetected c) looks = record { known = looks.known; narrows = looks.narrows; named = looks.named }
looks_fails g a b (error.Read at) looks = record { known = looks.known; narrows = looks.narrows; named = looks.named }
looks_fails g a b error.Memory looks = record { known = looks.known; narrows = looks.narrows; named = looks.named }
