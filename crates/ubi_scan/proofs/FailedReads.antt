-- Which eraseblock is named if a read failed.
use Rattle.ubi_scan.proofs.Prelude.{◌≡◌, ℕ, ◌+◌, ◌*◌, ◌/◌, ◌<◌, ap, subst, sym, ◌∙◌, div-mul-add, IfErr, OnErr, Result, Ok, Err, Sizes, NamesBlock, StreamError}
use Rattle.ubi_scan.specs.declared.errors.StreamError.TheVariants as stream

-- a read that begins within an eraseblock is told of that one, where it fails
pub names_part : {A : Type 0} (s : Sizes) (p start at : ℕ) (r : Result A StreamError) → start < s.peb_size
    → OnErr r (at ≡ p * s.peb_size + start) → IfErr r (λ e. e ≡ stream.Read p 0) → IfErr r (NamesBlock s at)
names_part s p start at (Ok x) inside from is = tt
names_part s p start at (Err e) inside from is = subst (NamesBlock s at) (sym is)
    (sym (div-mul-add p s.peb_size start inside) ∙ ap (λ n. n / s.peb_size) (sym from))
