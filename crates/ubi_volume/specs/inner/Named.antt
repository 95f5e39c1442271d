-- Which eraseblock a call names if a read failed.
use Rattle.std.specs.Prelude.{◌≡◌, ℕ}
use Rattle.ubi_scan.specs.declared.errors.StreamError.{StreamError}
use Rattle.ubi_scan.specs.declared.errors.StreamError.TheVariants as stream

-- if a read failed, it was one of this eraseblock, after this many bytes were written
abbrev pub NamesRead : ℕ → ℕ → StreamError → Type 0
NamesRead p n (stream.Read q written) = (q ≡ p) × (written ≡ n)
NamesRead p n _ = Unit {0}
