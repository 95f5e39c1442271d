-- A writer for tests: what it has taken, and what it takes.
use Rattle.std.specs.Prelude.{◌≡◌, ℕ, ◌-◌, List, Option, Some, None, Bool, true, false, if◌then◌else◌, not, ◌&&◌, ◌==◌, min, length, refl}
use Rattle.std.specs.Coded.{Coded, code_by, coded×, coded_ℕ, coded_list}
use Rattle.ubi_probe.specs.declared.writer.Failure.{Failure}
use Rattle.ubi_probe.specs.declared.writer.Failure.TheVariants as failure
use Rattle.ubi_probe.specs.contracts.writer.Failure as failure_type

-- the bytes that it has taken, how many it takes in all and at once, and how it fails after that
pub record Probe : Type 0 where
  pub taken : List ℕ
  pub room : ℕ
  pub most : ℕ
  pub failure : Failure

-- a writer for tests as nested pairs
abbrev pub probe_code : Coded Probe
probe_code =
    code_by (List ℕ × (ℕ × (ℕ × Failure))) (coded× (coded_list coded_ℕ) (coded× coded_ℕ (coded× coded_ℕ failure_type.the_row.coded)))
    (λ p. (p.taken, (p.room, (p.most, p.failure)))) (λ t. record { taken = t.0; room = t.1.0; most = t.1.1.0; failure = t.1.1.1 })
    (λ _. refl)

-- whether it fails by an error
abbrev pub is_error : Failure → Bool
is_error (failure.Error _) = true
is_error failure.Nothing = false

-- how many of n bytes there is room for
abbrev pub fitting : Probe → ℕ → ℕ
fitting p n = min (min n (p.room - length p.taken)) p.most

-- how many of n bytes it takes; `None` if it fails by an error
abbrev pub answer : Probe → ℕ → Option ℕ
answer p n = if (fitting p n == 0) && (not (n == 0) && is_error p.failure) then None else Some (fitting p n)

-- what a write leaves as it was
pub record IsSameWriter (old new : Probe) : Type 0 where
  pub room : new.room ≡ old.room
  pub most : new.most ≡ old.most
  pub failure : new.failure ≡ old.failure
