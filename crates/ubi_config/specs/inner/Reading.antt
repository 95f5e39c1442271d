-- Reading line by line: why a line isn't read, and the error that it gives.
use Rattle.std.specs.Prelude.{◌≡◌, ℕ, Option, Some, Result, Err}
use Rattle.ubi_config.specs.declared.errors.ConfigCause.{ConfigCause}
use Rattle.ubi_config.specs.declared.errors.ConfigError.{ConfigError}
use Rattle.ubi_config.specs.declared.errors.ConfigError.TheVariants as error
use Rattle.ubi_config.specs.declared.errors.LineError.{LineError}
use Rattle.ubi_config.specs.declared.errors.LineError.TheVariants as line_error

-- why something that the definition reads so isn't read
abbrev pub IsRefused : {X : Type 0} → Result X ConfigCause → LineError → Type 0
IsRefused r (line_error.Cause c) = r ≡ Err c
IsRefused r line_error.Memory = Unit {0}

-- why a line with this cause isn't taken
abbrev pub IsCause : Option ConfigCause → LineError → Type 0
IsCause o (line_error.Cause c) = o ≡ Some c
IsCause o line_error.Memory = Unit {0}

-- the error of a config whose first line at fault has the number
abbrev pub error_at : ℕ → LineError → ConfigError
error_at n (line_error.Cause c) = error.Refused n c
error_at n line_error.Memory = error.Memory
