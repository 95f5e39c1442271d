-- The texts that are printed for an image that isn't composed or built, and for a text that isn't read.
use Rattle.std.specs.Prelude.{ℕ, List, ◌++◌, codes, decimal}
use Rattle.ubi_media.specs.ErrorTexts.{rec_fault_name}
use Rattle.ubi_volume.specs.ErrorTexts.{meaning_cause_text}
use Rattle.ubi_compose.specs.declared.errors.BuildError.{BuildError}
use Rattle.ubi_compose.specs.declared.errors.BuildError.TheVariants as build
use Rattle.ubi_compose.specs.declared.errors.ComposeError.{ComposeError}
use Rattle.ubi_compose.specs.declared.errors.ComposeError.TheVariants as compose
use Rattle.ubi_compose.specs.declared.errors.RecipeError.{RecipeError}
use Rattle.ubi_compose.specs.declared.errors.RecipeError.TheVariants as recipe
use Rattle.ubi_compose.specs.declared.errors.SpecCause.{SpecCause}
use Rattle.ubi_compose.specs.declared.errors.SpecCause.TheVariants as cause
use Rattle.ubi_compose.specs.declared.errors.SpecError.{SpecError}
use Rattle.ubi_compose.specs.declared.errors.SpecError.TheVariants as spec

-- the text that says why an image isn't composed
abbrev pub compose_error_text : ComposeError → List ℕ
compose_error_text compose.TooMany = codes "C1 TooMany"
compose_error_text compose.Memory = codes "out of memory"

-- the text that says why volumes to build are refused
abbrev pub recipe_error_text : RecipeError → List ℕ
recipe_error_text (recipe.Refused c) = meaning_cause_text c
recipe_error_text recipe.Memory = codes "out of memory"

-- the text that says why an image isn't built: the number of the volume, and how many bytes were written
abbrev pub build_error_text : BuildError → List ℕ
build_error_text build.TooMany = codes "C1 TooMany"
build_error_text (build.Beyond id) = codes "C2 Beyond volume=" ++ decimal id
build_error_text build.Memory = codes "out of memory"
build_error_text (build.Read id n) = codes "a read failed volume=" ++ decimal id ++ codes " written=" ++ decimal n
build_error_text (build.Write n) = codes "a write failed written=" ++ decimal n

-- the name of what is wrong with a line of a text
abbrev pub spec_cause_name : SpecCause → List ℕ
spec_cause_name cause.Word = codes "P1 Word"
spec_cause_name cause.Number = codes "P2 Number"
spec_cause_name cause.Hex = codes "P3 Hex"
spec_cause_name cause.Name = codes "P4 Name"
spec_cause_name cause.Order = codes "P5 Order"
spec_cause_name (cause.Record _) = codes "P6 Record"
spec_cause_name cause.Twice = codes "P7 Twice"
spec_cause_name cause.Long = codes "P8 Long"

-- the text of what is wrong with a line, with the fault of a record
abbrev pub spec_cause_text : SpecCause → List ℕ
spec_cause_text (cause.Record f) = codes "P6 Record " ++ rec_fault_name f
spec_cause_text c = spec_cause_name c

-- the text that says why a text isn't read: what is wrong, on which line, and the fault of a record
abbrev pub spec_error_text : SpecError → List ℕ
spec_error_text (spec.Refused line (cause.Record f)) = codes "P6 Record line=" ++ decimal line ++ codes " " ++ rec_fault_name f
spec_error_text (spec.Refused line c) = spec_cause_name c ++ codes " line=" ++ decimal line
spec_error_text spec.Memory = codes "out of memory"
