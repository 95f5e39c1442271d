-- The texts that are printed for a volume that isn't read, and for volumes that have no meaning together.
use Rattle.std.specs.Prelude.{ℕ, List, ◌++◌, codes, decimal}
use Rattle.ubi_media.specs.ErrorTexts.{rec_fault_name}
use Rattle.ubi_volume.specs.declared.errors.MeaningCause.{MeaningCause}
use Rattle.ubi_volume.specs.declared.errors.MeaningCause.TheVariants as cause
use Rattle.ubi_volume.specs.declared.errors.ReadError.{ReadError}
use Rattle.ubi_volume.specs.declared.errors.ReadError.TheVariants as error

-- the text that says why a volume isn't read
abbrev pub read_error_text : ReadError → List ℕ
read_error_text error.NoVolume = codes "L1 NoVolume"
read_error_text error.Updating = codes "L2 Updating"
read_error_text error.Damaged = codes "L3 Damaged"
read_error_text error.OutOfRange = codes "L4 OutOfRange"
read_error_text (error.Write n) = codes "a write failed written=" ++ decimal n
read_error_text error.Memory = codes "out of memory"

-- the text that says why volumes have no meaning together
abbrev pub meaning_cause_text : MeaningCause → List ℕ
meaning_cause_text (cause.IdRange item) = codes "M1 IdRange item=" ++ decimal item
meaning_cause_text (cause.SameId item) = codes "M2 SameId item=" ++ decimal item
meaning_cause_text (cause.Record item f) = codes "M3 Record item=" ++ decimal item ++ codes " " ++ rec_fault_name f
meaning_cause_text (cause.SameName item earlier) =
    codes "M4 SameName item=" ++ decimal item ++ codes " earlier=" ++ decimal earlier
meaning_cause_text cause.NoSpace = codes "M5 NoSpace"
meaning_cause_text (cause.ContentRange item) = codes "M6 ContentRange item=" ++ decimal item
