-- The texts that are printed for a config that isn't read.
use Rattle.std.specs.Prelude.{ℕ, List, ◌++◌, codes, decimal}
use Rattle.ubi_media.specs.ErrorTexts.{rec_fault_name}
use Rattle.ubi_config.specs.Values.{key_name}
use Rattle.ubi_config.specs.declared.errors.ConfigCause.{ConfigCause}
use Rattle.ubi_config.specs.declared.errors.ConfigCause.TheVariants as cause
use Rattle.ubi_config.specs.declared.errors.ConfigError.{ConfigError}
use Rattle.ubi_config.specs.declared.errors.ConfigError.TheVariants as error

-- the name of what is wrong, without the key or the fault of a record
abbrev pub config_cause_name : ConfigCause → List ℕ
config_cause_name cause.Line = codes "I1 Line"
config_cause_name cause.Form = codes "I2 Form"
config_cause_name cause.Key = codes "I3 Key"
config_cause_name cause.Value = codes "I4 Value"
config_cause_name cause.Unfit = codes "I5 Unfit"
config_cause_name cause.NoSection = codes "I6 NoSection"
config_cause_name cause.Again = codes "I7 Again"
config_cause_name cause.TooMany = codes "I8 TooMany"
config_cause_name cause.SameId = codes "I9 SameId"
config_cause_name cause.SameName = codes "I10 SameName"
config_cause_name cause.Autoresize = codes "I11 Autoresize"
config_cause_name (cause.Missing _) = codes "I12 Missing"
config_cause_name cause.SkipCheck = codes "I18 SkipCheck"
config_cause_name cause.Empty = codes "I13 Empty"
config_cause_name cause.LongImage = codes "I14 LongImage"
config_cause_name (cause.Record _) = codes "I15 Record"
config_cause_name cause.TooLarge = codes "I16 TooLarge"
config_cause_name cause.IdRange = codes "I17 IdRange"

-- the text of what is wrong
abbrev pub config_cause_text : ConfigCause → List ℕ
config_cause_text (cause.Missing k) = codes "I12 Missing " ++ key_name k
config_cause_text (cause.Record f) = codes "I15 Record " ++ rec_fault_name f
config_cause_text c = config_cause_name c

-- the text that says why a config isn't read: what is wrong, on which line, and the key or the fault of a record
abbrev pub config_error_text : ConfigError → List ℕ
config_error_text (error.Refused number (cause.Missing k)) =
    codes "I12 Missing line=" ++ decimal number ++ codes " " ++ key_name k
config_error_text (error.Refused number (cause.Record f)) =
    codes "I15 Record line=" ++ decimal number ++ codes " " ++ rec_fault_name f
config_error_text (error.Refused number c) = config_cause_name c ++ codes " line=" ++ decimal number
config_error_text error.Memory = codes "out of memory"
