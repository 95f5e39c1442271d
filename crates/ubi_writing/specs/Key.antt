-- The volume that words name, by its number or by its name.
use Rattle.std.specs.Prelude.{ℕ, Option, Some, option_and_then}
use Rattle.ubi_compose.specs.Words.{shown_name}
use Rattle.ubi_table.specs.Records.{Records, number_named}
use Rattle.ubi_writing.specs.declared.volume_key.VolumeKey.{VolumeKey}
use Rattle.ubi_writing.specs.declared.volume_key.VolumeKey.TheVariants as key

-- the number of the volume: the one that is given, or that of the volume whose name the word shows, if there is one
abbrev pub number_in : Records → VolumeKey → Option ℕ
number_in t (key.Id id) = Some id
number_in t (key.Name word) = option_and_then (number_named t) (shown_name word.now)
