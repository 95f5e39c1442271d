-- What a LEB of a meaning's volume reads, and what the whole volume reads.
use Rattle.std.specs.Prelude.{◌≡◌, ℕ, ◌++◌, List, Option, Result, Ok, Err, if◌then◌else◌, nat_lt, unwrap_or, drop, length, flat_map}
use Rattle.std.specs.FinMap.{FinMap, get}
use Rattle.std.specs.List.{range_with_len}
use Rattle.std.specs.Option.{option_map_or}
use Rattle.std.specs.Ordering.{nat_cmp}
use Rattle.std.specs.Result.{result_map_both}
use Rattle.ubi_media.specs.Fields.{blank}
use Rattle.ubi_media.specs.Geometry.{Sizes}
use Rattle.ubi_media.specs.Record.{usable}
use Rattle.ubi_media.specs.declared.record.VolumeRecord.{VolumeRecord}
use Rattle.ubi_volume.specs.Meant.{Meant, pieces, share}
use Rattle.ubi_volume.specs.declared.content.Content.{Content}
use Rattle.ubi_volume.specs.declared.content.Content.TheVariants as content
use Rattle.ubi_volume.specs.declared.errors.ReadError.{ReadError}
use Rattle.ubi_volume.specs.declared.errors.ReadError.TheVariants as error

-- what a LEB of a dynamic volume reads, by what is kept of it
abbrev pub leb_text : ℕ → Option (List ℕ) → List ℕ
leb_text size kept = unwrap_or kept (blank size)

-- what the first n LEBs of a dynamic volume read, in order
abbrev pub lebs_text : ℕ → FinMap nat_cmp (List ℕ) → ℕ → List ℕ
lebs_text size lebs n = flat_map (λ lnum. leb_text size (get lebs lnum)) (range_with_len 0 n)

-- what a LEB of a volume reads
abbrev pub leb_read : Sizes → VolumeRecord → ℕ → Content → Result (List ℕ) ReadError
leb_read s r lnum content.Updating = Err error.Updating
leb_read s r lnum content.Damaged = Err error.Damaged
leb_read s r lnum (content.Static text) =
    if nat_lt lnum (pieces (usable s r) (length text)) then Ok (share (usable s r) text lnum) else Err error.OutOfRange
leb_read s r lnum (content.Dynamic lebs) =
    if nat_lt lnum r.reserved then Ok (leb_text (usable s r) (get lebs lnum)) else Err error.OutOfRange

-- what a volume reads
abbrev pub volume_read : Sizes → VolumeRecord → Content → Result (List ℕ) ReadError
volume_read s r content.Updating = Err error.Updating
volume_read s r content.Damaged = Err error.Damaged
volume_read s r (content.Static text) = Ok text
volume_read s r (content.Dynamic lebs) = Ok (lebs_text (usable s r) lebs r.reserved)

-- what a LEB reads, by the number of its volume
abbrev pub read_leb : Meant → ℕ → ℕ → Result (List ℕ) ReadError
read_leb m id lnum = option_map_or (λ v. leb_read m.sizes v.entry lnum v.content) (get m.volumes id) (Err error.NoVolume)

-- what a volume reads, by its number
abbrev pub read_volume : Meant → ℕ → Result (List ℕ) ReadError
read_volume m id = option_map_or (λ v. volume_read m.sizes v.entry v.content) (get m.volumes id) (Err error.NoVolume)

-- how many bytes a volume reads
abbrev pub volume_len : Meant → ℕ → Result ℕ ReadError
volume_len m id = result_map_both length (λ e. e) (read_volume m id)

-- n bytes were read into what was old: those of the LEB stand in front, and what stands after them stays
abbrev pub IsLebRead : Meant → ℕ → ℕ → List ℕ → List ℕ → ℕ → Type 0
IsLebRead m id lnum old new n = (text : List ℕ) × (read_leb m id lnum ≡ Ok text) × (n ≡ length text) × (new ≡ text ++ drop n old)

-- why a volume isn't read: memory ran out for its contents, or it has none
abbrev pub IsReadError : Meant → ℕ → ReadError → Type 0
IsReadError m id error.Memory = (text : List ℕ) × (read_volume m id ≡ Ok text)
IsReadError m id e = read_volume m id ≡ Err e
