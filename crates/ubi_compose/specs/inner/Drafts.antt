-- Reading line by line: what a line makes of the volumes that the lines above it give.
use Rattle.std.specs.Prelude.{◌≡◌, Result, Err, ℕ, ◌==◌, Bool, true, false, nat_lt, if◌then◌else◌, List, [], ◌∷◌, ◌++◌, length, map, Option, None, Ok, is_some, slice_get, slice_set}
use Rattle.std.specs.BTreeMap.{BTreeMap, IsOrdered}
use Rattle.std.specs.BTreeMap as tree
use Rattle.std.specs.Coded.{Coded, coded×, coded_list, coded_ℕ}
use Rattle.std.specs.FinMap.{FinMap, entries, get, insert}
use Rattle.std.specs.List.{All, position_from}
use Rattle.std.specs.Option.{option_map_or}
use Rattle.std.specs.Ordering.{nat_cmp}
use Rattle.std.specs.Result.{result_map_both}
use Rattle.ubi_media.specs.Fields.{filled}
use Rattle.ubi_media.specs.Geometry.{Sizes}
use Rattle.ubi_media.specs.Record.{rec_fault, usable}
use Rattle.ubi_media.specs.declared.record.VolumeRecord.{VolumeRecord}
use Rattle.ubi_volume.specs.Made.{Items}
use Rattle.ubi_volume.specs.declared.content.Content.{Content}
use Rattle.ubi_volume.specs.declared.content.Content.TheVariants as content
use Rattle.ubi_volume.specs.declared.content.Volume.{Volume}
use Rattle.ubi_volume.specs.contracts.content.Volume as volume_type
use Rattle.ubi_compose.specs.Lines.{◌>>=◌, is_skipped, line_of, volume_of}
use Rattle.ubi_compose.specs.Spec.{volume_from}
use Rattle.ubi_compose.specs.declared.errors.LineError.{LineError}
use Rattle.ubi_compose.specs.declared.errors.LineError.TheVariants as line_error
use Rattle.ubi_compose.specs.declared.errors.SpecCause.{SpecCause}
use Rattle.ubi_compose.specs.declared.errors.SpecCause.TheVariants as cause
use Rattle.ubi_compose.specs.declared.errors.SpecError.{SpecError}
use Rattle.ubi_compose.specs.declared.errors.SpecError.TheVariants as error
use Rattle.ubi_compose.specs.declared.line.Line.{Line}
use Rattle.ubi_compose.specs.declared.line.Line.TheVariants as line

-- why a line isn't read by itself
abbrev pub IsLineError : Result Line SpecCause → LineError → Type 0
IsLineError r (line_error.Cause c) = r ≡ Err c
IsLineError r line_error.Memory = Unit {0}

-- nothing of a volume was given yet
abbrev pub is_empty : Content → Bool
is_empty content.Updating = false
is_empty content.Damaged = false
is_empty (content.Static text) = length text == 0
is_empty (content.Dynamic lebs) = length (entries lebs) == 0

-- LEBs with one more, which has a new number and not too many bytes
abbrev pub leb_added : ℕ → ℕ → List ℕ → FinMap nat_cmp (List ℕ) → Result (FinMap nat_cmp (List ℕ)) SpecCause
leb_added size lnum bytes lebs =
    if is_some (get lebs lnum) then Err cause.Twice
    else (if nat_lt size (length bytes) then Err cause.Long else Ok (insert lebs lnum (filled size bytes)))

-- what a `leb` line makes of a volume
abbrev pub with_leb : ℕ → VolumeRecord → ℕ → List ℕ → Content → Result Volume SpecCause
with_leb size r lnum bytes (content.Dynamic lebs) =
    result_map_both (λ added. record { entry = r; content = content.Dynamic added }) (λ c. c)
    (leb_added size lnum bytes lebs)
with_leb size r lnum bytes _ = Err cause.Order

-- what a `bytes` line makes of a volume
abbrev pub with_text : VolumeRecord → List ℕ → Content → Result Volume SpecCause
with_text r bytes (content.Static text) = Ok (record { entry = r; content = content.Static (text ++ bytes) })
with_text r bytes _ = Err cause.Order

-- what a `damaged` line makes of a volume
abbrev pub made_damaged : VolumeRecord → Content → Result Volume SpecCause
made_damaged r (content.Static text) =
    if length text == 0 then Ok (record { entry = r; content = content.Damaged }) else Err cause.Order
made_damaged r _ = Err cause.Order

-- what an `updating` line makes of a volume
abbrev pub made_updating : VolumeRecord → Content → Result Volume SpecCause
made_updating r c =
    if is_empty c then Ok (record { entry = record r { marker = true }; content = content.Updating })
    else Err cause.Order

-- what a content line makes of a volume
abbrev pub with_line : Sizes → Volume → Line → Result Volume SpecCause
with_line s v (line.Volume _ _) = Err cause.Order
with_line s v (line.Leb _ lnum bytes) = with_leb (usable s v.entry) v.entry lnum bytes v.content
with_line s v (line.Text _ bytes) = with_text v.entry bytes v.content
with_line s v (line.Damaged _) = made_damaged v.entry v.content
with_line s v (line.Updating _) = made_updating v.entry v.content

-- the error of a text whose first line at fault has the number
abbrev pub error_at : ℕ → LineError → SpecError
error_at n (line_error.Cause c) = error.Refused n c
error_at n line_error.Memory = error.Memory

-- why a line isn't taken
abbrev pub IsRefusedLine : {X : Type 0} → Result X SpecCause → LineError → Type 0
IsRefusedLine r (line_error.Cause c) = r ≡ Err c
IsRefusedLine r line_error.Memory = Unit {0}

-- the place of the volume with a number
abbrev pub place_of : ℕ → Items → Option ℕ
place_of id items = position_from (λ n. n == id) 0 (map (λ e. e.0) items)

-- the volumes with one more, which has a new number and whose record breaks no rule
abbrev pub opened : Sizes → Items → ℕ → VolumeRecord → Result Items SpecCause
opened s items id r =
    if is_some (place_of id items) then Err cause.Order
    else option_map_or (λ fault. Err (cause.Record fault)) (rec_fault s r) (Ok (items ++ (id, volume_from s r []) ∷ []))

-- the volumes after a content line for the volume at a place
abbrev pub changed_at : Sizes → Items → Line → ℕ → Result Items SpecCause
changed_at s items l place =
    option_map_or (λ e. result_map_both (λ v. slice_set items place (e.0, v)) (λ c. c) (with_line s e.1 l))
    (slice_get items place) (Err cause.Order)

-- the volumes after a content line
abbrev pub changed : Sizes → Items → Line → Result Items SpecCause
changed s items l = option_map_or (changed_at s items l) (place_of (volume_of l) items) (Err cause.Order)

-- what a line makes of the volumes
abbrev pub taken : Sizes → Items → Line → Result Items SpecCause
taken s items (line.Volume id r) = opened s items id r
taken s items (line.Leb id lnum bytes) = changed s items (line.Leb id lnum bytes)
taken s items (line.Text id bytes) = changed s items (line.Text id bytes)
taken s items (line.Damaged id) = changed s items (line.Damaged id)
taken s items (line.Updating id) = changed s items (line.Updating id)

-- what a line of the text makes of the volumes; blank lines and comments change nothing
abbrev pub read : Sizes → Items → List ℕ → Result Items SpecCause
read s items text = if is_skipped text then Ok items else line_of text >>= taken s items

-- no record breaks a rule
abbrev pub AreFaultless : Sizes → Items → Type 0
AreFaultless s items = All (λ e. rec_fault s e.1.entry ≡ None) items

-- a map says where the volume with a number stands
pub record AreDrafts (places : BTreeMap ℕ ℕ) (items : Items) : Type 0 where
  pub ordered : IsOrdered nat_cmp places
  pub placed : (id : ℕ) → tree.get nat_cmp places id ≡ place_of id items

-- how volumes are stored
abbrev pub items_code : Coded Items
items_code = coded_list (coded× coded_ℕ volume_type.the_row.coded)
