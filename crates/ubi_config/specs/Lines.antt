-- A line of a config by itself: what it says, or what is wrong with it.
use Rattle.std.specs.Prelude.{ℕ, ◌+◌, ◌-◌, ◌==◌, ◌&&◌, ◌||◌, Bool, not, nat_le, if◌then◌else◌, List, codes, drop, length, Option, Some, None, Result, Ok, Err, option_map, position, slice_index, slice_range, take}
use Rattle.std.specs.Bool.{then_some}
use Rattle.std.specs.List.{list_any}
use Rattle.std.specs.Option.{ok_or, option_map_or}
use Rattle.ubi_media.specs.Fields.{same_bytes}
use Rattle.ubi_media.specs.Name.{is_name}
use Rattle.ubi_media.specs.declared.vid.VolKind.{VolKind}
use Rattle.ubi_media.specs.declared.vid.VolKind.TheVariants as kind
use Rattle.ubi_config.specs.Values.{is_remark, key_of, value_of}
use Rattle.ubi_config.specs.Words.{ends_with_byte, size_of, trimmed}
use Rattle.ubi_words.specs.Words.{most_number, number_within}
use Rattle.ubi_config.specs.declared.errors.ConfigCause.{ConfigCause}
use Rattle.ubi_config.specs.declared.errors.ConfigCause.TheVariants as cause
use Rattle.ubi_config.specs.declared.key.Key.{Key}
use Rattle.ubi_config.specs.declared.key.Key.TheVariants as key
use Rattle.ubi_config.specs.declared.line.Line.{Line}
use Rattle.ubi_config.specs.declared.line.Line.TheVariants as line

infixl 10 ◌>>=◌
-- the first of several readings that fails gives the cause
abbrev pub ◌>>=◌ : {A B : Type 0} → Result A ConfigCause → (A → Result B ConfigCause) → Result B ConfigCause
Ok x >>= f = f x
Err e >>= f = Err e

-- the kind of a volume that a value names
unfoldable pub kind_named : List ℕ → Option VolKind
kind_named value =
    if same_bytes value (codes "dynamic") then Some kind.Dynamic
    else (if same_bytes value (codes "static") then Some kind.Static else None)

-- what a value of `vol_flags` says about its volume
unfoldable pub flag_of : List ℕ → Option Line
flag_of value =
    if same_bytes value (codes "autoresize") then Some line.Autoresize
    else (if same_bytes value (codes "skip-check") then Some line.SkipCheck else None)

-- what a key with a value says, if the key takes it
unfoldable pub setting : Key → List ℕ → Option Line
setting key.Mode value = then_some (same_bytes value (codes "ubi")) line.Mode
setting key.Image value = Some (line.Image value)
setting key.Id value = option_map line.Id (number_within most_number value)
setting key.Size value = option_map line.Size (size_of value)
setting key.Kind value = option_map line.Kind (kind_named value)
setting key.Name value = then_some (is_name value) (line.Name value)
setting key.Flags value = flag_of value
setting key.Alignment value = option_map line.Alignment (number_within most_number value)

-- what a line whose `=` stands at a place says
unfoldable pub setting_at : List ℕ → ℕ → Result Line ConfigCause
setting_at text place = do
  k ← ok_or (key_of (trimmed (take place text))) cause.Key
  value ← ok_or (value_of (trimmed (drop (place + 1) text))) cause.Value
  ok_or (setting k value) cause.Unfit

-- what a line that isn't a heading says
unfoldable pub setting_line : List ℕ → Result Line ConfigCause
setting_line text = option_map_or (setting_at text) (position (λ b. b == 61) text) (Err cause.Form)

-- the bytes that mean more to ubinize in a section's name: `]` and `:`
abbrev pub is_special : ℕ → Bool
is_special b = (b == 93) || (b == 58)

-- the length of the longest name of a section in bytes
abbrev pub longest_title : ℕ
longest_title = 128

-- a section's name: some bytes, but not too many, and none of them special
abbrev pub is_title : List ℕ → Bool
is_title name =
    nat_le 1 (length name) && nat_le (length name) longest_title && not (list_any is_special name)

-- the name of the section that begins with the line, in its case
unfoldable pub title_of : List ℕ → Option (List ℕ)
title_of text =
    let name = trimmed (slice_range text 1 (length text - 1)) in
    then_some (nat_le 2 (length text) && ends_with_byte 93 text && is_title name) name

-- what a line that begins with `[` says
unfoldable pub heading_line : ℕ → List ℕ → Result Line ConfigCause
heading_line number text = ok_or (option_map (line.Heading number) (title_of text)) cause.Form

-- what a line that is trimmed and isn't skipped says
unfoldable pub line_said : ℕ → List ℕ → Result Line ConfigCause
line_said number text =
    if slice_index text 0 == 91 then heading_line number text else setting_line text

-- the length of the longest line that ubinize doesn't cut in two, in bytes
abbrev pub longest_line : ℕ
longest_line = 1022

-- a line that is one line to every reader: it isn't too long, has no zero byte, and no backslash at its end
unfoldable pub is_one_line : List ℕ → Bool
is_one_line text =
    nat_le (length text) longest_line && not (list_any (λ b. b == 0) text)
    && not (ends_with_byte 92 (trimmed text))

-- what the line with a number says by itself: nothing if it's skipped
unfoldable pub line_of : ℕ → List ℕ → Result (Option Line) ConfigCause
line_of number text =
    if not (is_one_line text) then Err cause.Line
    else (if is_remark (trimmed text) then Ok None else line_said number (trimmed text) >>= (λ l. Ok (Some l)))
