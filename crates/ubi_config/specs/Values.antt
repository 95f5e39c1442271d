-- The keys of a section, and the value of a line.
use Rattle.std.specs.Prelude.{ℕ, ◌+◌, ◌-◌, ◌==◌, ◌&&◌, ◌||◌, Bool, not, nat_le, if◌then◌else◌, List, [], ◌∷◌, codes, drop, find, length, Option, option_and_then, position, slice_index, take}
use Rattle.std.specs.Bool.{then_some}
use Rattle.std.specs.List.{before_first}
use Rattle.std.specs.Str.{str_eq_ignore_ascii_case}
use Rattle.ubi_config.specs.Words.{is_space, trimmed}
use Rattle.ubi_config.specs.declared.key.Key.{Key}
use Rattle.ubi_config.specs.declared.key.Key.TheVariants as key

-- the name of a key
abbrev pub key_name : Key → List ℕ
key_name key.Mode = codes "mode"
key_name key.Image = codes "image"
key_name key.Id = codes "vol_id"
key_name key.Size = codes "vol_size"
key_name key.Kind = codes "vol_type"
key_name key.Name = codes "vol_name"
key_name key.Flags = codes "vol_flags"
key_name key.Alignment = codes "vol_alignment"

-- the keys
abbrev pub keys : List Key
keys =
    key.Mode ∷ key.Image ∷ key.Id ∷ key.Size ∷ key.Kind ∷ key.Name ∷ key.Flags ∷ key.Alignment ∷ []

-- the key that a word names, its letters in either case
unfoldable pub key_of : List ℕ → Option Key
key_of word = find (λ k. str_eq_ignore_ascii_case word (key_name k)) keys

-- a byte that begins a remark: `#` or `;`
abbrev pub is_mark : ℕ → Bool
is_mark b = (b == 35) || (b == 59)

-- nothing, or a remark
abbrev pub is_remark : List ℕ → Bool
is_remark text = (length text == 0) || is_mark (slice_index text 0)

-- some bytes
abbrev pub some_bytes : List ℕ → Option (List ℕ)
some_bytes bytes = then_some (nat_le 1 (length bytes)) bytes

-- a value without quotes: it ends where a remark begins
unfoldable pub plain_value : List ℕ → Option (List ℕ)
plain_value text = some_bytes (trimmed (before_first is_mark text))

-- what may stand in quotes: some bytes, the last of which isn't a blank
abbrev pub is_quotable : List ℕ → Bool
is_quotable bytes = nat_le 1 (length bytes) && not (is_space (slice_index bytes (length bytes - 1)))

-- a value that a quote at a place ends, with nothing but a remark after it
abbrev pub value_before : List ℕ → ℕ → Option (List ℕ)
value_before text place =
    then_some (is_quotable (take place text) && is_remark (trimmed (drop (place + 1) text))) (take place text)

-- a value in quotes, from after the first of them on
unfoldable pub quoted_value : ℕ → List ℕ → Option (List ℕ)
quoted_value quote text = option_and_then (value_before text) (position (λ b. b == quote) text)

-- a quote: `"` or `'`
abbrev pub is_quote : ℕ → Bool
is_quote b = (b == 34) || (b == 39)

-- the value after `=`
unfoldable pub value_of : List ℕ → Option (List ℕ)
value_of text =
    if nat_le 1 (length text) && is_quote (slice_index text 0) then quoted_value (slice_index text 0) (drop 1 text)
    else plain_value text
