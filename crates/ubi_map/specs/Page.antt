-- A page that shows some data: a frame, and the text of the data in a script element.
use Rattle.std.specs.Prelude.{ℕ, ◌==◌, ◌∷◌, ◌++◌, [], List, codes, if◌then◌else◌}
use Rattle.std.specs.List.{flat_map}
use Rattle.serde_json.specs.Data.{Data}
use Rattle.serde_json.specs.Written.{compact_text}
use Rattle.ubi_map.specs.declared.frame.TheConstants.{AFTER, BEFORE}

-- a byte of the text as it stands in a script element; `<`, which could end that, stands as its digits
abbrev pub script_byte : ℕ → List ℕ
script_byte b = if b == 0x3C then codes "\\u003c" else b ∷ []

-- the text of some data in a script element
abbrev pub script_text : Data → List ℕ
script_text d = flat_map script_byte (compact_text d)

-- the page that shows some data
abbrev pub page_of : Data → List ℕ
page_of d = BEFORE.now ++ script_text d ++ AFTER.now
