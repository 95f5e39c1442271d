-- Laws of a page, as they stand on functions that do nothing.
use Rattle.std.specs.Prelude.{◌≡◌, ◌==◌, not, true}
use Rattle.std.specs.List.{list_all}
use Rattle.serde_json.specs.Data.{Data}
use Rattle.ubi_map.specs.Page.{script_text}

-- no data end the script element that they stand in: their text there has no `<`
abbrev pub StaysInside : Type 0
StaysInside = (d : Data) → list_all (λ b. not (b == 0x3C)) (script_text d) ≡ true
