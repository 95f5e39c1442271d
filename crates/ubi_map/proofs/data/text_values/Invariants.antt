use Rattle.ubi_map.proofs.Prelude.{◌≡◌, map, string_bytes, take, string, view}
use Rattle.ubi_map.proofs.data.text_values.Given as goal

abbrev pub invariant-loop-text : goal.invariant-loop-text
invariant-loop-text l = map view l.values.items ≡ map string (map string_bytes (take l.text-index l.texts))
