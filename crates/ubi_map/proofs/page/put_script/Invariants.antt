use Rattle.ubi_map.proofs.Prelude.{◌≡◌, ◌++◌, take, flat_map, script_byte}
use Rattle.ubi_map.proofs.page.put_script.Given as goal

abbrev pub invariant-loop-byte : goal.invariant-loop-byte
invariant-loop-byte l = l.page.items ≡ l.fn.page.items ++ flat_map script_byte (take l.byte-index l.text)
