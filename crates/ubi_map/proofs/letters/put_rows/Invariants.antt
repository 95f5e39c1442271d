use Rattle.ubi_map.proofs.Prelude.{◌≡◌, ◌++◌, flat_map, range_with_len, row}
use Rattle.ubi_map.proofs.letters.put_rows.Given as goal

abbrev pub invariant-loop-k : goal.invariant-loop-k
invariant-loop-k l = l.text.items ≡ l.fn.text.items ++ flat_map (row l.letters) (range_with_len 0 l.k)
