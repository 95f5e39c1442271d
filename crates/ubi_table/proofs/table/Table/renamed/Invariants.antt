use Rattle.ubi_table.proofs.Prelude.{◌≡◌, map, take, vec_items, entry_named}
use Rattle.ubi_table.proofs.table.Table.renamed.Given as goal

abbrev pub invariant-loop-entry : goal.invariant-loop-entry
invariant-loop-entry l = vec_items l.records ≡ map (entry_named l.id l.name) (take l.entry-index l.entry-items)
