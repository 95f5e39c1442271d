use Rattle.ubi_files.proofs.Prelude.{◌≡◌, ◌+◌, vec_len, vec_items, Consumes}
use Rattle.ubi_files.proofs.read.read_limited.Given as goal

abbrev pub invariant-loop-left : goal.invariant-loop-left
invariant-loop-left g l = record {
  counted : vec_len l.bytes + l.left ≡ l.limit;
  consumed : Consumes (g.R.Read.remaining l.initial.reader) (g.R.Read.remaining l.reader) (vec_items l.bytes);
}

abbrev pub decreases-loop-left : goal.decreases-loop-left
decreases-loop-left g l = l.left
