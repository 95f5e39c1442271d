use Rattle.ubi_volume.proofs.Prelude.{List, ℕ, IsScan}
use Rattle.ubi_volume.proofs.Mismatches.{NoneBelow}
use Rattle.ubi_volume.proofs.surveyed.check_winners.Given as goal

abbrev pub invariant-loop-p : goal.invariant-loop-p
invariant-loop-p l = record {
  none : (bs : List (List ℕ)) → IsScan l.geometry bs l.scan → NoneBelow l.geometry bs l.table l.p;
}
