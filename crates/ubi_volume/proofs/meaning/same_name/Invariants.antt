use Rattle.ubi_volume.proofs.Prelude.{NoneBelow}
use Rattle.ubi_volume.proofs.meaning.same_name.Given as goal

abbrev pub invariant-loop-i : goal.invariant-loop-i
invariant-loop-i l = NoneBelow l.geometry l.volumes 4 l.i
