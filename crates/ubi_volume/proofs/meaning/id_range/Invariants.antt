use Rattle.ubi_volume.proofs.Prelude.{NoneBelow}
use Rattle.ubi_volume.proofs.meaning.id_range.Given as goal

abbrev pub invariant-loop-i : goal.invariant-loop-i
invariant-loop-i l = NoneBelow l.geometry l.volumes 1 l.i
