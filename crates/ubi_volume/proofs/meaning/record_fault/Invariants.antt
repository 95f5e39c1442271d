use Rattle.ubi_volume.proofs.Prelude.{NoneBelow}
use Rattle.ubi_volume.proofs.meaning.record_fault.Given as goal

abbrev pub invariant-loop-i : goal.invariant-loop-i
invariant-loop-i l = NoneBelow l.geometry l.volumes 3 l.i
