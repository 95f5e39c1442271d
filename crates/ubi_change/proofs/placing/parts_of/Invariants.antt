use Rattle.ubi_change.proofs.Prelude.{◌≡◌, ◌++◌, drop, parts_of}
use Rattle.ubi_change.proofs.placing.parts_of.Given as goal

abbrev pub invariant-loop-i : goal.invariant-loop-i
invariant-loop-i l = l.parts.items ++ parts_of (drop l.i l.slots) (drop l.i l.volumes) ≡ parts_of l.slots l.volumes
