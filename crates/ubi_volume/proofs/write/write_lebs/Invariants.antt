use Rattle.ubi_volume.proofs.Prelude.{Appends, lebs_text}
use Rattle.ubi_volume.proofs.write.write_lebs.Given as goal

-- the writer received the logical eraseblocks so far
abbrev pub invariant-loop-lnum : goal.invariant-loop-lnum
invariant-loop-lnum g l = Appends (g.W.Write.contents l.initial.writer) (g.W.Write.contents l.writer)
    (lebs_text l.size l.lebs l.lnum)
