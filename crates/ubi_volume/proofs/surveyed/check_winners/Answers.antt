use Rattle.ubi_volume.proofs.Prelude.{arith}
use Rattle.ubi_volume.proofs.Mismatches.{none_more}
use Rattle.ubi_volume.proofs.surveyed.check_winners.Goals as goal

pub returns-then-is_mismatched-clause-refused : goal.returns-then-is_mismatched-clause-refused
returns-then-is_mismatched-clause-refused c = λ bs scan.
    ((c.is_mismatched.ensures bs scan).0 c.if-is_mismatched.true, c.loop-p.invariant.none bs scan)

pub loop-p-preserved : goal.loop-p-preserved
loop-p-preserved c = record {
  none = λ bs scan. none_more c.args.geometry.now bs c.args.table.now c.loop-p.p _ c.if-is_mismatched.false
      (c.is_mismatched.ensures bs scan) (c.loop-p.invariant.none bs scan);
}

pub returns-clause-alike : goal.returns-clause-alike
returns-clause-alike c = λ bs scan p m.
    let inside = m.2.wins.member.inside in
    c.loop-p.invariant.none bs scan p (omega (arith, scan.states.0, c.requires.count, c.loop-p-test.false, inside)) m
