use Rattle.ubi_detect.proofs.Prelude.{arith, IsGcd-from_mod, IsGcd-from_zero}
use Rattle.ubi_detect.proofs.groups.gcd.Goals as goal

pub loop-y-preserved : goal.loop-y-preserved
loop-y-preserved c g h = c.loop-y.invariant g (IsGcd-from_mod _ _ g h)

pub returns : goal.returns
returns c = c.loop-y.invariant _ (IsGcd-from_zero _ _ (omega arith))
