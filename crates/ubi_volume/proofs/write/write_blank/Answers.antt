use Rattle.ubi_volume.proofs.Prelude.{arith}
use Rattle.ubi_volume.proofs.Written.{blank_next, blank_part}
use Rattle.ubi_volume.proofs.write.write_blank.Goals as goal

pub loop-written-preserved : goal.loop-written-preserved
loop-written-preserved g c = record {
  within = omega (arith, c.min-count.ensures);
  appended = blank_next _ _ _ c.loop-written.written c.min-count.result 4096
      (omega (arith, c.min-count.ensures)) c.loop-written.invariant.appended c.in-Ok.ensures.ok;
}

pub returns-in-Err-clause-err : goal.returns-in-Err-clause-err
returns-in-Err-clause-err g c =
    blank_part _ _ _ c.loop-written.written c.in-Err.more c.min-count.result 4096
    (omega (arith, c.in-Err.ensures.short)) (omega (arith, c.min-count.ensures))
    c.loop-written.invariant.appended c.in-Err.ensures.err
