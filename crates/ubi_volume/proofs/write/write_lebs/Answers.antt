use Rattle.ubi_volume.proofs.Prelude.{arith, sym, Appends-trans}
use Rattle.ubi_volume.proofs.LebsText.{lebs_failed, lebs_more, lebs_short, length-lebs}
use Rattle.ubi_volume.proofs.write.write_lebs.Goals as goal

pub returns-in-Err-clause-err : goal.returns-in-Err-clause-err
returns-in-Err-clause-err g c =
    rw (c.from.ensures, c.from-in-Err.ensures)
    (lebs_failed c.args.size c.args.lebs.now c.requires _ _ _ c.loop-lnum.lnum c.args.reserved c.in-Err.more
    c.loop-lnum-test.true (omega (arith, c.in-Err.ensures.short)) c.loop-lnum.invariant
    (rw (← c.get.ensures) c.in-Err.ensures.err))

pub returns-in-Err-clause-short : goal.returns-in-Err-clause-short
returns-in-Err-clause-short g c =
    rw (c.from.ensures, c.from-in-Err.ensures)
    (lebs_short c.args.size c.args.lebs.now c.requires c.loop-lnum.lnum c.args.reserved c.in-Err.more
    c.loop-lnum-test.true c.in-Err.ensures.short)

pub loop-lnum-preserved : goal.loop-lnum-preserved
loop-lnum-preserved g c =
    rw (lebs_more c.args.size c.args.lebs.now c.loop-lnum.lnum)
    (Appends-trans _ _ _ _ _ c.loop-lnum.invariant (rw (← c.get.ensures) c.in-Ok.ensures.ok))

pub returns-clause-count : goal.returns-clause-count
returns-clause-count g c = rw (c.from-2.ensures, c.from-3.ensures)
    (sym (length-lebs c.args.size c.args.lebs.now c.requires c.args.reserved))
