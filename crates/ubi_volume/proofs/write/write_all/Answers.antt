use Rattle.ubi_volume.proofs.Prelude.{rules}
use Rattle.ubi_volume.proofs.Written.{Appends-next}
use Rattle.ubi_volume.proofs.write.write_all.Goals as goal

pub loop-written-preserved : goal.loop-written-preserved
loop-written-preserved g c = record {
  within = search rules;
  appended = Appends-next _ _ _ c.loop-written.written c.in-Ok.count _ c.loop-written.invariant.appended
      c.in-Ok.ensures.bytes;
}
