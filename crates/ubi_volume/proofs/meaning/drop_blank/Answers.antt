use Rattle.ubi_volume.proofs.Prelude.{arith}
use Rattle.ubi_volume.proofs.WithoutBlank.{item_dropped}
use Rattle.ubi_volume.proofs.meaning.drop_blank.Goals as goal

pub loop-item-preserved : goal.loop-item-preserved
loop-item-preserved c =
    item_dropped c.args.volumes.now c.loop-item.volumes c.loop-item.item-index c.item-item.result c.drop_blank.new.self
    (omega arith) c.loop-item.invariant c.item-item.is
    c.drop_blank.ensures
