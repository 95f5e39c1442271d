use Rattle.ubi_media.proofs.Prelude.{arith}
use Rattle.ubi_media.proofs.Records.{alignment_within}
use Rattle.ubi_media.proofs.record.VolumeRecord.data_pad.Goals as goal

pub nonzero_rem-result : goal.nonzero_rem-result
nonzero_rem-result c = let w = alignment_within c.args.geometry.now c.args.self.now c.requires in omega (arith, w.0)
