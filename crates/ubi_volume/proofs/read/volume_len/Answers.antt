use Rattle.ubi_volume.proofs.Prelude.{sym}
use Rattle.ubi_volume.proofs.Lengths.{volume_len-Dynamic}
use Rattle.ubi_volume.proofs.read.volume_len.Goals as goal

pub returns-in-Dynamic : goal.returns-in-Dynamic
returns-in-Dynamic c =
    rw (c.from.ensures, c.from-in-Dynamic.ensures, c.usable-size.ensures.value, c.geometry.ensures.value)
    (sym (volume_len-Dynamic c.args.meaning.now c.args.id c.in_ok-volume.volume.now c.in-Dynamic.field-0
    c.in_ok-volume.ensures.found c.in-Dynamic.is c.in_ok-volume.ensures.volume))
