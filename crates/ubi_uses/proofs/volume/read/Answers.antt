use Rattle.ubi_uses.proofs.volume.read.Goals as goal

pub returns : goal.returns
returns c = (
  c.in_ok-attached.attached.meaning,
  c.in_ok-attached.ensures.attached.accepted,
  rw c.meaning.ensures at c.read_leb.ensures.read,
)
