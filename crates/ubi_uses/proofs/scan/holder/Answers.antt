use Rattle.ubi_uses.proofs.scan.holder.Goals as goal

pub returns : goal.returns
returns c = (
  c.in_ok-found.found,
  rw c.in_ok-blocks.ensures.ok at c.in_ok-found.ensures.found,
  c.winner.ensures,
)
