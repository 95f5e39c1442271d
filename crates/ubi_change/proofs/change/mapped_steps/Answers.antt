use Rattle.ubi_change.proofs.Prelude.{refl}
use Rattle.ubi_change.proofs.change.mapped_steps.Goals as goal

pub returns : goal.returns
returns c = rw (
  c.in_ok-push_copy.ensures,
  c.new-steps.ensures.items,
  c.copy_header.ensures,
  c.top_sqnum.ensures,
) refl
