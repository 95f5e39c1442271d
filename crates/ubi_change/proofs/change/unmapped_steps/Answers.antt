use Rattle.ubi_change.proofs.Prelude.{refl}
use Rattle.ubi_change.proofs.change.unmapped_steps.Goals as goal

pub returns : goal.returns
returns c =
    rw (
      c.in_ok-push_copy.ensures,
      c.in_ok-push_mount.ensures,
      c.new-steps.ensures.items,
      c.copy_header.ensures,
      c.blank_header-header.ensures,
      c.ready_ec.ensures.value,
      c.top_sqnum-2.ensures,
      c.top_sqnum.ensures,
    )
    refl
