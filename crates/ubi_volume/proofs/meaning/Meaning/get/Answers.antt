use Rattle.ubi_volume.proofs.Prelude.{arith, common_steps, first_entry}
use Rattle.ubi_volume.proofs.meaning.Meaning.get.Goals as goal

pub returns-clause-value : goal.returns-clause-value
returns-clause-value c =
    rw (
      ← c.self.view_is,
      ← first_entry c.self.inside.volumes.items c.args.id,
      ← c.as_slice.ensures.value,
      ← c.numbered.ensures,
    ) (search (arith, common_steps))
