use Rattle.ubi_volume.proofs.Prelude.{sym, ◌∙◌, sorted_entries}
use Rattle.ubi_volume.proofs.meaning.Meaning.volumes.Goals as goal

pub returns-clause-value : goal.returns-clause-value
returns-clause-value c = rw (← c.self.view_is) (c.as_slice.ensures.value
    ∙ sym (sorted_entries c.self.inside.volumes.items c.self.invariant.sorted))
