use Rattle.ubi_volume.proofs.Prelude.{◌∙◌}
use Rattle.ubi_volume.proofs.Equal.{same_trees}
use Rattle.ubi_volume.proofs.content.LebsPartialEq.eq.Goals as goal

pub returns : goal.returns
returns c =
    rw (← c.self.view_is, ← c.other.view_is) (c.eq.ensures
    ∙ same_trees c.self.inside.held c.other.inside.held c.self.invariant c.other.invariant)
