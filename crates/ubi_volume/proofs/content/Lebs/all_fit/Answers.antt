use Rattle.ubi_volume.proofs.AllowedLebs.{tree_within}
use Rattle.ubi_volume.proofs.content.Lebs.all_fit.Goals as goal

pub returns : goal.returns
returns c = rw (← c.self.view_is)
    (tree_within c.args.reserved c.args.size c.self.inside.held c.self.invariant _ c.all_fit.ensures)
