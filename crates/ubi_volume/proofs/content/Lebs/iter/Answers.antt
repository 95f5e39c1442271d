use Rattle.ubi_volume.proofs.Prelude.{sym, ◌∙◌, nat_cmp_total, nat_cmp-IsAntisymmetric, entries_tree}
use Rattle.ubi_volume.proofs.content.Lebs.iter.Goals as goal

pub returns-clause-rest : goal.returns-clause-rest
returns-clause-rest c = rw (← c.self.view_is) (c.iter.ensures.rest
    ∙ sym (entries_tree nat_cmp_total nat_cmp-IsAntisymmetric c.self.inside.held c.self.invariant))
