use Rattle.ubi_volume.proofs.Prelude.{ap, length, sym, ◌∙◌, nat_cmp_total, nat_cmp-IsAntisymmetric, entries_tree}
use Rattle.ubi_volume.proofs.content.Lebs.len.Goals as goal

pub returns : goal.returns
returns c = rw (← c.self.view_is) (c.len.ensures.len
    ∙ sym (ap length (entries_tree nat_cmp_total nat_cmp-IsAntisymmetric c.self.inside.held c.self.invariant)))
