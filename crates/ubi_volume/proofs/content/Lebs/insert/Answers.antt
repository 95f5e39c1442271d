use Rattle.ubi_volume.proofs.Prelude.{nat_cmp_total, nat_cmp-IsAntisymmetric, insert_tree}
use Rattle.ubi_volume.proofs.content.Lebs.insert.Goals as goal

pub returns-clause-ok : goal.returns-clause-ok
returns-clause-ok c = rw (← c.self.view_is)
    (insert_tree nat_cmp_total nat_cmp-IsAntisymmetric c.self.inside.held c.insert.new.self c.args.lnum c.args.bytes
    c.in_ok-insert.ensures.updates)
