use Rattle.ubi_volume.proofs.Prelude.{sym, ◌∙◌, nat_cmp_total, get_tree}
use Rattle.ubi_volume.proofs.content.Lebs.get.Goals as goal

pub returns : goal.returns
returns c = rw (← c.self.view_is) (c.get.ensures.value ∙ sym (get_tree nat_cmp_total c.self.inside.held c.args.lnum))
