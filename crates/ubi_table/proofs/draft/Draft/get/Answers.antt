use Rattle.ubi_table.proofs.Prelude.{sym, ◌∙◌, nat_cmp_total, get_tree}
use Rattle.ubi_table.proofs.draft.Draft.get.Goals as goal

pub returns-clause-value : goal.returns-clause-value
returns-clause-value c = rw (← c.self.view_is) (c.get.ensures.value ∙ sym (get_tree nat_cmp_total c.self.inside.held c.args.id))
