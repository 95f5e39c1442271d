use Rattle.ubi_scan.proofs.Prelude.{sym, ◌∙◌}
use Rattle.ubi_scan.proofs.Nominated.{held_aside}
use Rattle.ubi_scan.proofs.pass.Pass.choose.Goals as goal

pub returns-then-is_won_by-clause-others : goal.returns-then-is_won_by-clause-others
returns-then-is_won_by-clause-others c =
    held_aside c.args.leb c.args.self.now.others c.insert-then-is_won_by.new.self c.args.met c.args.new (sym c.is_won_by.ensures ∙ c.if-is_won_by.true)
    c.in_ok-insert-2.ensures.updates
