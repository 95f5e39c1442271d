use Rattle.ubi_scan.proofs.Prelude.{sym, ◌∙◌}
use Rattle.ubi_scan.proofs.Nominated.{nominated_by}
use Rattle.ubi_scan.proofs.pass.Pass.nominate.Goals as goal

pub returns-in_ok-held-in-Some-clause-nominated : goal.returns-in_ok-held-in-Some-clause-nominated
returns-in_ok-held-in-Some-clause-nominated c =
    nominated_by c.args.self.now c.args.p _ c.in-Some.header _ _ _ (sym c.member_of.ensures ∙ c.in-Some.is) c.leb_of.ensures
    c.of.ensures c.in_ok-held-in-Some.ensures.updates
