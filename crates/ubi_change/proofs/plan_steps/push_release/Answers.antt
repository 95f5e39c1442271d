use Rattle.ubi_change.proofs.Prelude.{sym, ◌∙◌, on_ok_weaker}
use Rattle.ubi_change.proofs.Pushed.{release_pushed}
use Rattle.ubi_change.proofs.plan_steps.push_release.Goals as goal

pub returns : goal.returns
returns c =
    on_ok_weaker c.push_renew.result
    (release_pushed c.args.geometry.now c.args.basis.now c.args.site.now
    c.args.steps.now.items c.push_renew.new.steps.items c.next_ec.result c.args.ec
    (sym c.stays.ensures ∙ c.if-stays.false) c.next_ec.ensures)
    c.push_renew.ensures
