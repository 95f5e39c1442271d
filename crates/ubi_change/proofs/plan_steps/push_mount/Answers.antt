use Rattle.ubi_change.proofs.Prelude.{on_ok_weaker}
use Rattle.ubi_change.proofs.Pushed.{mount_pushed}
use Rattle.ubi_change.proofs.plan_steps.push_mount.Goals as goal

pub returns : goal.returns
returns c =
    on_ok_weaker c.push_header-2.result
    (mount_pushed c.args.geometry.now c.args.basis.now c.args.site.now
    c.args.steps.now.items c.push_renew.new.steps.items c.push_header-2.new.steps.items
    c.next_ec-ec.result c.write_ec.result c.args.header.now c.if-site.false
    c.next_ec-ec.ensures c.in_ok-push_renew.ensures c.write_ec.ensures.bytes)
    c.push_header-2.ensures
