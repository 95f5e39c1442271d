use Rattle.ubi_writing.proofs.Prelude.{◌≡◌, Bool, Some, ap, IfOk-weaker, if◌then◌else◌, [], fresh, HasWorkOf, OfFile-weaker, pages_made, writes_of}
use Rattle.std.proofs.Common.{None}
use Rattle.ubi_writing.proofs.AnyContents.{into_each, received_pages}
use Rattle.ubi_writing.proofs.Planned.{OfFile-after, OfFile-at, not_done, pages_end, without_pages}
use Rattle.ubi_writing.proofs.planners.plan_late.Goals as goal

pub returns-in_default-clause-answer : goal.returns-in_default-clause-answer
returns-in_default-clause-answer g c d dump is =
    let plan = c.args.plan.now in
    let w = c.args.command.now in
    let old = g.D.Disk.files c.args.disk.now in
    let new = g.D.Disk.files c.write_opened.new.disk in
    let made = c.write_opened.new.pages.made in
    IfOk-weaker c.write_opened.result _ _
    (λ o h. OfFile-weaker d dump plan.paths.image.now _ _
    (λ s k agrees o a bytes held. without_pages plan.paths.out.now old new new (HasWorkOf w bytes s k agrees)
    (writes_of w bytes s k agrees) (pages_made made bytes) o plan.pages c.in_default.is
    (into_each plan.paths.out.now old new w (g.T.BlockSource.agrees c.write_opened.new.pages.contents) made s k agrees o a bytes held)) o h)
    (c.write_opened.ensures.answer d dump is)

pub returns-then-outcome-ne-DONE-clause-answer : goal.returns-then-outcome-ne-DONE-clause-answer
returns-then-outcome-ne-DONE-clause-answer g c d dump is =
    let plan = c.args.plan.now in
    let w = c.args.command.now in
    let old = g.D.Disk.files c.args.disk.now in
    let new = g.D.Disk.files c.write_opened-2.new.disk in
    let made = c.write_opened-2.new.pages.made in
    let o = c.in_ok-outcome.outcome in
    OfFile-at d dump plan.paths.image.now _ _ o
    (λ s k agrees a bytes held. not_done plan.paths.out.now old new new (HasWorkOf w bytes s k agrees)
    (writes_of w bytes s k agrees) (pages_made made bytes) o plan.pages c.if-outcome-ne-DONE.true
    c.in_ok-outcome.ensures.others
    (into_each plan.paths.out.now old new w (g.T.BlockSource.agrees c.write_opened-2.new.pages.contents) made s k agrees o a bytes held))
    (c.in_ok-outcome.ensures.answer d dump is)

pub returns-clause-answer : goal.returns-clause-answer
returns-clause-answer g c d dump is =
    let plan = c.args.plan.now in
    let w = c.args.command.now in
    let old = g.D.Disk.files c.args.disk.now in
    let middle = g.D.Disk.files c.write_opened-2.new.disk in
    let new = g.D.Disk.files c.write_pages.new.disk in
    let made = c.write_opened-2.new.pages.made in
    let told : fresh middle ≡ fresh old =
    ap (λ (tells : Bool). if tells then Some [] else None) (g.D.Disk.same_telling c.write_opened-2.new.disk c.args.disk.now) in
    OfFile-after d dump plan.paths.image.now _ _ c.in_ok-outcome.outcome c.write_pages.result c.if-outcome-ne-DONE.false
    (λ s k agrees a bytes held. pages_end plan.paths.out.now old middle new (HasWorkOf w bytes s k agrees)
    (writes_of w bytes s k agrees) (pages_made made bytes) c.in_ok-outcome.outcome c.in-Some.path plan.pages
    c.in-Some.is c.write_pages.ensures.out
    (into_each plan.paths.out.now old middle w (g.T.BlockSource.agrees c.write_opened-2.new.pages.contents) made s k agrees c.in_ok-outcome.outcome a bytes
    (c.write_pages.ensures.narrows bytes held)) told c.if-outcome-ne-DONE.false c.write_pages.result c.in_ok-unwritten.unwritten
    c.in_ok-unwritten.ensures
    (received_pages middle new c.in-Some.path.now (g.T.BlockSource.agrees c.write_pages.new.pages.contents) made c.write_pages.new.pages.made _ _ _
    c.write_pages.ensures.made c.write_pages.ensures.answer bytes held))
    (c.in_ok-outcome.ensures.answer d dump is)
