use Rattle.ubi_writing.proofs.Prelude.{◌∙◌, ap, sym, take_all, all_replaced}
use Rattle.ubi_writing.proofs.EditsInOrder.{replaced_more, replaced_none}
use Rattle.ubi_writing.proofs.update.all_replaced.Goals as goal
use Rattle.ubi_writing.proofs.update.all_replaced.Goals.{in-Some+in_ok-push, in_default}

pub loop-i-preserved : goal.loop-i-preserved
loop-i-preserved c =
    let es = c.args.edits.now in
    let i = c.loop-i.i in
    let e = c.index-edits-i.result in
    let here = sym c.index-edits-i.is in
    elim c.match-replaced_by.branch [
      | in-Some+in_ok-push w ↦ ap (λ v. v.items) w.olds-is ∙ w.in_ok-push.ensures.items
          ∙ replaced_more es i e c.loop-i-test.true here c.loop-i.olds.items w.in-Some.old c.loop-i.invariant
          (sym c.replaced_by.ensures ∙ w.in-Some.is)
      | in_default w ↦ ap (λ v. v.items) w.olds-is
          ∙ replaced_none es i e c.loop-i-test.true here c.loop-i.olds.items c.loop-i.invariant (sym c.replaced_by.ensures ∙ w.in_default.is)
    ]

pub returns : goal.returns
returns c = c.loop-i.invariant ∙ ap all_replaced (take_all c.loop-i.i c.args.edits.now c.loop-i-test.false)
