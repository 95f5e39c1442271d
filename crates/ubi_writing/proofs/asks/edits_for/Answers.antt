use Rattle.ubi_writing.proofs.Prelude.{◌∙◌, ap, sym, take_all, Some, edits_for}
use Rattle.ubi_writing.proofs.EditsInOrder.{edits_more, no_edit_at}
use Rattle.ubi_writing.proofs.asks.edits_for.Goals as goal

pub loop-i-preserved : goal.loop-i-preserved
loop-i-preserved c =
    edits_more c.args.table.now c.args.asks.now c.loop-i.i _ c.loop-i.edits.items c.loop-i-test.true c.loop-i.invariant c.in-Some.edit
    (sym (rw c.as_slice.ensures.value at c.in_ok-edit.ensures) ∙ c.in-Some.is)
    ∙ ap Some (sym c.in_ok-put_edit-in-Some.ensures)

pub returns-clause-edits : goal.returns-clause-edits
returns-clause-edits c =
    ap (edits_for c.args.table.now) (sym (take_all c.loop-i.i c.args.asks.now c.loop-i-test.false)) ∙ c.loop-i.invariant

pub returns-in-None-clause-refused : goal.returns-in-None-clause-refused
returns-in-None-clause-refused c =
    no_edit_at c.args.table.now c.args.asks.now c.loop-i.i _ c.loop-i.edits.items c.loop-i-test.true c.loop-i.invariant
    (sym (rw c.as_slice.ensures.value at c.in_ok-edit.ensures) ∙ c.in-None.is)
