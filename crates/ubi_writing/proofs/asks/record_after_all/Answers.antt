use Rattle.ubi_writing.proofs.Prelude.{◌∙◌, ap, sym, take, take_all, VolumeRecord, fold_more, Edit, record_after, record_after_all}
use Rattle.ubi_writing.proofs.asks.record_after_all.Goals as goal

pub loop-edit-preserved : goal.loop-edit-preserved
loop-edit-preserved c =
    let id = c.args.id in
    let r = c.args.entry in
    let es = c.args.edits.now in
    let i = c.loop-edit.edit-index in
    c.record_after-entry.ensures
    ∙ ap (λ (x : VolumeRecord). record_after id x c.edit-item.result) c.loop-edit.invariant
    ∙ ap (λ (e : Edit). record_after id (record_after_all id r (take i es)) e) c.edit-item.is
    ∙ sym (fold_more (record_after id) r es i c.edit-item.result c.loop-edit-test.true)

pub returns : goal.returns
returns c =
    c.loop-edit.invariant
    ∙ ap (record_after_all c.args.id c.args.entry) (take_all c.loop-edit.edit-index c.args.edits.now c.loop-edit-test.false)
