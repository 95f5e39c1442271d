use Rattle.ubi_writing.proofs.Prelude.{Edit, List, [], ap, fold, fold_more, sym, take_all, ◌++◌, ◌∙◌, ◌∷◌, NewVolume, named_after, with_written, written_edit}
use Rattle.ubi_writing.proofs.asks.add_written.Goals as goal

pub loop-volume-preserved : goal.loop-volume-preserved
loop-volume-preserved c =
    let t = c.args.table.now in
    let i = c.loop-volume.volume-index in
    let v : NewVolume = c.volume-item.result in
    let before = c.loop-volume.edits.items in
    c.in_ok-put_edit.ensures
    ∙ ap (λ (e : Edit). before ++ e ∷ []) (c.written_edit-edit.ensures ∙ ap (λ (es : List Edit). written_edit v (named_after t es v.entry.name)) c.as_slice.ensures.value)
    ∙ ap (λ (es : List Edit). with_written t es v) c.loop-volume.invariant
    ∙ ap (with_written t _) c.volume-item.is
    ∙ sym (fold_more (with_written t) c.args.edits.now.items c.args.volumes.now i v c.loop-volume-test.true)

pub returns : goal.returns
returns c =
    c.loop-volume.invariant
    ∙ ap (λ (vs : List NewVolume). fold (with_written c.args.table.now) c.args.edits.now.items vs)
    (take_all c.loop-volume.volume-index c.args.volumes.now c.loop-volume-test.false)
