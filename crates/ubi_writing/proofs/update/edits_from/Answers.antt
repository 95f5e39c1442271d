use Rattle.ubi_writing.proofs.Prelude.{inr, image_of, IsNoEdit, asked_edits}
use Rattle.ubi_writing.proofs.SurveyedEdits.{edits_are, inside_of, no_edit_is}
use Rattle.ubi_writing.proofs.update.edits_from.Goals as goal

pub returns-in-Ok-edits_for-clause-edits : goal.returns-in-Ok-edits_for-clause-edits
returns-in-Ok-edits_for-clause-edits g c bytes held =
    edits_are (image_of c.args.geometry.now bytes) c.in-Ok.surveyed (c.in-Ok.ensures.survey.held bytes held) c.table-table.result.now
    c.table-table.ensures (asked_edits c.args.asked.now) c.in-Ok-edits_for.edits.items _ c.in-Ok-edits_for.ensures.edits
    c.in_ok-add_written-in-Ok-edits_for.ensures

pub no_edit_line-requires : goal.no_edit_line-requires
no_edit_line-requires g c =
    let none : IsNoEdit c.table-table.result.now c.args.asked.now.asks.now c.in-Err-NoEdit.i =
    rw c.in-Err-NoEdit.field-0-is at c.in-Err-NoEdit.ensures.refused in
    inside_of c.args.asked.now.asks.now c.in-Err-NoEdit.i none.ask none.at

pub returns-in-Err-NoEdit-clause-refused : goal.returns-in-Err-NoEdit-clause-refused
returns-in-Err-NoEdit-clause-refused g c =
    let none : IsNoEdit c.table-table.result.now c.args.asked.now.asks.now c.in-Err-NoEdit.i =
    rw c.in-Err-NoEdit.field-0-is at c.in-Err-NoEdit.ensures.refused in
    inr (λ bytes held.
    no_edit_is (image_of c.args.geometry.now bytes) c.in-Ok.surveyed (c.in-Ok.ensures.survey.held bytes held) c.table-table.result.now
    c.table-table.ensures (asked_edits c.args.asked.now) c.in-Err-NoEdit.i c.in_ok-no_edit_line-in-Err-NoEdit.field-0.items none
    (c.in_ok-no_edit_line-in-Err-NoEdit.ensures none.ask none.at))
