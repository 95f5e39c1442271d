use Rattle.ubi_files.proofs.Prelude.{◌∙◌, sym}
use Rattle.ubi_files.proofs.Marked.{with_no_items, with_some_items}
use Rattle.ubi_files.proofs.bad_blocks.mark_list.Goals as goal

pub returns-then-not-is_empty : goal.returns-then-not-is_empty
returns-then-not-is_empty c =
    c.mark_items.ensures ∙ sym (with_some_items c.args.marks.now c.args.word.now (sym c.if-not-is_empty.ensures))

pub returns-else-not-is_empty : goal.returns-else-not-is_empty
returns-else-not-is_empty c = sym (with_no_items c.args.marks.now c.args.word.now (sym c.if-not-is_empty.ensures))
