use Rattle.ubi_files.proofs.Prelude.{◌∙◌, sym}
use Rattle.ubi_files.proofs.Marked.{range_of_cut_twice}
use Rattle.ubi_files.proofs.bad_blocks.range_of.Goals as goal

pub returns-then-is_some : goal.returns-then-is_some
returns-then-is_some c =
    sym (range_of_cut_twice c.args.item.now c.cut.result.0.now c.in-Some.rest.now c.cut-2.result.0.now c.cut-2.result.1
    (rw c.in-Some.is at c.cut.ensures.pieces) c.cut-2.ensures.pieces (sym c.is_some.ensures ∙ c.if-is_some.true))
