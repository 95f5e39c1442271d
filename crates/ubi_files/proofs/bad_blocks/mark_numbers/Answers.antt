use Rattle.ubi_files.proofs.Prelude.{[], ◌∷◌, ◌∙◌, ap, get_or, sym, one_block, with_ranges}
use Rattle.ubi_files.proofs.Marked.{mark_number, with_no_ranges}
use Rattle.ubi_files.proofs.bad_blocks.mark_numbers.Goals as goal

pub loop-i-init : goal.loop-i-init
loop-i-init c = sym (with_no_ranges c.args.marks.now)

pub loop-i-preserved : goal.loop-i-preserved
loop-i-preserved c =
    c.mark_range.ensures
    ∙ ap (λ marks. with_ranges marks (one_block (get_or c.args.numbers.now c.loop-i.i 0) ∷ [])) c.loop-i.invariant
    ∙ mark_number c.args.marks.now c.args.numbers.now c.loop-i.i c.loop-i-test.true
