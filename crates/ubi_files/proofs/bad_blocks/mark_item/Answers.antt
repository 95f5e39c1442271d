use Rattle.ubi_files.proofs.Prelude.{[], ◌∙◌, ap, sym, cons_option, with_ranges}
use Rattle.ubi_files.proofs.Marked.{with_no_ranges}
use Rattle.ubi_files.proofs.bad_blocks.mark_item.Goals as goal

pub returns-in_default : goal.returns-in_default
returns-in_default c =
    sym (ap (λ range. with_ranges c.args.marks.now (cons_option range [])) (sym c.range_of.ensures ∙ c.in_default.is)
    ∙ with_no_ranges c.args.marks.now)
