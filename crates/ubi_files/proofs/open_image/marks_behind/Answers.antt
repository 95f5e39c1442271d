use Rattle.ubi_files.proofs.Prelude.{◌∙◌, ap, arith, false, length, length-replicate, replicate, ranges_of, Bool}
use Rattle.ubi_files.proofs.Marked.{length-with_ranges}
use Rattle.ubi_files.proofs.open_image.marks_behind.Goals as goal

pub mark_first-requires : goal.mark_first-requires
mark_first-requires c =
    let all =
    ap length (c.as_mut_slice.ensures.value ∙ c.in_ok-marks.ensures)
    ∙ length-with_ranges (replicate c.args.pebs false) (ranges_of c.as_bytes.result.now) ∙ length-replicate {A = Bool} c.args.pebs false in
    let few = c.requires in omega (arith, all, few)
