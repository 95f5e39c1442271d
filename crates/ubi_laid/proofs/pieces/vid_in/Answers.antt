use Rattle.ubi_laid.proofs.Prelude.{◌+◌, ◌≤◌, length, ap, ◌∙◌, arith, vid_reading}
use Rattle.ubi_laid.proofs.ReadBytes.{vid_area_of}
use Rattle.ubi_laid.proofs.pieces.vid_in.Goals as goal

pub returns : goal.returns
returns c =
    let s = c.args.geometry.now in
    let b = c.args.bytes.now in
    let begin = c.vid_offset-start.ensures.value in
    let limits = c.vid_offset-start.ensures.limits in
    let data_from = limits.data_from in
    let leb = limits.leb in
    let room : c.vid_offset-start.result + 64 ≤ length b = rw begin (omega (arith, c.requires)) in
    let first = rw c.unwrap.ensures at c.first_chunk.ensures.cases in
    c.read_vid.ensures.value ∙ ap (vid_reading s) (first.same ∙ vid_area_of s b c.vid_offset-start.result begin room)
