use Rattle.ubi_files.proofs.Prelude.{◌≡◌, ◌-◌, ◌∙◌, ap, arith, drop, length, replicate, take, length-drop, length-take-le}
use Rattle.ubi_files.proofs.MaskedBytes.{length-masked, not_masked, now_masked}
use Rattle.ubi_files.proofs.masked.mask_block.Goals as goal

pub returns-then-marks-p : goal.returns-then-marks-p
returns-then-marks-p c before are =
    let start = c.min-start.result in
    let end = c.min-end.result in
    let same : length c.args.bytes.now ≡ length before = ap length are ∙ length-masked c.args.size (take c.args.p c.args.marks.now) before in
    let rest = length-drop start c.args.bytes.now in
    now_masked c.args.size c.requires.some c.args.marks.now c.args.p c.requires.within before c.args.bytes.now are
    start end c.fill.new.self c.if-marks-p.true (omega (arith, same, c.min-start.ensures, c.saturating_mul.ensures, c.well_formed))
    (omega (arith, same, c.min-end.ensures, c.saturating_add.ensures))
    (c.fill.ensures.after (λ y same. same)
    ∙ ap (λ n. replicate n 0xFF) (length-take-le (end - start) (drop start c.args.bytes.now) (omega (arith, rest, c.min-end.ensures))))

pub returns-else-marks-p : goal.returns-else-marks-p
returns-else-marks-p c before are =
    not_masked c.args.size c.requires.some c.args.marks.now c.args.p c.requires.within before c.args.bytes.now are c.if-marks-p.false
