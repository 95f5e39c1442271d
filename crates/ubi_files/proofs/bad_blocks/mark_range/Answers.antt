use Rattle.ubi_files.proofs.Prelude.{◌∙◌, ap, arith, replicate, true, length-drop, length-take-le}
use Rattle.ubi_files.proofs.Marked.{mark_none, mark_one}
use Rattle.ubi_files.proofs.bad_blocks.mark_range.Goals as goal

pub returns-then-start-end : goal.returns-then-start-end
returns-then-start-end c =
    mark_one c.args.marks.now c.args.range c.min-end.result c.min-end.ensures c.fill.new.self c.if-start-end.true
    (c.fill.ensures.after (λ y same. same) ∙ ap (λ n. replicate n true)
    (length-take-le _ _ (let rest = length-drop c.args.range.first c.args.marks.now in omega (arith, rest, c.min-end.ensures, c.if-start-end.true))))

pub returns-else-start-end : goal.returns-else-start-end
returns-else-start-end c =
    mark_none c.args.marks.now c.args.range c.min-end.result c.min-end.ensures c.if-start-end.false
