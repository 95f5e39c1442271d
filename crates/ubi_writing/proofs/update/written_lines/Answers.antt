use Rattle.ubi_writing.proofs.Prelude.{◌∙◌, ◌++◌, ◌<◌, List, ℕ, ap, sym, arith, length, Part, written_lebs, volume_line, written_lines}
use Rattle.ubi_writing.proofs.VolumeLines.{lines_all, lines_more}
use Rattle.ubi_writing.proofs.update.written_lines.Goals as goal

pub loop-i-preserved : goal.loop-i-preserved
loop-i-preserved c =
    let ls = c.args.plan.now.layings.items in
    let ps = c.parts-parts.result.now in
    let olds = c.in_ok-olds.olds.items in
    let i = c.loop-i.i in
    let p : Part = c.index-parts-i.result in
    let one : i < length ps = omega (arith, c.loop-i-test.true, c.min-i-end.ensures) in
    let two : i < length olds = (let e = c.len.ensures in omega (arith, c.loop-i-test.true, c.min-i-end.ensures, e, c.in_ok-olds.olds.ok.0)) in
    c.in_ok-put_volume.ensures
    ∙ ap (λ (n : ℕ). c.loop-i.text.items ++ volume_line n p c.index.result.now) c.leb_count.ensures
    ∙ ap (λ (xs : List ℕ). xs ++ volume_line (written_lebs ls p.id) p c.index.result.now) c.loop-i.invariant
    ∙ lines_more ls ps olds i p c.index.result.now one two (sym c.index-parts-i.is) (sym c.index.ensures)

pub returns : goal.returns
returns c =
    let ls = c.args.plan.now.layings.items in
    let ps = c.parts-parts.result.now in
    let olds = c.in_ok-olds.olds.items in
    c.loop-i.invariant
    ∙ lines_all ls ps olds c.loop-i.i (let e = c.len.ensures in omega (arith, c.loop-i-test.false, c.min-i-end.ensures, e, c.in_ok-olds.olds.ok.0))
    ∙ ap (λ (xs : List Part). written_lines ls xs olds) c.parts-parts.ensures
    ∙ ap (written_lines ls c.args.plan.now.parts.items) c.in_ok-olds.ensures
