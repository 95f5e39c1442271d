use Rattle.ubi_files.proofs.Prelude.{◌≡◌, ◌/◌, ◌∙◌, ap, arith, false, replicate, sym, true, length-take-le, is_listed}
use Rattle.ubi_files.proofs.MaskedBytes.{read_marked, read_unmarked, read_without_marks}
use Rattle.ubi_files.proofs.masked.MaskedPlacedFile.read_from.Goals as goal

pub returns-then-is_empty-clause-read : goal.returns-then-is_empty-clause-read
returns-then-is_empty-clause-read g c =
    let view = c.args.self.now in
    read_without_marks view.size view.some view.marks.now (g.F.PlacedFile.bytes view.file.file) c.args.at
    c.read_from.result c.read_from.new.out (sym c.if-is_empty.ensures)
    (rw c.file.ensures at c.read_from.ensures.read)

pub returns-then-not-is_marked-clause-read : goal.returns-then-not-is_marked-clause-read
returns-then-not-is_marked-clause-read g c =
    let view = c.args.self.now in
    let few = rw c.from-size.ensures at c.min-most.ensures in
    let unmarked : false ≡ is_listed view.marks.now (c.args.at / view.size) = rw c.from-size.ensures at c.if-not-is_marked.ensures in
    let front = length-take-le c.min-most.result c.args.out.now (omega (arith, c.min-most.ensures)) in
    read_unmarked view.size view.some view.marks.now (g.F.PlacedFile.bytes view.file.file) c.args.at
    c.read_from-then-not-is_marked.result c.read_from-then-not-is_marked.new.out _
    (omega (arith, few, front, c.read_from-then-not-is_marked.auto.out)) (sym unmarked) c.read_from-then-not-is_marked.ensures.bound
    (rw c.file-then-not-is_marked.ensures at c.read_from-then-not-is_marked.ensures.read)

pub returns-clause-read : goal.returns-clause-read
returns-clause-read g c =
    let view = c.args.self.now in
    let few = rw c.from-size.ensures at c.min-most.ensures in
    let marked : true ≡ is_listed view.marks.now (c.args.at / view.size) = rw c.from-size.ensures at c.if-not-is_marked.ensures in
    read_marked view.size view.some view.marks.now (g.F.PlacedFile.bytes view.file.file) c.args.at
    c.min-count.result c.fill.new.self _
    (omega (arith, few, c.min-count.ensures)) (sym marked)
    (λ all is. let sized = view.file.sized all is in omega (arith, sized, c.len.ensures, c.saturating_sub.ensures, c.min-count.ensures))
    (c.fill.ensures.after (λ y same. same)
    ∙ ap (λ n. replicate n 0xFF) (length-take-le c.min-count.result c.args.out.now (omega (arith, c.min-count.ensures, c.min-most.ensures))))
