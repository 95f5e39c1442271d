use Rattle.ubi_files.proofs.Prelude.{◌≡◌, ◌∙◌, ◌≤◌, ◌++◌, ℕ, ap, arith, blank, drop, length-replicate, length-take-le, take, take-append-le, take-replicate}
use Rattle.ubi_files.proofs.BehindBytes.{read_before, read_behind}
use Rattle.ubi_files.proofs.behind.BehindPlacedFile.read_from.Goals as goal

pub returns-then-at-self-clause-read : goal.returns-then-at-self-clause-read
returns-then-at-self-clause-read g c =
    let view = c.args.self.now in
    read_behind view.before c.args.at (g.F.PlacedFile.bytes view.file.file) c.read_from.result c.read_from.new.out
    (let behind = c.if-at-self.true in omega (arith, behind)) (rw c.file.ensures at c.read_from.ensures.read)

pub returns-clause-read : goal.returns-clause-read
returns-clause-read g c =
    let view = c.args.self.now in
    let few = c.min-count.ensures in
    let front = length-take-le c.min-count.result c.args.out.now (omega (arith, few)) in
    let n = c.min-count.result in
    let full : c.fill.new.self ≡ blank n = c.fill.ensures.after (λ y same. same) ∙ ap blank front in
    let rest = drop n c.args.out.now in
    let long = length-replicate {A = ℕ} n 255 in
    let least : n ≤ n = omega arith in
    read_before view.before c.args.at n (g.F.PlacedFile.bytes view.file.file) _ (omega (arith, few))
    (ap (λ xs. take n (xs ++ rest)) full ∙ take-append-le n (blank n) rest (omega (arith, long)) ∙ take-replicate n n 255 least)
