use Rattle.ubi_compose.proofs.Prelude.{sym, arith, Part, Parts}
use Rattle.ubi_compose.proofs.BuiltPieces.{built_lies, first_built}
use Rattle.ubi_compose.proofs.ListedParts.{IsReadablePart, part_readable}
use Rattle.ubi_compose.proofs.built_image.RecipeContents.next.Goals as goal

pub piece_count-requires-clause-fits : goal.piece_count-requires-clause-fits
piece_count-requires-clause-fits c =
    let ps : Parts = c.args.self.now in
    let p : Part = c.in_ok-part.part.now in
    let r : IsReadablePart ps c.requires.lie.0 p = part_readable ps c.in_ok-part.ensures.meaning c.requires.lie.0
    c.requires.lie.1 c.args.id p (sym c.in_ok-part.ensures.value) in
    rw (← c.requires.sizes) r.fits

pub piece_of-requires-clause-narrow : goal.piece_of-requires-clause-narrow
piece_of-requires-clause-narrow c =
    let ps : Parts = c.args.self.now in
    let p : Part = c.in_ok-part.part.now in
    let r : IsReadablePart ps c.requires.lie.0 p = part_readable ps c.in_ok-part.ensures.meaning c.requires.lie.0
    c.requires.lie.1 c.args.id p (sym c.in_ok-part.ensures.value) in
    let reaches = r.reaches in
    let narrow = r.narrow in
    omega (arith, reaches, narrow)

pub returns-then-from-piece_count-clause-next : goal.returns-then-from-piece_count-clause-next
returns-then-from-piece_count-clause-next c =
    let ps : Parts = c.args.self.now in
    let p : Part = c.in_ok-part.part.now in
    first_built ps c.in_ok-part.ensures.meaning c.args.id p (sym c.in_ok-part.ensures.value) c.args.from
    (rw (c.requires.sizes, ← c.piece_count.ensures.value) c.if-from-piece_count.true) c.requires.lie.0 c.requires.lie.1
    c.piece_of.result (rw c.requires.sizes c.piece_of.ensures)

pub returns-then-from-piece_count-clause-lies : goal.returns-then-from-piece_count-clause-lies
returns-then-from-piece_count-clause-lies c = λ size has.
    let ps : Parts = c.args.self.now in
    let p : Part = c.in_ok-part.part.now in
    rw (← c.requires.sizes)
    (built_lies ps c.in_ok-part.ensures.meaning c.args.id p (sym c.in_ok-part.ensures.value) c.args.from
    (rw (c.requires.sizes, ← c.piece_count.ensures.value) c.if-from-piece_count.true)
    c.piece_of.result (rw c.requires.sizes c.piece_of.ensures) size has)
