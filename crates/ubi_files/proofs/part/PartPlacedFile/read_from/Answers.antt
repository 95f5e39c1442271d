use Rattle.ubi_files.proofs.Prelude.{arith, length-take-le}
use Rattle.ubi_files.proofs.PartBytes.{read_part_of}
use Rattle.ubi_files.proofs.part.PartPlacedFile.read_from.Goals as goal

pub overflow_add-self : goal.overflow_add-self
overflow_add-self g c =
    let part = c.args.self.now in omega (arith, part.inside, part.file.counted)

pub returns-clause-read : goal.returns-clause-read
returns-clause-read g c =
    let part = c.args.self.now in
    let few = length-take-le c.min-most.result c.args.out.now (omega (arith, c.min-most.ensures)) in
    read_part_of part.start part.len c.args.at (g.F.PlacedFile.bytes part.file.file) c.read_from.result c.read_from.new.out _
    (omega arith) (omega (arith, few, c.min-most.ensures, c.read_from.auto.out)) c.read_from.ensures.bound
    (rw c.file-file.ensures at c.read_from.ensures.read)
