use Rattle.ubi_writing.proofs.Prelude.{Narrows, holds, still}
use Rattle.ubi_writing.proofs.extract.run_extract.Goals as goal

pub returns-in-Err-Write-clause-err : goal.returns-in-Err-Write-clause-err
returns-in-Err-Write-clause-err g c =
    let image = c.args.image.now in
    let left = c.run_extract_from.new.source in
    let narrows : Narrows (holds image) (holds left) = rw c.new-source.ensures at c.in-Err-Write.ensures.narrows in
    (rw c.in-Err-Write.field-0-is at c.in-Err-Write.ensures.err) image (still image left narrows)
