use Rattle.ubi_files.proofs.Prelude.{sym}
use Rattle.ubi_files.proofs.FileRows.{row_read}
use Rattle.ubi_files.proofs.file_row.FileRowPlacedFile.read_from.Goals as goal

pub returns-then-place-part-clause-read : goal.returns-then-place-part-clause-read
returns-then-place-part-clause-read g c =
    rw (c.min.ensures, ← c.deref-part-items.ensures.value)
    (row_read (λ f. g.F.PlacedFile.bytes f.file) (λ f. f.len) (λ f. f.sized) c.deref-part-items.result.now c.loop-part.part-index c.part-item.result
    c.args.at c.loop-part.place c.read_from.new.out c.in_ok-count.count c.loop-part-test.true (sym c.part-item.is) c.loop-part.invariant
    c.if-place-part.true c.in_ok-count.ensures.bound.0 c.in_ok-count.ensures.read)
