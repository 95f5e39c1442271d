use Rattle.ubi_files.proofs.Prelude.{◌≡◌, ◌+◌, take, sum_by}
use Rattle.ubi_files.proofs.file_row.FileRowPlacedFile.read_from.Given as goal

abbrev pub invariant-loop-part : goal.invariant-loop-part
invariant-loop-part g l = l.at ≡ sum_by (λ f. f.len) (take l.part-index l.part-items) + l.place
