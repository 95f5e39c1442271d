use Rattle.ubi_writing.proofs.Prelude.{◌≡◌, map, take, sizes_of, sum_by, IsFilledBy, bytes_in}
use Rattle.ubi_writing.proofs.contents.gather_contents.Given as goal

abbrev pub invariant-loop-word : goal.invariant-loop-word
invariant-loop-word g l = record {
  filled : IsFilledBy (g.D.Disk.files l.disk) (sizes_of l.numbers) l.asked (take l.word-index l.asked.contents.now) l.contents
      (map (λ f. bytes_in (λ x. g.D.Placed.PlacedFile.bytes x.file) f.file) l.files.items);
  total : l.contents.total ≡ sum_by (λ f. f.len) l.files.items;
}
