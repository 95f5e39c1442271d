use Rattle.ubi_writing.proofs.Prelude.{◌≡◌, map, take, sizes_of, sum_by, bytes_in, IsImagedBy}
use Rattle.ubi_writing.proofs.config_volumes.gather_volumes.Given as goal

abbrev pub invariant-loop-section : goal.invariant-loop-section
invariant-loop-section g l = record {
  imaged : IsImagedBy (g.D.Disk.files l.disk) (sizes_of l.numbers) l.config (take l.section-index l.sections) l.fn.contents l.contents
      (map (λ f. bytes_in (λ x. g.D.Placed.PlacedFile.bytes x.file) f.file) l.fn.files.items)
      (map (λ f. bytes_in (λ x. g.D.Placed.PlacedFile.bytes x.file) f.file) l.files.items);
  total : l.fn.contents.total ≡ sum_by (λ f. f.len) l.fn.files.items → l.contents.total ≡ sum_by (λ f. f.len) l.files.items;
}
