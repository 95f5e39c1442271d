use Rattle.ubi_writing.proofs.Prelude.{◌≡◌, map, take, vec_items, sum_by, AreBesideOut, AreUnread, AreSoFar}
use Rattle.ubi_writing.proofs.gathered.gather.Given as goal

abbrev pub invariant-loop-section : goal.invariant-loop-section
invariant-loop-section g l = record {
  gathered : AreSoFar (g.D.Disk.files l.disk) l.geometry l.paths.config.now (take l.section-index l.sections) (vec_items l.gathered.parts)
      (map (λ x. g.D.Placed.PlacedFile.bytes x.file) (vec_items l.gathered.files)) l.gathered.total;
  total : l.gathered.total ≡ sum_by (λ x. x.len) (vec_items l.gathered.files);
  apart : AreBesideOut l.paths.config.now l.paths.out.now (take l.section-index l.sections);
  lines : AreUnread l.paths.config.now l.sections (vec_items l.gathered.unread);
}
