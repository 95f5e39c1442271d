use Rattle.ubi_writing.proofs.Prelude.{true}
use Rattle.ubi_writing.proofs.writers.replace_into.Given as goal

abbrev pub ghosts-work_at_once : goal.ghosts-work_at_once
ghosts-work_at_once g a = record {
  path = a.paths.now.out.now;
  files = g.D.Disk.files a.disk.now;
  disk = a.disk.ghost_name;
  may_open = true;
}
