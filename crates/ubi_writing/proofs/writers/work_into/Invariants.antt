use Rattle.ubi_writing.proofs.writers.work_into.Given as goal

abbrev pub ghosts-work_late : goal.ghosts-work_late
ghosts-work_late g a = record {
  path = a.way.now.paths.out.now;
  files = g.D.Disk.files a.disk.now;
  disk = a.disk.ghost_name;
  may_open = a.way.now.may_open;
}
