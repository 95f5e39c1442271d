use Rattle.ubi_dumps.proofs.Prelude.{true}
use Rattle.ubi_dumps.proofs.output_file.write_bytes.Given as goal

abbrev pub ghosts-write_to : goal.ghosts-write_to
ghosts-write_to g a = record { path = a.output.path.now; files = g.D.Disk.files a.disk.now; disk = a.disk.ghost_name; may_open = true }
