use Rattle.ubi_writing.proofs.Prelude.{true}
use Rattle.ubi_writing.proofs.pages_file.write_pages_file.Given as goal

abbrev pub ghosts-write_at : goal.ghosts-write_at
ghosts-write_at g a = record { path = a.output.path.now; files = g.D.Disk.files a.disk.now; disk = a.disk.ghost_name; may_open = true }
