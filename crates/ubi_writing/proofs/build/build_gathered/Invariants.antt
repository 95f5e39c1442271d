use Rattle.ubi_writing.proofs.build.build_gathered.Given as goal

abbrev pub ghosts-build_into : goal.ghosts-build_into
ghosts-build_into g a = record { path = a.asked.now.out.now; files = g.D.Disk.files a.disk.now; disk = a.disk.ghost_name; may_open = a.answers.may_open }
