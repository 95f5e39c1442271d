use Rattle.ubi_files.proofs.Prelude.{length, ◌-◌}
use Rattle.ubi_files.proofs.PageBytes.{AreClosed}
use Rattle.ubi_files.proofs.pages.close_gaps.Given as goal

abbrev pub invariant-pages : goal.invariant-pages
invariant-pages l = AreClosed l.page l.oob l.place l.fn.bytes l.bytes l.kept l.from

abbrev pub decreases-pages : goal.decreases-pages
decreases-pages l = length l.initial.bytes - l.from
