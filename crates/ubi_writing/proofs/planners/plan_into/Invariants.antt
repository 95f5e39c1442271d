use Rattle.ubi_writing.proofs.Prelude.{true}
use Rattle.ubi_writing.proofs.planners.plan_into.Given as goal

abbrev pub ghosts-plan_at_once : goal.ghosts-plan_at_once
ghosts-plan_at_once g a = record {
  path = a.plan.now.paths.out.now;
  files = g.D.Disk.files a.disk.now;
  disk = a.disk.ghost_name;
  may_open = true;
}
