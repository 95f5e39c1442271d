use Rattle.ubi_writing.proofs.Prelude.{◌≢◌, take}
use Rattle.std.specs.Prelude.{All}
use Rattle.ubi_writing.proofs.planners.read_at.Given as goal

abbrev pub invariant-loop-read : goal.invariant-loop-read
invariant-loop-read g l = record {
  apart : All (λ f. f.now ≢ l.path) (take l.read-index l.reads);
}
