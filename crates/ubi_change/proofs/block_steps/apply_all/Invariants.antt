use Rattle.ubi_change.proofs.Prelude.{◌≡◌, take, block_cut}
use Rattle.ubi_change.proofs.block_steps.apply_all.Given as goal

abbrev pub invariant-loop-step : goal.invariant-loop-step
invariant-loop-step l = l.block ≡ block_cut l.geometry l.p (take l.step-index l.steps) l.initial.block
