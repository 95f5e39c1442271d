use Rattle.ubi_writing.proofs.Prelude.{◌≡◌, ◌++◌, take, vec_items, flat_map, step_line}
use Rattle.ubi_writing.proofs.plan.put_steps.Given as goal

abbrev pub invariant-loop-step : goal.invariant-loop-step
invariant-loop-step l = vec_items l.text ≡ vec_items l.initial.text ++ flat_map step_line (take l.step-index l.steps)
