use Rattle.ubi_writing.proofs.Prelude.{◌≡◌, ◌++◌, take, vec_items, programmed}
use Rattle.ubi_writing.proofs.plan.put_pages.Given as goal

abbrev pub invariant-loop-step : goal.invariant-loop-step
invariant-loop-step l = vec_items l.pages ≡ vec_items l.initial.pages ++ programmed (take l.step-index l.steps)
