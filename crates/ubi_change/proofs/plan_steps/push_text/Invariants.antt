use Rattle.ubi_change.proofs.Prelude.{◌≡◌, ◌++◌, ◌/◌}
use Rattle.ubi_change.proofs.Pushed.{pages_from}
use Rattle.ubi_change.proofs.plan_steps.push_text.Given as goal

abbrev pub invariant-loop-i : goal.invariant-loop-i
invariant-loop-i l = l.steps.items ≡ l.initial.steps.items
    ++ pages_from l.p (l.fn.geometry.data_offset / l.fn.geometry.page) l.fn.geometry.page l.i l.new
