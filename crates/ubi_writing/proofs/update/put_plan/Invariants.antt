use Rattle.ubi_writing.proofs.Prelude.{◌≡◌, ℕ, List, ◌++◌, flat_map, in_order, take, IsLaidFrom, plan_groups, step_line}
use Rattle.ubi_writing.proofs.update.put_plan.Given as goal

abbrev pub invariant-loop-k : goal.invariant-loop-k
invariant-loop-k l = (bytes : List ℕ) → IsLaidFrom l.geometry bytes l.plan
    → l.text.items ≡ l.fn.text.items ++ flat_map step_line (in_order (take l.k (plan_groups l.geometry l.plan bytes)))
