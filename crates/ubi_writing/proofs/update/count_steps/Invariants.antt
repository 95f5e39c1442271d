use Rattle.ubi_writing.proofs.Prelude.{◌≡◌, ℕ, List, length, take, AreStepCounts, IsLaidFrom, plan_groups}
use Rattle.ubi_writing.proofs.update.count_steps.Given as goal

abbrev pub invariant-loop-k : goal.invariant-loop-k
invariant-loop-k l = record {
  counted : (bytes : List ℕ) → IsLaidFrom l.geometry bytes l.plan → AreStepCounts (take l.k (plan_groups l.geometry l.plan bytes)) l.counted;
  groups : length l.counted.counts.items ≡ l.k;
}
