use Rattle.ubi_change.proofs.Prelude.{◌≡◌, ℕ, ◌<◌, Bool, filter, range_with_len, AllByRecursion, slots, is_free, TellsUsed}
use Rattle.ubi_change.proofs.placing.free_slots.Given as goal

abbrev pub invariant-loop-slot : goal.invariant-loop-slot
invariant-loop-slot l = record {
  free : (used : ℕ → ℕ → Bool) → TellsUsed l.scan.winners l.ends used
      → l.free.items ≡ filter (is_free used l.table) (range_with_len 0 l.slot);
  below : AllByRecursion (λ slot. slot < slots l.table.sizes) l.free.items;
}
