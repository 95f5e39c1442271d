use Rattle.ubi_volume.proofs.Prelude.{◌≡◌, ℕ, List, vec_items, IfSome, slice_get, Sizes, IsScan, BlockStateIs}
use Rattle.std.specs.Prelude.{length}
use Rattle.ubi_volume.proofs.surveyed.states_of.Given as goal

-- each of the eraseblocks so far has its state
abbrev pub invariant-loop-p : goal.invariant-loop-p
invariant-loop-p l = record {
  count : length (vec_items l.states) ≡ l.p;
  states : (s : Sizes) (bs : List (List ℕ)) → IsScan s bs l.scan → (q : ℕ)
      → IfSome (slice_get (vec_items l.states) q) (BlockStateIs s bs l.table q);
}
