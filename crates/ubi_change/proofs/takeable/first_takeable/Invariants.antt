use Rattle.ubi_change.proofs.Prelude.{◌≡◌, ◌≤◌, Narrows, WhereHeld, blocks_in, blocks_of, length, states_avoiding}
use Rattle.ubi_change.proofs.FirstTakeable.{AreParted, PartedFit}
use Rattle.ubi_change.proofs.takeable.first_takeable.Given as goal

abbrev pub invariant-loop-p : goal.invariant-loop-p
invariant-loop-p g l = record {
  source : g.S.BlockSource.known l.source ≡ g.S.BlockSource.known l.fn.source;
  narrows : Narrows (g.S.BlockSource.agrees l.fn.source) (g.S.BlockSource.agrees l.source);
  few : length l.parted.clean.items ≤ l.most;
  fits : PartedFit (blocks_in l.geometry (g.S.BlockSource.known l.fn.source)) l.parted.clean.items l.parted.other.items;
  parted : WhereHeld (g.S.BlockSource.agrees l.source)
      (λ bytes. AreParted l.geometry (blocks_of l.geometry bytes) (states_avoiding l.avoided l.surveyed.states) l.most l.p l.parted.clean.items l.parted.other.items);
}
