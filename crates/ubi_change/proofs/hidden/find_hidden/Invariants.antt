use Rattle.ubi_change.proofs.Prelude.{◌≡◌, ℕ, ◌<◌, length, Narrows, WhereHeld, blocks_of, listed_end_of, listed_top_of, slice_index, slots}
use Rattle.ubi_change.proofs.hidden.find_hidden.Given as goal

abbrev pub invariant-loop-p : goal.invariant-loop-p
invariant-loop-p g l = record {
  known : g.S.BlockSource.known l.source ≡ g.S.BlockSource.known l.fn.source;
  narrows : Narrows (g.S.BlockSource.agrees l.fn.source) (g.S.BlockSource.agrees l.source);
  above : WhereHeld (g.S.BlockSource.agrees l.source)
      (λ bytes. l.above ≡ listed_top_of l.geometry (blocks_of l.geometry bytes) l.marks l.p);
  count : length l.ends.items ≡ slots l.geometry;
  ends : WhereHeld (g.S.BlockSource.agrees l.source)
      (λ bytes. (vol : ℕ) → vol < length l.ends.items
      → slice_index l.ends.items vol ≡ listed_end_of l.geometry (blocks_of l.geometry bytes) l.marks l.p vol);
}
