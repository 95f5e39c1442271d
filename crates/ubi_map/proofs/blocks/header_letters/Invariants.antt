use Rattle.ubi_map.proofs.Prelude.{◌≡◌, string_bytes, Narrows, WhereHeld, blocks_of, header_letters}
use Rattle.ubi_map.proofs.blocks.header_letters.Given as goal

abbrev pub invariant-loop-p : goal.invariant-loop-p
invariant-loop-p g l = record {
  known : g.S.BlockSource.known l.source ≡ g.S.BlockSource.known l.fn.source;
  narrows : Narrows (g.S.BlockSource.agrees l.fn.source) (g.S.BlockSource.agrees l.source);
  letters : WhereHeld (g.S.BlockSource.agrees l.source)
      (λ bytes. string_bytes l.letters ≡ header_letters l.geometry (blocks_of l.geometry bytes) l.p);
}
