use Rattle.ubi_map.proofs.Prelude.{◌≡◌, map, string_bytes, Narrows, WhereHeld, blocks_of, block_texts}
use Rattle.ubi_map.proofs.blocks.block_texts.Given as goal

abbrev pub invariant-loop-p : goal.invariant-loop-p
invariant-loop-p g l = record {
  known : g.S.BlockSource.known l.source ≡ g.S.BlockSource.known l.fn.source;
  narrows : Narrows (g.S.BlockSource.agrees l.fn.source) (g.S.BlockSource.agrees l.source);
  blocks : WhereHeld (g.S.BlockSource.agrees l.source)
      (λ bytes. map string_bytes l.texts.items ≡ block_texts l.geometry (blocks_of l.geometry bytes) l.p);
}
