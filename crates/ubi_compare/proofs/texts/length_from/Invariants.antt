use Rattle.ubi_compare.proofs.Prelude.{◌≡◌, ◌*◌, ◌≤◌, Narrows, WhereHeld, blocks_of, SizeIsRead}
use Rattle.ubi_compare.proofs.texts.length_from.Given as goal

abbrev pub invariant-loop-lnum : goal.invariant-loop-lnum
invariant-loop-lnum g l = record {
  known : g.S.BlockSource.known l.source ≡ g.S.BlockSource.known l.fn.source;
  narrows : Narrows (g.S.BlockSource.agrees l.fn.source) (g.S.BlockSource.agrees l.source);
  small : l.bytes ≤ l.lnum * 0xFFFFFFFF;
  few : l.lnum ≤ l.used;
  read : WhereHeld (g.S.BlockSource.agrees l.source)
      (λ x. SizeIsRead l.geometry (blocks_of l.geometry x) l.id l.used l.first l.fn.bytes
      → SizeIsRead l.geometry (blocks_of l.geometry x) l.id l.used l.lnum l.bytes);
}
