use Rattle.ubi_compose.proofs.Prelude.{IsInBuffer, IsReadOf, NoRead, piece_bytes, ◌∙◌}
use Rattle.ubi_compose.proofs.Received.{known_kept, put_narrowed}
use Rattle.ubi_compose.proofs.writer.put_piece.Goals as goal

pub returns-in-Ok-clause-known : goal.returns-in-Ok-clause-known
returns-in-Ok-clause-known g c = c.in-Ok.ensures.known
    ∙ known_kept _ _ _ _ c.args.done c.put_read.result c.put_read.ensures.put (g.S.BlockSource.known c.args.source.now)

pub returns-in-Ok-clause-put : goal.returns-in-Ok-clause-put
returns-in-Ok-clause-put g c =
    let d = c.args.device.now in
    let q = c.args.piece.now in
    put_narrowed (IsInBuffer d.geometry q.origin q.len c.fetch.new.buffer) (g.S.BlockSource.agrees c.fetch.new.source)
    c.in-Ok.ensures.held NoRead (IsReadOf d.geometry q.origin q.header (g.S.BlockSource.failed_at c.fetch.new.source))
    (λ n h. absurd h) (piece_bytes d q) _ _ c.args.done c.put_read.result c.put_read.ensures.put
