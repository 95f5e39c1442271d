use Rattle.ubi_compose.proofs.Prelude.{IsInBuffer, ◌∙◌, sym, anything, NoRead, piece_bytes}
use Rattle.ubi_compose.proofs.LaidOfRead.{none_laid, piece_laid}
use Rattle.ubi_compose.proofs.Received.{put_none, put_where}
use Rattle.ubi_compose.proofs.writer.put_read.Goals as goal

pub returns-then-is_left_out-clause-put : goal.returns-then-is_left_out-clause-put
returns-then-is_left_out-clause-put g c =
    let d = c.args.device.now in
    let q = c.args.piece.now in
    put_none (IsInBuffer d.geometry q.origin q.len c.args.buffer.now) _ (piece_bytes d q) c.args.done
    (λ bytes holds. none_laid d q c.args.buffer.now bytes holds (sym c.is_left_out.ensures ∙ c.if-is_left_out.true))

pub returns-clause-put : goal.returns-clause-put
returns-clause-put g c =
    let d = c.args.device.now in
    let q = c.args.piece.now in
    put_where anything (IsInBuffer d.geometry q.origin q.len c.args.buffer.now) (λ bytes holds. tt) NoRead NoRead (λ n h. h) _
    (piece_bytes d q)
    (λ bytes holds. piece_laid d q c.args.buffer.now bytes holds (sym c.is_left_out.ensures ∙ c.if-is_left_out.false)
    c.header_of-header.result (c.header_of-header.ensures bytes holds)) _ _ c.args.done c.put_laid.result
    c.put_laid.ensures.put
