use Rattle.ubi_compose.proofs.Prelude.{◌≡◌, ℕ, ◌+◌, ◌*◌, ◌≤◌, ◌∙◌, Ok, arith, err_from_is_err_and, mul-le, All, wrote_as, wrote_narrowed, those, first_lebs, volume_bytes}
use Rattle.ubi_compose.proofs.NextPiece.{none_left, piece_failed, piece_put}
use Rattle.ubi_compose.proofs.writer.put_volume.Goals as goal

pub returns-in_err-total-clause-put : goal.returns-in_err-total-clause-put
returns-in_err-total-clause-put g c =
    let ps = g.C.Contents.pieces c.args.contents.now in
    let agrees = g.S.BlockSource.agrees c.put_piece.new.source in
    let from = err_from_is_err_and c.from_residual.result c.from_residual.ensures.1 in
    rw (from.1, from.2)
    (piece_failed c.args.device.now ps c.args.id c.loop-piece.from c.in-Some.piece c.in-Some.ensures.next
    (g.S.BlockSource.failed_at c.put_piece.new.source) agrees _ _ _ c.args.done c.loop-piece.total
    (wrote_narrowed _ agrees c.put_piece.ensures.narrows _ _ _ All c.args.done c.loop-piece.total
    c.loop-piece.invariant.wrote)
    c.in_err-total.field-0.0 c.in_err-total.ensures.put)

pub loop-piece-preserved : goal.loop-piece-preserved
loop-piece-preserved g c =
    let ps = g.C.Contents.pieces c.args.contents.now in
    let agrees = g.S.BlockSource.agrees c.put_piece.new.source in
    let is = c.in-Some.ensures.next in
    let inside = is.inside in
    let few = is.few in
    record {
      source = c.in_ok-total.ensures.known ∙ c.loop-piece.invariant.source;
      narrows = λ bytes holds. c.loop-piece.invariant.narrows bytes (c.in_ok-total.ensures.narrows bytes holds);
      wrote = piece_put c.args.device.now ps c.args.id c.loop-piece.from c.in-Some.piece is
          (g.S.BlockSource.failed_at c.put_piece.new.source) agrees _ _ _ c.args.done c.loop-piece.total
          (wrote_narrowed _ agrees c.put_piece.ensures.narrows _ _ _ All c.args.done c.loop-piece.total
          c.loop-piece.invariant.wrote)
          (Ok c.in_ok-total.total) c.in_ok-total.ensures.put;
      few = (let few = c.loop-piece.invariant.few in let most = c.in_ok-total.ensures.most in
          let low = is.low in let lnum : ℕ = c.in-Some.piece.header.lnum in let size : ℕ = c.args.device.now.geometry.peb_size in
          let more : (c.loop-piece.from + 1) * size ≤ (lnum + 1) * size = mul-le (c.loop-piece.from + 1) size (lnum + 1) size
          (omega arith) (omega arith) in
          let next : (c.loop-piece.from + 1) * size ≡ c.loop-piece.from * size + size = omega arith in
          omega (arith, few, most, more, next));
      inside = omega (arith, inside);
      small = omega (arith, inside, few);
    }

pub returns-clause-put : goal.returns-clause-put
returns-clause-put g c =
    let d = c.args.device.now in
    let ps = g.C.Contents.pieces c.args.contents.now in
    wrote_as (g.S.BlockSource.known c.args.source.now) (g.S.BlockSource.agrees c.loop-piece.source) _ _
    (those (first_lebs d ps c.args.id c.loop-piece.from)) (those (volume_bytes d ps c.args.id)) All c.args.done
    c.loop-piece.total
    (λ bytes text w. w ∙ none_left d ps c.args.id c.loop-piece.from c.loop-piece.invariant.inside
    c.in_default.ensures.next bytes) c.loop-piece.invariant.wrote
