use Rattle.ubi_change.proofs.Prelude.{◌<◌, ap, sym, ◌∙◌, subst, arith, err_from_is_err_and, AllByRecursion, pieces_of, LiesIn, Piece, laying_of, Laying, IsPartUnread, IsPieceUnread, ContentsError}
use Rattle.ubi_change.proofs.LayingRead.{layings_more, lie_more, piece_lies, piece_unread}
use Rattle.ubi_change.proofs.laying.add_part.Goals as goal

pub returns-in_err-laying-clause-refused : goal.returns-in_err-laying-clause-refused
returns-in_err-laying-clause-refused g c =
    let s = c.args.geometry.now in
    let p = c.args.part.now in
    let n = c.loop-lnum.lnum in
    let inside : n < pieces_of s p = omega (arith, c.loop-lnum-test.true, c.piece_count-lnum-end.ensures.value) in
    let from = err_from_is_err_and c.from_residual.result c.from_residual.ensures.1 in
    let at = g.T.BlockSource.failed_at c.laying_of.new.contents in
    let e : ContentsError = c.in_err-laying.field-0.0 in
    let read = subst (λ (q : Piece). IsPieceUnread q at e) c.piece_of-piece.ensures c.in_err-laying.ensures.refused in
    let unread : IsPartUnread p at e = piece_unread s (g.T.BlockSource.known c.args.contents.now).size p c.requires.part n inside at e read in
    rw (from.1, from.2) unread

pub loop-lnum-preserved : goal.loop-lnum-preserved
loop-lnum-preserved g c =
    let s = c.args.geometry.now in
    let p = c.args.part.now in
    let n = c.loop-lnum.lnum in
    let laid = c.in_ok-laying.ensures in
    let inside : n < pieces_of s p = omega (arith, c.loop-lnum-test.true, c.piece_count-lnum-end.ensures.value) in
    let size = (g.T.BlockSource.known c.args.contents.now).size in
    record {
      known = laid.known ∙ c.loop-lnum.invariant.known;
      narrows = λ bytes held. c.loop-lnum.invariant.narrows bytes (laid.narrows bytes held);
      added = λ bytes held. c.in_ok-add.ensures
          ∙ layings_more s bytes p n c.in_ok-laying.laying
          (laid.laying bytes held ∙ ap (λ (q : Piece). laying_of s bytes q) c.piece_of-piece.ensures) c.args.layings.now.items
          c.loop-lnum.layings.items (c.loop-lnum.invariant.added bytes (laid.narrows bytes held));
      lie = subst (AllByRecursion (λ (x : Laying). LiesIn s size x.piece)) (sym c.in_ok-add.ensures)
          (lie_more s size c.piece_of-piece.result c.loop-lnum.layings.items c.in_ok-laying.laying
          (subst (LiesIn s size) (sym c.piece_of-piece.ensures) (piece_lies s size p c.requires.part n inside)) laid.piece
          c.loop-lnum.invariant.lie);
    }
