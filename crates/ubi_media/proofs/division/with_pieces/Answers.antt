use Rattle.ubi_media.proofs.Prelude.{[], ◌∷◌, ◌++◌, take, refl, sym, ap, ◌∙◌, arith, append-nil, take_all, concat-append, concat, check_from}
use Rattle.ubi_media.proofs.Checks.{check_from-append, check_from-empty, check_from-piece}
use Rattle.ubi_media.proofs.Pieces.{carries-start}
use Rattle.ubi_media.proofs.division.with_pieces.Goals as goal

pub returns-in_default : goal.returns-in_default
returns-in_default c =
    sym (check_from-empty c.args.state c.ranges.state.fits)
    ∙ ap (λ pieces. check_from c.args.state (concat pieces))
    (take_all 0 c.args.pieces.now (omega (arith, c.in_default.ensures.cases)))

pub loop-piece-init : goal.loop-piece-init
loop-piece-init c = carries-start 1788 c.args.state c.from.result (omega arith) c.ranges.state.fits c.from.ensures

pub loop-piece-preserved : goal.loop-piece-preserved
loop-piece-preserved c =
    let before = c.in-Some.before.now in
    let so_far = check_from c.args.state (concat (take c.loop-piece.piece-index before)) in
    rw (← check_from-piece c.args.state c.loop-piece.piece-index before so_far _ c.ranges.state.fits
    c.loop-piece-test.true refl refl)
    (c.carry.ensures so_far c.loop-piece.invariant)

pub returns : goal.returns
returns c =
    let before = c.in-Some.before.now in
    let last = c.in-Some.last.now in
    c.with_last.ensures _ c.loop-piece.invariant
    ∙ ap (λ pieces. check_from (check_from c.args.state (concat pieces)) last)
    (take_all c.loop-piece.piece-index before c.loop-piece-test.false)
    ∙ sym (check_from-append c.args.state (concat before) last c.ranges.state.fits)
    ∙ ap (λ bytes. check_from c.args.state (concat before ++ bytes)) (sym (append-nil last))
    ∙ ap (check_from c.args.state) (sym (concat-append before (last ∷ [])))
    ∙ ap (λ pieces. check_from c.args.state (concat pieces)) (sym c.in-Some.ensures.cases.0)
