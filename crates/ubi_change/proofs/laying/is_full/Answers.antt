use Rattle.ubi_change.proofs.Prelude.{◌≡◌, ◌+◌, ◌-◌, List, ℕ, sym, ap, ◌∙◌, arith, take, drop, is_blank, not-true}
use Rattle.ubi_change.proofs.LastPages.{full_is}
use Rattle.ubi_change.proofs.laying.is_full.Goals as goal

pub returns-clause-full : goal.returns-clause-full
returns-clause-full g c = λ some bytes agrees.
    let s = c.args.geometry.now in
    let buffer : List ℕ = c.read_piece.new.buffer in
    let n : ℕ = c.in-Some.last.len in
    let limits = c.data_offset-data.ensures.limits in
    let fits = c.requires.lies.fits in
    let all = c.in-Some.ensures.all in
    let same = c.read_piece.auto.buffer in
    let whole = c.requires.room in
    let count : c.data_offset-data.result + n - c.data_offset-data.result ≡ n = omega arith in
    let read : is_blank (take n (drop s.data_offset buffer)) ≡ c.is_blank.result =
    ap (λ d. is_blank (take n (drop d buffer))) (sym c.data_offset-data.ensures.value)
    ∙ ap (λ m. is_blank (take m (drop c.data_offset-data.result buffer))) (sym count)
    ∙ sym c.is_blank.ensures in
    full_is s bytes buffer c.args.piece.now c.in-Some.last c.in-Some.ensures (c.in_ok-read_piece.ensures.held bytes agrees)
    (let f = limits.leb in omega (arith, f, fits, all, same, whole)) (read ∙ not-true c.is_blank.result some)
