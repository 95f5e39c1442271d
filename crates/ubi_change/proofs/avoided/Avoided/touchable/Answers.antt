use Rattle.ubi_change.proofs.Prelude.{◌≡◌, ◌<◌, true, false, sym, ap, ◌∙◌, arith, length, get_or_from_slice_get, is_avoided}
use Rattle.ubi_change.proofs.Touchable.{touchable_all, touchable_more}
use Rattle.ubi_change.proofs.avoided.Avoided.touchable.Goals as goal
use Rattle.ubi_change.proofs.avoided.Avoided.touchable.Goals.{then-not-has, else-not-has}

pub loop-p-preserved : goal.loop-p-preserved
loop-p-preserved c =
    let av = c.args.self.now in
    let sts = c.args.surveyed.now.states in
    let p = c.loop-p.p in
    let st = c.state.result in
    let inside : p < length sts = omega (arith, c.loop-p-test.true, ap length c.states-count.ensures) in
    let here = sym (get_or_from_slice_get sts p st st c.state.ensures) in
    let before = c.loop-p.invariant.left in
    let most = c.loop-p.invariant.most in
    elim c.if-not-has.branch [
      | then-not-has w ↦
          let may : is_avoided av p st ≡ false = sym c.has.ensures ∙ w.if-not-has.true in
          let step = touchable_more av sts p st inside here false may in
          record { left = omega (arith, before, step, w.left-is); most = omega (arith, most, w.left-is) }
      | else-not-has w ↦
          let not_may : is_avoided av p st ≡ true = sym c.has.ensures ∙ w.if-not-has.false in
          let step = touchable_more av sts p st inside here true not_may in
          record { left = omega (arith, before, step, w.left-is); most = omega (arith, most, w.left-is) }
    ]

pub returns-clause-value : goal.returns-clause-value
returns-clause-value c =
    let all = c.loop-p.auto.p-end in
    let count = ap length c.states-count.ensures in
    c.loop-p.invariant.left
    ∙ touchable_all c.args.self.now c.args.surveyed.now.states c.loop-p.p (omega (arith, all, count, c.loop-p-test.false))
