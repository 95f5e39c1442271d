use Rattle.ubi_detect.proofs.Prelude.{◌+◌, ◌-◌, ◌%◌, ap, sym, ℕ, arith, ◌==◌, not, eq-eqb, ne_eqb}
use Rattle.std.specs.Prelude.{Bool}
use Rattle.ubi_detect.proofs.Tested.{all_fails, all_pass}
use Rattle.ubi_detect.proofs.sure.is_prime.Goals as goal

pub returns-then-number-e-eq0 : goal.returns-then-number-e-eq0
returns-then-number-e-eq0 c =
    let n = c.args.number in
    let p : ℕ → Bool = λ e. not (n % (e + 2) == 0) in
    sym (all_fails p (n - 2) c.loop-e.e (let e = c.saturating_sub-e-end.ensures in omega (arith, c.loop-e-test.true, e))
    (ap not (eq-eqb (n % (c.loop-e.e + 2)) 0 c.if-number-e-eq0.true)))

pub loop-e-preserved : goal.loop-e-preserved
loop-e-preserved c =
    let n = c.args.number in
    let p : ℕ → Bool = λ e. not (n % (e + 2) == 0) in
    all_pass p c.loop-e.e c.loop-e.invariant (ap not (ne_eqb (n % (c.loop-e.e + 2)) 0 c.if-number-e-eq0.false))
