use Rattle.ubi_change.proofs.Prelude.{◌≡◌, ◌≢◌, ℕ, false, sym, arith, nat_tests}
use Rattle.std.proofs.Common.{◌==◌}
use Rattle.ubi_change.proofs.Clears.{clears_all, sets_one}
use Rattle.ubi_change.proofs.image_after.only_clears.Goals as goal

differs : (a b : ℕ) → a ≢ b → (a == b) ≡ false
differs a b e = grind (arith, nat_tests)

pub returns-then-old-i : goal.returns-then-old-i
returns-then-old-i c =
    sym (sets_one c.args.old.now c.args.new.now c.loop-i.i c.if-old-new.false c.loop-i-test.true
    (differs _ _ c.if-old-i.true))

pub returns : goal.returns
returns c = sym (clears_all c.args.old.now c.args.new.now c.if-old-new.false
    (λ k l. c.loop-i.invariant k (omega arith)))
