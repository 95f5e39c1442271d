use Rattle.ubi_change.proofs.Prelude.{◌≡◌, ◌+◌, List, ℕ, ap, sym, ◌∙◌, take, arith, take_all, fold_more, block_cut, block_step, Step}
use Rattle.ubi_change.proofs.OnBlock.{step_elsewhere, step_here}
use Rattle.ubi_change.proofs.block_steps.apply_all.Goals as goal
use Rattle.ubi_change.proofs.block_steps.apply_all.Goals.{then-eraseblock-p, else-eraseblock-p}

pub loop-step-preserved : goal.loop-step-preserved
loop-step-preserved c =
    let s = c.args.geometry.now in
    let p = c.args.p in
    let steps = c.args.steps.now in
    let i = c.loop-step.step-index in
    let next = c.step-item.result in
    let more : block_step s p c.loop-step.block next ≡ block_cut s p (take (i + 1) steps) c.args.block.now =
    ap (λ (b : List ℕ). block_step s p b next) c.loop-step.invariant
    ∙ ap (block_step s p (block_cut s p (take i steps) c.args.block.now)) c.step-item.is
    ∙ sym (fold_more (block_step s p) c.args.block.now steps i next c.loop-step-test.true) in
    elim c.if-eraseblock-p.branch [
      | then-eraseblock-p v ↦ v.block-is ∙ v.apply_to.ensures ∙ step_here s p c.loop-step.block next (sym c.eraseblock.ensures ∙ v.if-eraseblock-p.true) ∙ more
      | else-eraseblock-p v ↦ v.block-is ∙ step_elsewhere s p c.loop-step.block next (λ e. v.if-eraseblock-p.false (c.eraseblock.ensures ∙ e)) ∙ more
    ]

pub returns-clause-done : goal.returns-clause-done
returns-clause-done c =
    c.loop-step.invariant
    ∙ ap (λ (steps : List Step). block_cut c.args.geometry.now c.args.p steps c.args.block.now)
    (take_all c.loop-step.step-index c.args.steps.now (omega (arith, c.loop-step-test.false)))
