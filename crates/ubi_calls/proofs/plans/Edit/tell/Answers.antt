use Rattle.ubi_calls.proofs.Prelude.{Under, spared_plan}
use Rattle.ubi_calls.proofs.Edited.{fills_both}
use Rattle.ubi_calls.proofs.plans.Edit.tell.Goals as goal

pub returns : goal.returns
returns c =
    fills_both (λ pages. Under c.args.sizes.now (λ s. spared_plan c.args.self.now c.args.spared.now s c.args.image.now pages)) c.plan_under-answer.new.pages.items
    c.plan_under-answer.result c.plan_under-answer.ensures (rw c.as_slice.ensures.value at c.hand_plan.ensures)
