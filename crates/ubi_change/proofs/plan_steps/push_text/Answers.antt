use Rattle.ubi_change.proofs.Prelude.{◌≡◌, ◌+◌, ◌-◌, ◌*◌, ◌/◌, ◌∷◌, [], ◌++◌, length, take, drop, ap, ap₂, ◌∙◌, arith}
use Rattle.ubi_change.specs.declared.step.Step.TheVariants as step
use Rattle.ubi_change.proofs.Pushed.{page_pushed, pages_from}
use Rattle.ubi_change.proofs.plan_steps.push_text.Goals as goal

pub loop-i-preserved : goal.loop-i-preserved
loop-i-preserved c =
    let s = c.args.geometry.now in
    let i = c.loop-i.i in
    let n = c.page-page.result in
    let count : i * n + n - i * n ≡ n = omega arith in
    let first = c.data_offset.result / n + i in
    page_pushed c.args.steps.now.items c.loop-i.steps.items c.push.new.self.items c.args.p
    (s.data_offset / s.page) s.page i first c.args.new.now c.in_ok-bytes.bytes.items
    c.loop-i.invariant (c.in_ok-push.ensures.items
    ∙ ap (λ x. c.loop-i.steps.items ++ step.Program c.args.p first x ∷ []) c.new.ensures)
    (ap₂ (λ a b. a / b + i) c.data_offset.ensures.value c.page-page.ensures.value)
    (c.in_ok-bytes.ensures.items ∙ ap (λ k. take k (drop (i * n) c.args.new.now)) count
    ∙ ap (λ k. take k (drop (i * k) c.args.new.now)) c.page-page.ensures.value)

pub returns : goal.returns
returns c =
    let s = c.args.geometry.now in
    let whole : c.loop-i.i ≡ length c.args.new.now / c.page-page.result = omega arith in
    c.loop-i.invariant
    ∙ ap (λ k. c.args.steps.now.items ++ pages_from c.args.p (s.data_offset / s.page) s.page k c.args.new.now)
    (whole ∙ ap (λ n. length c.args.new.now / n) c.page-page.ensures.value)
