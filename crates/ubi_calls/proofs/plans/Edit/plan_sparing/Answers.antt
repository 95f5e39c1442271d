use Rattle.ubi_calls.proofs.Prelude.{Hidden, ap₂, blocks_of, hidden_in, ◌≡◌, ◌∙◌, ap, length, subst, sym, Avoided, Bool, IfOk-weaker, List, ReadBlank, image_of, masked, of_blocks, ℕ, eqb-true, with_items_is}
use Rattle.ubi_calls.proofs.MaskedBlocks.{none_held}
use Rattle.ubi_calls.proofs.Spared.{for_chip, unmarked}
use Rattle.ubi_calls.proofs.plans.Edit.plan_sparing.Goals as goal

pub returns-then-is_empty : goal.returns-then-is_empty
returns-then-is_empty c =
    let s = c.args.geometry.now in
    let chip = c.args.spared.now in
    let marked = c.as_slice-marks.ensures.value ∙ (rw c.pebs.ensures.value at c.in_ok-marks.ensures) in
    IfOk-weaker c.plan.result _ _
    (λ o is. for_chip c.args.self.now chip s c.args.image.now _ _
    (unmarked s chip.bad.now c.args.image.now (sym (ap length marked) ∙ eqb-true _ _ (sym c.if-is_empty.ensures)))
    (c.new-avoided.ensures
    ∙ ap₂ (λ (n : ℕ) (ends : List ℕ). record { marks = c.as_slice-marks.result.now; blank = chip.keeps_blank; above = n; ends = ends })
    c.above.ensures c.ends.ensures
    ∙ ap₂ (λ (m : List Bool) (h : Hidden). record { marks = m; blank = chip.keeps_blank; above = h.above; ends = h.ends }) marked
    (c.in_ok-hidden.ensures ∙ ap (λ (m : List Bool). hidden_in s (blocks_of s c.args.image.now) m) marked)) _ _ _ is)
    c.plan.ensures

pub plan-requires-2-clause-blank : goal.plan-requires-2-clause-blank
plan-requires-2-clause-blank c =
    let s = c.args.geometry.now in
    let av = c.new-avoided.result in
    let long : length c.mask.new.bytes ≡ c.in_ok-seen.seen.len = c.mask.auto.bytes ∙ c.as_mut_slice.ensures.len in
    let seen = rw (c.peb_size.ensures.value, c.as_mut_slice.ensures.value, c.in_ok-seen.ensures.items) at c.mask.ensures in
    subst (λ (b : List ℕ). of_blocks ReadBlank (image_of s b) av)
    (sym (c.as_slice.ensures.value ∙ with_items_is c.in_ok-seen.seen c.mask.new.bytes long ∙ seen
    ∙ ap (λ (m : List Bool). masked s.peb_size m c.args.image.now) (sym (ap (λ (a : Avoided). a.marks) c.new-avoided.ensures))))
    (none_held s c.peb_size.ensures.limits av c.args.image.now)
