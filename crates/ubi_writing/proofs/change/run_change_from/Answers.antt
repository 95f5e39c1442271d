use Rattle.ubi_writing.proofs.Prelude.{List, sym, subst, IfOk, Keeps-refl, Source, blocks_in, All, Wrote, AllWithin, IsChangeError, PlanFactsOfSource, Step, not_blank_from, unplanned_from, cut_text, steps_done}
use Rattle.ubi_writing.proofs.Edited.{change_cut, change_done, change_narrowed}
use Rattle.ubi_writing.proofs.change.run_change_from.Goals as goal

pub carry_out-requires-clause-within : goal.carry_out-requires-clause-within
carry_out-requires-clause-within g c =
    let s = c.args.geometry.now in
    let within : AllWithin s (blocks_in s (g.S.BlockSource.known c.plan_change_from.new.source)) c.in-Ok.steps.items =
    subst (λ (k : Source). AllWithin s (blocks_in s k) c.in-Ok.steps.items) (sym c.in-Ok.ensures.known) c.in-Ok.ensures.plan.within in
    subst (λ (steps : List Step). AllWithin s (blocks_in s (g.S.BlockSource.known c.plan_change_from.new.source)) steps)
    (sym c.as_slice.ensures.value) within

pub returns-in-Ok-clause-ok : goal.returns-in-Ok-clause-ok
returns-in-Ok-clause-ok g c =
    let s = c.args.geometry.now in
    let av = c.args.avoided.now in
    let new = c.args.new.now in
    let known = g.S.BlockSource.known c.args.source.now in
    let agrees = g.S.BlockSource.agrees c.carry_out.new.source in
    let steps = c.as_slice.result.now in
    let plan : PlanFactsOfSource s known (g.S.BlockSource.agrees c.plan_change_from.new.source) av new.id new.lnum new.bytes.now steps =
    subst (λ (steps : List Step). PlanFactsOfSource s known (g.S.BlockSource.agrees c.plan_change_from.new.source) av new.id new.lnum new.bytes.now steps)
    (sym c.as_slice.ensures.value) c.in-Ok.ensures.plan in
    change_done av new.id new.lnum new.bytes.now c.args.stop s known agrees steps
    (change_narrowed av new.id new.lnum new.bytes.now c.args.stop s known _ agrees steps c.carry_out.ensures.narrows plan)
    c.carry_out.result c.carry_out.new.pages.items _ _ c.carry_out.ensures.answer
    (rw c.requires at c.carry_out.ensures.pages)
    (subst (λ (k : Source). IfOk c.carry_out.result (λ _. Wrote agrees (g.W.Write.contents c.args.writer.now)
    (g.W.Write.contents c.carry_out.new.writer) (cut_text s steps (steps_done steps c.args.stop)) All 0 k.size)) c.in-Ok.ensures.known
    c.carry_out.ensures.written)
    c.carry_out.ensures.cut

pub returns-in-Ok-clause-err : goal.returns-in-Ok-clause-err
returns-in-Ok-clause-err g c =
    let s = c.args.geometry.now in
    let av = c.args.avoided.now in
    let new = c.args.new.now in
    let known = g.S.BlockSource.known c.args.source.now in
    let agrees = g.S.BlockSource.agrees c.carry_out.new.source in
    let steps = c.as_slice.result.now in
    let plan : PlanFactsOfSource s known (g.S.BlockSource.agrees c.plan_change_from.new.source) av new.id new.lnum new.bytes.now steps =
    subst (λ (steps : List Step). PlanFactsOfSource s known (g.S.BlockSource.agrees c.plan_change_from.new.source) av new.id new.lnum new.bytes.now steps)
    (sym c.as_slice.ensures.value) c.in-Ok.ensures.plan in
    change_cut av new.id new.lnum new.bytes.now c.args.stop s known agrees steps
    (change_narrowed av new.id new.lnum new.bytes.now c.args.stop s known _ agrees steps c.carry_out.ensures.narrows plan)
    c.carry_out.result _ _ c.carry_out.ensures.err

pub returns-in_ok-cause_line-in-Err-Refused-clause-ok : goal.returns-in_ok-cause_line-in-Err-Refused-clause-ok
returns-in_ok-cause_line-in-Err-Refused-clause-ok g c =
    let s = c.args.geometry.now in
    let av = c.args.avoided.now in
    let new = c.args.new.now in
    unplanned_from c.in-Err-Refused.cause c.in_ok-cause_line-in-Err-Refused.field-0.items
    (subst (IsChangeError s (g.S.BlockSource.known c.args.source.now) (g.S.BlockSource.agrees c.plan_change_from.new.source)
    av new.id new.lnum new.bytes.now) c.in-Err-Refused.field-0-is c.in-Err-Refused.ensures.refused)
    (rw c.in-Err-Refused.field-0-is at c.in_ok-cause_line-in-Err-Refused.ensures) c.saying-in-Err-Refused.ensures (Keeps-refl _)

pub returns-in_ok-not_blank_line-in-Err-NotBlank-clause-ok : goal.returns-in_ok-not_blank_line-in-Err-NotBlank-clause-ok
returns-in_ok-not_blank_line-in-Err-NotBlank-clause-ok g c =
    let s = c.args.geometry.now in
    let new = c.args.new.now in
    not_blank_from c.in-Err-NotBlank.p
    (subst (IsChangeError s (g.S.BlockSource.known c.args.source.now) (g.S.BlockSource.agrees c.plan_change_from.new.source)
    c.args.avoided.now new.id new.lnum new.bytes.now) c.in-Err-NotBlank.field-0-is c.in-Err-NotBlank.ensures.refused)
    (rw (c.in_ok-not_blank_line-in-Err-NotBlank.ensures, c.in-Err-NotBlank.field-0-is) at c.saying.ensures) (Keeps-refl _)
