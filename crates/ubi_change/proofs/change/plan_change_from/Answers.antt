use Rattle.ubi_change.proofs.Prelude.{subst, bytes_each, AllWithin, blocks_of}
use Rattle.ubi_change.proofs.BlankListed.{survey_blank}
use Rattle.ubi_change.proofs.Listed.{never_listed}
use Rattle.ubi_change.proofs.PlanKept.{plan_kept}
use Rattle.ubi_change.proofs.Unplanned.{error_is, error_read, plan_is}
use Rattle.ubi_change.proofs.change.plan_change_from.Goals as goal

pub returns-in-Ok-change_steps-clause-plan : goal.returns-in-Ok-change_steps-clause-plan
returns-in-Ok-change_steps-clause-plan g c =
    let s = c.args.geometry.now in
    let known = g.S.BlockSource.known c.args.source.now in
    let agrees = g.S.BlockSource.agrees c.prepare.new.source in
    let new = c.args.new.now in
    let av = c.args.avoided.now in
    let p = c.in-Ok.prepared in
    let is = c.in-Ok.ensures.prepared in
    let steps = c.in-Ok-change_steps.steps.items in
    record {
      whole = is.ground.survey.scan.whole;
      within = subst (λ n. AllWithin s n steps) is.ground.survey.count c.in-Ok-change_steps.ensures.within;
      beside = rw c.as_slice.ensures.value at c.in-None-listed.ensures;
      held = λ bytes holds. plan_kept _ av c.page.ensures.limits
          (survey_blank _ p.ground.surveyed (is.ground.survey.held bytes holds) av c.in-None.ensures) c.args.id c.args.lnum new (bytes_each new (λ i. (c.type_inv.new i).fits))
          steps (plan_is s known agrees av c.args.id c.args.lnum new p is bytes holds steps c.in-Ok-change_steps.ensures.steps);
    }

pub returns-in-Ok-clause-refused : goal.returns-in-Ok-clause-refused
returns-in-Ok-clause-refused g c =
    let s = c.args.geometry.now in
    let known = g.S.BlockSource.known c.args.source.now in
    let agrees = g.S.BlockSource.agrees c.prepare.new.source in
    let is = c.in-Ok.ensures.prepared in
    error_is s known agrees c.args.avoided.now c.args.id c.args.lnum c.args.new.now c.in-Ok.prepared is
    (λ bytes holds. survey_blank _ c.in-Ok.prepared.ground.surveyed (is.ground.survey.held bytes holds) c.args.avoided.now c.in-None.ensures)
    c.in-Err-change_steps.cause
    c.in-Err-change_steps.ensures.refused

pub returns-clause-refused : goal.returns-clause-refused
returns-clause-refused g c = rw c.unread.ensures
    (error_read c.args.geometry.now (g.S.BlockSource.known c.args.source.now) (g.S.BlockSource.agrees c.prepare.new.source)
    c.args.avoided.now c.args.id c.args.lnum c.args.new.now c.in-Err.error c.in-Err.ensures.refused)

pub returns-in-Some-listed-clause-refused : goal.returns-in-Some-listed-clause-refused
returns-in-Some-listed-clause-refused g c =
    let s = c.args.geometry.now in
    let known = g.S.BlockSource.known c.args.source.now in
    let agrees = g.S.BlockSource.agrees c.prepare.new.source in
    let new = c.args.new.now in
    let av = c.args.avoided.now in
    let p = c.in-Ok.prepared in
    let is = c.in-Ok.ensures.prepared in
    let steps = c.in-Ok-change_steps.steps.items in (
      is.ground.survey.scan.whole,
      λ bytes holds. absurd (never_listed s (blocks_of s bytes) av steps c.in-Some-listed.p
          (plan_kept _ av c.page.ensures.limits
          (survey_blank _ p.ground.surveyed (is.ground.survey.held bytes holds) av c.in-None.ensures) c.args.id c.args.lnum new (bytes_each new (λ i. (c.type_inv.new i).fits))
          steps (plan_is s known agrees av c.args.id c.args.lnum new p is bytes holds steps c.in-Ok-change_steps.ensures.steps)).avoids
          (rw c.as_slice.ensures.value at c.in-Some-listed.ensures)),
    )
