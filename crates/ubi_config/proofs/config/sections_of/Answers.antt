use Rattle.ubi_config.proofs.Prelude.{◌∙◌, append-nil, arith, sym, err_from_is_err_and}
use Rattle.ubi_config.proofs.Groups.{lacks_here, made_all, made_more}
use Rattle.ubi_config.proofs.config.sections_of.Goals as goal
use Rattle.ubi_config.proofs.config.sections_of.Goals.{in-Some, in_default}

pub returns-in_err-section : goal.returns-in_err-section
returns-in_err-section c =
    let p = err_from_is_err_and c.from_residual-in_err-section.result c.from_residual-in_err-section.ensures.1 in
    rw (p.1, p.2)
    (lacks_here c.args.said.now c.loop-place.place c.loop-place.sections.items c.index-said-place.result
    c.loop-place.invariant (omega arith) c.index-said-place.is c.in_err-section.field-0.0 c.in_err-section.ensures)

pub loop-place-preserved : goal.loop-place-preserved
loop-place-preserved c =
    let more = made_more c.args.said.now c.loop-place.place c.loop-place.sections.items c.index-said-place.result
    c.loop-place.invariant (omega arith) c.index-said-place.is c.in_ok-section.field-0 c.match-branch-3.sections.items
    c.in_ok-section.ensures in
    elim c.match-branch-3.branch [
      | in-Some w ↦ more (cc)
      | in_default w ↦ more
          (rw (w.sections-is, w.in_default.is) (c.reserve.ensures.items ∙ sym (append-nil c.loop-place.sections.items)))
    ]

pub returns : goal.returns
returns c =
    made_all c.args.said.now c.loop-place.place c.loop-place.sections.items c.loop-place.invariant (omega arith)
