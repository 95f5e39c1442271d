use Rattle.ubi_config.proofs.Prelude.{◌∙◌, err_from_is_err_and}
use Rattle.ubi_config.proofs.Faults.{line_refused, made_is, no_fault, section_refused}
use Rattle.ubi_config.proofs.config.parse_config.Goals as goal

pub returns-in_err-said-clause-refused : goal.returns-in_err-said-clause-refused
returns-in_err-said-clause-refused c =
    let p = err_from_is_err_and c.from_residual.result c.from_residual.ensures.1 in
    rw (p.1, p.2) (line_refused c.args.text.now c.in_err-said.field-0.0 c.in_err-said.ensures)

pub returns-in_err-sections-clause-refused : goal.returns-in_err-sections-clause-refused
returns-in_err-sections-clause-refused c =
    let p = err_from_is_err_and c.from_residual-in_err-sections.result c.from_residual-in_err-sections.ensures.1 in
    let said = c.as_slice.ensures.value ∙ c.in_ok-said.ensures.1 in
    rw (p.1, p.2)
    (section_refused c.args.text.now c.as_slice.result.now c.in_err-sections.field-0.0 said c.in_ok-said.ensures.0
    c.in_err-sections.ensures)

pub returns-clause-sections : goal.returns-clause-sections
returns-clause-sections c =
    let said = c.as_slice.ensures.value ∙ c.in_ok-said.ensures.1 in (
      no_fault c.args.text.now c.as_slice.result.now c.in_ok-sections.sections.items said c.in_ok-said.ensures.0
          c.in_ok-sections.ensures,
      made_is c.args.text.now c.as_slice.result.now c.in_ok-sections.sections.items said c.in_ok-said.ensures.0
          c.in_ok-sections.ensures,
    )
