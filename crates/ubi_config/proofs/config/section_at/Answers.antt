use Rattle.ubi_config.proofs.Prelude.{before_first, is_heading}
use Rattle.ubi_config.proofs.Groups.{no_group, none_made, one_made, one_refused}
use Rattle.ubi_config.proofs.config.section_at.Goals as goal

pub returns-in_default : goal.returns-in_default
returns-in_default c = rw (no_group c.args.line.now c.args.below.now c.in_default.not-Heading) none_made

pub returns-in-Ok : goal.returns-in-Ok
returns-in-Ok c =
    rw c.in-Heading.is
    (one_made (c.in-Heading.number, before_first is_heading c.args.below.now) c.in-Ok.section c.in-Ok.ensures)

pub returns-in-Err : goal.returns-in-Err
returns-in-Err c =
    rw (c.in-Heading.is, c.at.ensures)
    (one_refused (c.in-Heading.number, before_first is_heading c.args.below.now) c.in-Err.error c.in-Err.ensures)
