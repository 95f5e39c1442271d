use Rattle.ubi_media.proofs.Prelude.{◌∙◌}
use Rattle.ubi_media.proofs.Blanks.{blank_shifted}
use Rattle.ubi_media.proofs.bytes.is_blank.Goals as goal

pub returns-then-first : goal.returns-then-first
returns-then-first c = c.eq.ensures ∙ blank_shifted _ _ _ c.in-Some.ensures.cases.0 c.if-first.true
