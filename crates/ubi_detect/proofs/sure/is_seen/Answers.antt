use Rattle.ubi_detect.proofs.Prelude.{◌∙◌, sym, ne_eqb}
use Rattle.ubi_detect.proofs.InTurn.{both_fail, last_decides}
use Rattle.ubi_detect.proofs.sure.is_seen.Goals as goal

pub returns-then-half : goal.returns-then-half
returns-then-half c =
    last_decides _ _ _ c.in_ok-quarter.quarter (ne_eqb _ 0 c.if-group-eq0.false) (sym c.in_ok-half.ensures ∙ c.if-half.true)
    c.in_ok-quarter.ensures

pub returns-else-half : goal.returns-else-half
returns-else-half c =
    both_fail _ _ _ c.in_ok-half.half (ne_eqb _ 0 c.if-group-eq0.false) (sym c.in_ok-half.ensures ∙ c.if-half.false) c.if-half.false
