use Rattle.ubi_detect.proofs.Prelude.{◌∙◌, sym, IfOk-weaker}
use Rattle.ubi_detect.proofs.InTurn.{third_decides}
use Rattle.ubi_detect.proofs.sure.may_be_size.Goals as goal

pub returns : goal.returns
returns c =
    IfOk-weaker c.is_seen.result _ _
    (λ may is. third_decides _ _ _ may (sym c.has_room.ensures ∙ c.if-not-has_room.false) (sym c.is_dense.ensures ∙ c.if-not-is_dense.false) is)
    c.is_seen.ensures
