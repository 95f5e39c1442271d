use Rattle.std.proofs.lemmas.Result.{IfOk-weaker}
use Rattle.ubi_uses.proofs.same.is_same_build.Goals as goal

pub returns : goal.returns
returns c =
    IfOk-weaker c.same.result _ _ (λ answer h. (h.left, h.right, h.left_means, h.right_means, h.meanings)) c.same.ensures.answer
