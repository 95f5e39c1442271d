use Rattle.ubi_detect.proofs.Prelude.{◌∙◌, sym, IfErr-weaker, IfOk-weaker}
use Rattle.ubi_detect.proofs.FailedPlaces.{read_error}
use Rattle.ubi_detect.proofs.InTurn.{first_of_two, second_of_two}
use Rattle.ubi_detect.proofs.sure.is_sure.Goals as goal

pub returns-then-branch-clause-sure : goal.returns-then-branch-clause-sure
returns-then-branch-clause-sure g c =
    IfOk-weaker c.is_borne_out.result _ _
    (λ sure is bytes holds. second_of_two _ _ sure (sym c.in_ok-may_be_size.ensures ∙ c.if-branch.true) (is bytes holds)) c.is_borne_out.ensures.is

pub returns-then-branch-clause-failed : goal.returns-then-branch-clause-failed
returns-then-branch-clause-failed g c = IfErr-weaker c.is_borne_out.result _ _ (read_error _) c.is_borne_out.ensures.failed

pub returns-else-branch-clause-sure : goal.returns-else-branch-clause-sure
returns-else-branch-clause-sure g c = λ bytes holds. first_of_two _ _ (sym c.in_ok-may_be_size.ensures ∙ c.if-branch.false)
