use Rattle.ubi_detect.proofs.Prelude.{◌∙◌, sym, IfOk-weaker}
use Rattle.ubi_detect.proofs.InTurn.{first_of_two, second_of_two}
use Rattle.ubi_detect.proofs.Looking.{looks_on}
use Rattle.ubi_detect.proofs.sure.is_borne_out.Goals as goal

pub returns-then-not-branch-clause-is : goal.returns-then-not-branch-clause-is
returns-then-not-branch-clause-is g c = λ bytes holds.
    first_of_two _ _ (sym (c.in_ok-are_no_halves.ensures.are bytes holds) ∙ c.if-not-branch.true)

pub returns-clause-source : goal.returns-clause-source
returns-clause-source g c = looks_on _ _ _ _ _ _ c.in_ok-are_no_halves.ensures.source c.says_so.ensures.source

pub returns-clause-is : goal.returns-clause-is
returns-clause-is g c =
    IfOk-weaker c.says_so.result _ _
    (λ is says bytes holds.
    second_of_two _ _ is
    (sym (c.in_ok-are_no_halves.ensures.are bytes (c.says_so.ensures.source.narrows bytes holds)) ∙ c.if-not-branch.false)
    (says bytes holds))
    c.says_so.ensures.says
