use Rattle.ubi_detect.proofs.Prelude.{◌∙◌, ◌+◌, sym, le-leb, IfOk-weaker}
use Rattle.ubi_detect.proofs.InTurn.{second_fails, third_decides}
use Rattle.ubi_detect.proofs.sure.MeetsBlockTest.holds.Goals as goal

pub returns-then-not-branch-clause-answer : goal.returns-then-not-branch-clause-answer
returns-then-not-branch-clause-answer g c = λ bytes holds.
    second_fails _ _ _ (le-leb (c.args.at + c.args.self.now.group.now.size) c.args.self.now.group.now.last c.if-next-self.false)
    (sym (c.in_ok-is_start.ensures.is bytes holds) ∙ c.if-not-branch.true)

pub returns-clause-answer : goal.returns-clause-answer
returns-clause-answer g c =
    IfOk-weaker c.have_copies.result _ _
    (λ answer have bytes holds.
    third_decides _ _ _ answer (le-leb (c.args.at + c.args.self.now.group.now.size) c.args.self.now.group.now.last c.if-next-self.false)
    (sym (c.in_ok-is_start.ensures.is bytes (c.have_copies.ensures.source.narrows bytes holds)) ∙ c.if-not-branch.false)
    (have bytes holds))
    c.have_copies.ensures.have
