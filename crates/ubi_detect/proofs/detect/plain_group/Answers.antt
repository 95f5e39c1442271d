use Rattle.ubi_detect.proofs.Prelude.{◌∙◌, sym}
use Rattle.ubi_detect.proofs.OnePlain.{none_alone, none_plain}
use Rattle.ubi_detect.proofs.detect.plain_group.Goals as goal

pub returns-in_default-clause-plain : goal.returns-in_default-clause-plain
returns-in_default-clause-plain g c = λ bytes holds.
    let none = rw c.in_default.is at c.in_ok-group.ensures.plain in none_plain bytes (none bytes holds)

pub returns-then-branch-clause-plain : goal.returns-then-branch-clause-plain
returns-then-branch-clause-plain g c = λ bytes holds.
    let plain = rw c.in-Some.is at c.in_ok-group.ensures.plain in
    none_alone bytes c.in-Some.group (plain bytes (c.in_ok-has_inner_start.ensures.source.narrows bytes holds))
    (sym (c.in_ok-has_inner_start.ensures.has bytes holds) ∙ c.if-branch.true)
