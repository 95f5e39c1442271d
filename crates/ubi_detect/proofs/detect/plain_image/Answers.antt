use Rattle.ubi_detect.proofs.Prelude.{rules, ◌∙◌, sym}
use Rattle.ubi_detect.proofs.OnePlain.{none_sure, none_surely}
use Rattle.ubi_detect.proofs.detect.plain_image.Goals as goal

pub returns-in_default-clause-plain : goal.returns-in_default-clause-plain
returns-in_default-clause-plain g c = λ bytes holds.
    let none = rw c.in_default.is at c.in_ok-group.ensures.plain in none_surely bytes (none bytes holds)

pub returns-then-branch-clause-source : goal.returns-then-branch-clause-source
returns-then-branch-clause-source g c = record {
  known = search rules;
  narrows = λ bytes holds. c.in_ok-group.ensures.source.narrows bytes (c.in_ok-is_sure.ensures.source.narrows bytes holds);
  named = search rules;
}

pub returns-then-branch-clause-plain : goal.returns-then-branch-clause-plain
returns-then-branch-clause-plain g c = λ bytes holds.
    let plain = rw c.in-Some.is at c.in_ok-group.ensures.plain in
    let is = plain bytes (c.in_ok-is_sure.ensures.source.narrows bytes holds) in
    record { plain = is.plain; alone = is.alone; sure = sym (c.in_ok-is_sure.ensures.sure bytes holds) ∙ c.if-branch.true }

pub returns-else-branch-clause-source : goal.returns-else-branch-clause-source
returns-else-branch-clause-source g c = record {
  known = search rules;
  narrows = λ bytes holds. c.in_ok-group.ensures.source.narrows bytes (c.in_ok-is_sure.ensures.source.narrows bytes holds);
  named = search rules;
}

pub returns-else-branch-clause-plain : goal.returns-else-branch-clause-plain
returns-else-branch-clause-plain g c = λ bytes holds.
    let plain = rw c.in-Some.is at c.in_ok-group.ensures.plain in
    let is = plain bytes (c.in_ok-is_sure.ensures.source.narrows bytes holds) in
    none_sure bytes c.in-Some.group is.plain (sym (c.in_ok-is_sure.ensures.sure bytes holds) ∙ c.if-branch.false)
