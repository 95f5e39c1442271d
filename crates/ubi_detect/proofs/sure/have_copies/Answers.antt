use Rattle.ubi_detect.proofs.Prelude.{◌∙◌, ◌+◌, ap, sym, ◌==◌, not, copy_at, number_at, put}
use Rattle.ubi_detect.proofs.InTurn.{first_fails, second_fails, third_decides}
use Rattle.ubi_detect.proofs.sure.have_copies.Goals as goal

pub returns-then-not-branch-clause-have : goal.returns-then-not-branch-clause-have
returns-then-not-branch-clause-have g c = λ bytes holds.
    first_fails _ _ _ (sym (c.in_ok-holds_table.ensures.is bytes holds) ∙ c.if-not-branch.true)

pub returns-then-not-branch-2-clause-have : goal.returns-then-not-branch-2-clause-have
returns-then-not-branch-2-clause-have g c = λ bytes holds.
    second_fails _ _ _
    (sym (c.in_ok-holds_table.ensures.is bytes (c.in_ok-holds_table-2.ensures.source.narrows bytes holds)) ∙ c.if-not-branch.false)
    (sym (c.in_ok-holds_table-2.ensures.is bytes holds) ∙ c.if-not-branch-2.true)

pub returns-clause-have : goal.returns-clause-have
returns-clause-have g c = λ bytes holds.
    let w = c.args.way.now in
    let place = c.put-vid.ensures.place ∙ ap (put w) c.vid_offset.ensures.value in
    let first = c.in_ok-second.ensures.source.narrows bytes holds in
    let second = c.in_ok-first.ensures.source.narrows bytes first in
    let one = c.in_ok-first.ensures.is bytes first ∙ ap (λ x. number_at bytes (c.args.at + (x + 12))) place in
    let two = c.in_ok-second.ensures.is bytes holds ∙ ap (λ x. number_at bytes (c.args.next + (x + 12))) place in
    third_decides _ _ _ _
    (sym (c.in_ok-holds_table.ensures.is bytes (c.in_ok-holds_table-2.ensures.source.narrows bytes second)) ∙ c.if-not-branch.false)
    (sym (c.in_ok-holds_table-2.ensures.is bytes second) ∙ c.if-not-branch-2.false)
    (ap not (ap (λ x. x == c.in_ok-second.second) one ∙ ap (λ x. copy_at bytes w c.args.at == x) two))
