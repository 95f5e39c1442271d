use Rattle.ubi_detect.proofs.Prelude.{sym, ◌∙◌, unnumbered}
use Rattle.ubi_detect.proofs.NewGroups.{found_within, group_of_none, group_of_unnumbered}
use Rattle.ubi_detect.proofs.groups.new_group.Goals as goal

pub returns-in-Some-clause-group : goal.returns-in-Some-clause-group
returns-in-Some-clause-group c = λ heads are none.
    group_of_unnumbered heads c.args.groups.now c.args.key.now are none c.in-Some.group (sym c.group_with.ensures ∙ c.in-Some.is)

pub returns-in-None-clause-group : goal.returns-in-None-clause-group
returns-in-None-clause-group c = λ heads are none.
    group_of_none heads c.args.groups.now c.args.key.now are none c.empty.result c.empty.ensures.key c.empty.ensures.group
    (sym c.group_with.ensures ∙ c.in-None.is)

pub returns-in-Some-clause-within : goal.returns-in-Some-clause-within
returns-in-Some-clause-within c = λ n all.
    let is = found_within n (unnumbered c.args.key.now) c.args.groups.now c.in-Some.group all (sym c.group_with.ensures ∙ c.in-Some.is) in
    record { count = is.count; order = is.order; last = is.last; none = is.none }
