use Rattle.ubi_detect.proofs.Prelude.{◌∙◌, List, ap, subst, sym, Group, AreReady, has_key}
use Rattle.ubi_detect.proofs.AddedGroups.{ready, ready_with}
use Rattle.ubi_detect.proofs.groups.have_group.Goals as goal

pub returns-then-has_key-clause-groups : goal.returns-then-has_key-clause-groups
returns-then-has_key-clause-groups c = λ heads are.
    ready heads c.args.key.now c.args.groups.now.items are
    (ap (λ gs. has_key gs c.args.key.now) (sym c.as_slice.ensures.value) ∙ sym c.has_key.ensures ∙ c.if-has_key.true)

pub returns-clause-groups : goal.returns-clause-groups
returns-clause-groups c = λ heads are.
    let gs = c.args.groups.now.items in
    let none = ap (λ gs. has_key gs c.args.key.now) (sym c.as_slice.ensures.value) ∙ sym c.has_key.ensures ∙ c.if-has_key.false in
    let made = rw c.as_slice-2.ensures.value at c.new_group-group.ensures.group in
    let P : List Group → Type 0 = λ xs. AreReady heads c.args.key.now xs in
    subst P (sym c.in_ok-push.ensures.items)
    (ready_with heads c.args.key.now gs are c.new_group-group.result none c.new_group-group.ensures.key (made heads are none))
