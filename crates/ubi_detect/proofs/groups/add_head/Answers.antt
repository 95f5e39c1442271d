use Rattle.ubi_detect.proofs.Prelude.{◌∙◌, ◌+◌, ◌/◌, ◌++◌, ◌∷◌, [], List, length, sym, ap, subst, arith, All, mod-add-div', step, Group, AreAdded, AreGroups, IsWithin}
use Rattle.ubi_detect.proofs.AddedGroups.{few_each, groups_more, within_more, written}
use Rattle.ubi_detect.proofs.groups.add_head.Goals as goal

pub add_to_each-requires : goal.add_to_each-requires
add_to_each-requires c =
    let all = c.in_ok-have_group.ensures.within (c.args.head.now.place / step) c.requires.within in
    let P : List Group → Type 0 = λ gs. All (IsWithin (c.args.head.now.place / step)) gs in
    few_each (c.args.head.now.place / step) c.as_mut_slice.result.now (subst P (sym c.as_mut_slice.ensures.value) all)
    (let f = mod-add-div' c.args.head.now.place step in let p = c.requires.place in omega (arith, f, p))

pub returns-clause-groups : goal.returns-clause-groups
returns-clause-groups c = λ heads are.
    let value = c.as_mut_slice.ensures.value in
    let added : AreAdded c.args.head.now c.have_group.new.groups.items c.add_to_each.new.groups = rw value at c.add_to_each.ensures in
    let whole = written c.have_group.new.groups.len c.add_to_each.new.groups c.have_group.new.groups.items added.many
    (sym c.as_mut_slice.ensures.len ∙ ap length value) in
    let P : List Group → Type 0 = λ gs. AreGroups (heads ++ c.args.head.now ∷ []) gs in
    subst P (sym whole)
    (groups_more heads c.args.head.now c.have_group.new.groups.items c.add_to_each.new.groups added
    (c.in_ok-have_group.ensures.groups heads are))

pub returns-clause-within : goal.returns-clause-within
returns-clause-within c = λ unit.
    let value = c.as_mut_slice.ensures.value in
    let n = c.args.head.now.place / step in
    let added : AreAdded c.args.head.now c.have_group.new.groups.items c.add_to_each.new.groups = rw value at c.add_to_each.ensures in
    let whole = written c.have_group.new.groups.len c.add_to_each.new.groups c.have_group.new.groups.items added.many
    (sym c.as_mut_slice.ensures.len ∙ ap length value) in
    let P : List Group → Type 0 = λ gs. All (IsWithin (n + 1)) gs in
    subst P (sym whole)
    (within_more c.args.head.now c.have_group.new.groups.items c.add_to_each.new.groups added n
    (let f = mod-add-div' c.args.head.now.place step in omega (arith, f, unit))
    (c.in_ok-have_group.ensures.within n c.requires.within))
