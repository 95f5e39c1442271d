use Rattle.ubi_detect.proofs.Prelude.{◌+◌, ◌/◌, List, ℕ, ap, subst, sym, arith, length, All, heads_to, keys_of, step, Head, AreGroups, IsWithin}
use Rattle.ubi_detect.proofs.MoreKeys.{as_many_keys, keys_in_more}
use Rattle.ubi_detect.proofs.Surveyed.{heads_of_unit, unit_behind, unit_inside}
use Rattle.ubi_detect.proofs.survey.add_heads.Goals as goal

pub loop-i-preserved : goal.loop-i-preserved
loop-i-preserved c = record {
  groups = λ all here are.
      let P : List Head → Type 0 = λ hs. AreGroups hs c.add_unit.new.groups.items in
      subst P (sym (heads_of_unit all c.args.bytes.now c.args.place c.loop-i.i here c.requires.place
      (unit_inside c.loop-i.i (length c.args.bytes.now) c.loop-i-test.true)))
      (c.in_ok-add_unit.ensures.groups _ (c.loop-i.invariant.groups all here are));
  few = omega arith;
  within = let e = unit_behind c.args.place c.loop-i.i c.requires.place in
      let P : ℕ → Type 0 = λ n. All (IsWithin n) c.add_unit.new.groups.items in
      let f = e.0 in
      subst P (omega (arith, f)) (c.in_ok-add_unit.ensures.within e.1);
}

pub returns-then-len-gt-MOST_KEYS-clause-groups : goal.returns-then-len-gt-MOST_KEYS-clause-groups
returns-then-len-gt-MOST_KEYS-clause-groups c = λ all here are.
    let units = heads_of_unit all c.args.bytes.now c.args.place c.loop-i.i here c.requires.place
    (unit_inside c.loop-i.i (length c.args.bytes.now) c.loop-i-test.true) in
    let named = ap (λ hs. length (keys_of hs)) units in
    let groups = as_many_keys _ c.add_unit.new.groups.items (c.in_ok-add_unit.ensures.groups _ (c.loop-i.invariant.groups all here are)) in
    let more = keys_in_more all (c.args.place / step + (c.loop-i.i + 1)) (c.args.place / step + length c.args.bytes.now / step)
    (let inside = c.loop-i-test.true in omega (arith, inside)) in
    let ok = c.add_unit.new.groups.ok in omega (arith, named, groups, more, ok)

pub returns-clause-groups : goal.returns-clause-groups
returns-clause-groups c = λ all here are.
    let P : ℕ → Type 0 = λ n. AreGroups (heads_to all (c.args.place / step + n)) c.loop-i.groups.items in
    let e = c.loop-i.auto.i-end in
    subst P (omega (arith, e, c.loop-i-test.false)) (c.loop-i.invariant.groups all here are)
