use Rattle.ubi_detect.proofs.Prelude.{◌∙◌, arith, subst, Group, IsAdded, get_or_default, length-set}
use Rattle.ubi_detect.proofs.AddedGroups.{added_here, left_there}
use Rattle.ubi_detect.proofs.groups.add_to_each.Goals as goal

pub loop-i-preserved : goal.loop-i-preserved
loop-i-preserved c = record {
  many = length-set c.loop-i.groups c.loop-i.i c.add.new.self ∙ c.loop-i.invariant.many;
  done = added_here c.args.head.now c.args.groups.now c.loop-i.groups c.loop-i.i c.add.new.self c.loop-i.invariant.many
      c.loop-i.invariant.done c.loop-i.invariant.rest (λ d. let P : Group → Type 0 = λ g. IsAdded c.args.head.now g c.add.new.self in
      subst P (get_or_default c.loop-i.groups c.loop-i.i _ d (omega (arith, c.loop-i-test.true, c.loop-i.invariant.many))) c.add.ensures);
  rest = λ k d later. left_there c.loop-i.groups c.args.groups.now c.loop-i.i k c.add.new.self d later (c.loop-i.invariant.rest k d (omega (arith, later)));
}
