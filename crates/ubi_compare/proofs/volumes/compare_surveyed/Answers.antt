use Rattle.ubi_compare.proofs.Prelude.{◌≡◌, ◌∙◌, refl, sym, subst, arith, slots, Source, survey_narrowed, IsSurveyOf}
use Rattle.ubi_compare.proofs.Differing.{all_slots, next_slot, no_slots}
use Rattle.ubi_compare.proofs.volumes.compare_surveyed.Goals as goal

pub loop-id-init : goal.loop-id-init
loop-id-init g c = record {
  left = refl;
  right = refl;
  left_narrows = λ x xs. xs;
  right_narrows = λ y ys. ys;
  told = λ x xs y ys h k.
      no_slots c.args.geometry.now c.args.here.now c.args.there.now x y h k c.args.found.now c.add_unless.new.self
      (rw (c.image_seq-one.ensures, c.image_seq-other.ensures) at c.in_ok-add_unless.ensures);
}

pub compare_slot-requires-clause-here : goal.compare_slot-requires-clause-here
compare_slot-requires-clause-here g c =
    let agrees = g.L.BlockSource.agrees c.loop-id.left in
    subst (λ (k : Source). IsSurveyOf c.args.geometry.now k agrees c.args.here.now) (sym c.loop-id.invariant.left)
    (survey_narrowed c.args.geometry.now _ _ agrees c.args.here.now c.loop-id.invariant.left_narrows c.requires.here)

pub compare_slot-requires-clause-there : goal.compare_slot-requires-clause-there
compare_slot-requires-clause-there g c =
    let agrees = g.R.BlockSource.agrees c.loop-id.right in
    subst (λ (k : Source). IsSurveyOf c.args.geometry.now k agrees c.args.there.now) (sym c.loop-id.invariant.right)
    (survey_narrowed c.args.geometry.now _ _ agrees c.args.there.now c.loop-id.invariant.right_narrows c.requires.there)

pub loop-id-preserved : goal.loop-id-preserved
loop-id-preserved g c = record {
  left = c.in_ok-compare_slot.ensures.left ∙ c.loop-id.invariant.left;
  right = c.in_ok-compare_slot.ensures.right ∙ c.loop-id.invariant.right;
  left_narrows = λ x xs. c.loop-id.invariant.left_narrows x (c.in_ok-compare_slot.ensures.left_narrows x xs);
  right_narrows = λ y ys. c.loop-id.invariant.right_narrows y (c.in_ok-compare_slot.ensures.right_narrows y ys);
  told = λ x xs y ys h k.
      next_slot c.args.geometry.now c.args.here.now c.args.there.now x y h k c.loop-id.id c.args.found.now c.loop-id.found
      c.compare_slot.new.found
      (c.loop-id.invariant.told x (c.in_ok-compare_slot.ensures.left_narrows x xs) y
      (c.in_ok-compare_slot.ensures.right_narrows y ys) h k)
      (c.in_ok-compare_slot.ensures.told x xs y ys h k);
}

pub returns-clause-told : goal.returns-clause-told
returns-clause-told g c = λ x xs y ys h k.
    let last : c.loop-id.id ≡ slots c.args.geometry.now =
    (let end = c.loop-id.auto.id-end in let test = c.loop-id-test.false in let is = c.slots-id-end.ensures.value in
    omega (arith, end, test, is)) in
    all_slots c.args.geometry.now c.args.here.now c.args.there.now x y h k c.loop-id.id last c.args.found.now c.loop-id.found
    (c.loop-id.invariant.told x xs y ys h k)
