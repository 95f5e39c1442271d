use Rattle.ubi_change.proofs.Prelude.{◌<◌, [], ◌∷◌, true, false, ap, sym, ◌∙◌, subst, arith, AllByRecursion, all_append, slots}
use Rattle.ubi_change.proofs.PlacedParts.{free_more}
use Rattle.ubi_change.proofs.placing.free_slots.Goals as goal
use Rattle.ubi_change.proofs.placing.free_slots.Goals.{then-is_free+in_ok-push, else-is_free}

pub loop-slot-preserved : goal.loop-slot-preserved
loop-slot-preserved c =
    let t = c.args.table.now in
    let slot = c.loop-slot.slot in
    let old = c.loop-slot.free.items in
    let inside : slot < slots t.sizes = omega (arith, c.loop-slot-test.true, c.slots-slot-end.ensures.value, ap slots c.geometry.ensures.value) in
    elim c.if-is_free.branch [
      | then-is_free+in_ok-push w ↦
          let now = ap (λ v. v.items) w.free-is ∙ w.in_ok-push.ensures.items in
          record {
            free = λ used tells. now ∙ free_more used t slot old true (c.loop-slot.invariant.free used tells)
                (sym (c.is_free.ensures used tells) ∙ w.if-is_free.true);
            below = subst (AllByRecursion (λ slot. slot < slots t.sizes)) (sym now)
                (all_append (λ slot. slot < slots t.sizes) old (slot ∷ []) c.loop-slot.invariant.below (inside, tt));
          }
      | else-is_free w ↦
          let now = ap (λ v. v.items) w.free-is in
          record {
            free = λ used tells. now ∙ free_more used t slot old false (c.loop-slot.invariant.free used tells)
                (sym (c.is_free.ensures used tells) ∙ w.if-is_free.false);
            below = subst (AllByRecursion (λ slot. slot < slots t.sizes)) (sym now) c.loop-slot.invariant.below;
          }
    ]
