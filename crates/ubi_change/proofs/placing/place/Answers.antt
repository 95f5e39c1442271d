use Rattle.ubi_change.proofs.Prelude.{◌≡◌, ◌-◌, ◌<◌, ap, sym, ◌∙◌, subst, arith, None, Records, drop, length, rec_fault, slots, Part}
use Rattle.ubi_change.proofs.PlacedParts.{all_here, with_sizes}
use Rattle.ubi_change.proofs.placing.place.Goals as goal

pub set-requires-clause-slot : goal.set-requires-clause-slot
set-requires-clause-slot c =
    let ps = c.args.parts.now in
    let at = c.loop-left.left - 1 in
    let part : Part = c.index-parts-left.result in
    let inside : at < length ps = omega (arith, c.loop-left-test.true, c.loop-left.invariant.within) in
    let same = ap (λ (t : Records). t.sizes) c.loop-left.invariant.draft ∙ with_sizes c.args.draft.now (drop c.loop-left.left ps) in
    subst (λ z. part.id < slots z) (sym same)
    (subst (λ (p : Part). p.id < slots c.args.draft.now.sizes) (sym c.index-parts-left.is)
    (all_here (λ (p : Part). p.id < slots c.args.draft.now.sizes) ps at part c.requires.below inside))

pub set-requires-clause-sound : goal.set-requires-clause-sound
set-requires-clause-sound c =
    let ps = c.args.parts.now in
    let at = c.loop-left.left - 1 in
    let part : Part = c.index-parts-left.result in
    let inside : at < length ps = omega (arith, c.loop-left-test.true, c.loop-left.invariant.within) in
    let same = ap (λ (t : Records). t.sizes) c.loop-left.invariant.draft ∙ with_sizes c.args.draft.now (drop c.loop-left.left ps) in
    subst (λ z. rec_fault z part.entry ≡ None) (sym same)
    (subst (λ (p : Part). rec_fault c.args.draft.now.sizes p.entry ≡ None) (sym c.index-parts-left.is)
    (all_here (λ (p : Part). rec_fault c.args.draft.now.sizes p.entry ≡ None) ps at part c.requires.sound inside))
