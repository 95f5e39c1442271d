use Rattle.ubi_detect.proofs.Prelude.{◌+◌, sym, ◌∙◌, subst, arith, MatchOption, Option, slice_index_or, and_parts, get_or_default, Group, IsBestOf, NoneSays}
use Rattle.ubi_detect.proofs.AddedGroups.{no_group}
use Rattle.ubi_detect.proofs.BestGroup.{best_size, best_taken, best_within, image_of, stays_best}
use Rattle.ubi_detect.proofs.groups.image_among.Goals as goal
use Rattle.ubi_detect.proofs.groups.image_among.Goals.{else-is_better, then-is_better}

pub loop-i-preserved : goal.loop-i-preserved
loop-i-preserved c =
    let gs = c.args.groups.now in
    let i = c.loop-i.i in
    let P : Option Group → Type 0 = λ b. MatchOption b (NoneSays gs (i + 1)) (IsBestOf gs (i + 1)) in
    elim c.if-is_better.branch [
      | then-is_better w ↦ (let both = and_parts _ _ (sym c.is_better.ensures ∙ w.if-is_better.true) in
          subst P (sym w.best-is)
          (best_taken gs i c.loop-i-test.true (slice_index_or gs i no_group) (λ d. get_or_default gs i d no_group c.loop-i-test.true) c.loop-i.best c.loop-i.invariant both.0 both.1))
      | else-is_better w ↦
          subst P (sym w.best-is)
          (stays_best gs i c.loop-i-test.true (slice_index_or gs i no_group) (λ d. get_or_default gs i d no_group c.loop-i-test.true) c.loop-i.best c.loop-i.invariant
          (sym c.is_better.ensures ∙ w.if-is_better.false))
    ]

pub returns-clause-within : goal.returns-clause-within
returns-clause-within c = λ n all. let e = c.loop-i.auto.i-end in best_within c.args.groups.now n c.loop-i.i c.loop-i.best e c.loop-i.invariant all

pub returns-clause-size : goal.returns-clause-size
returns-clause-size c = best_size c.args.groups.now c.loop-i.i c.loop-i.best c.loop-i.invariant

pub returns-clause-image : goal.returns-clause-image
returns-clause-image c = λ heads are.
    image_of heads c.args.groups.now are c.loop-i.i c.loop-i.best (let e = c.loop-i.auto.i-end in omega (arith, e, c.loop-i-test.false))
    c.loop-i.invariant
