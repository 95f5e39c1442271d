use Rattle.ubi_compare.proofs.Prelude.{◌≡◌, ◌+◌, ◌<◌, ◌∙◌, List, [], ◌∷◌, not, ap, refl, sym, subst, arith, min, leb_differences, Difference, Found, Ranges, Adds, HaveFound}
use Rattle.ubi_compare.proofs.Adding.{adds_brief}
use Rattle.ubi_compare.proofs.ReadApart.{all_told, apart_by, none_found, one_apart, one_same, side_lebs, some_told, texts}
use Rattle.ubi_compare.specs.declared.difference.Difference.TheVariants as difference
use Rattle.ubi_compare.proofs.lebs.compare_lebs.Goals.{then-not-branch+else-found+in_ok-add-2, else-not-branch}
use Rattle.ubi_compare.proofs.lebs.compare_lebs.Goals as goal

pub returns-then-found-clause-told : goal.returns-then-found-clause-told
returns-then-found-clause-told g c = λ x xs y ys h k v w at bt.
    let s = c.args.geometry.now in
    let id = c.args.id in
    let p = c.args.here.survey.now in
    let q = c.args.there.survey.now in
    let one = c.args.one in
    let other = c.args.other in
    let n = c.loop-lnum.lnum in
    let a = side_lebs s _ _ id c.args.here c.requires.here one c.requires.one x
    (c.loop-lnum.invariant.left_narrows x (c.in_ok-same_share.ensures.left_narrows x xs)) h v at in
    let b = side_lebs s _ _ id c.args.there c.requires.there other c.requires.other y
    (c.loop-lnum.invariant.right_narrows y (c.in_ok-same_share.ensures.right_narrows y ys)) k w bt in
    let inside : n < min one.lebs other.lebs =
    (let test = c.loop-lnum-test.true in let is = c.min-count.ensures in omega (arith, test, is)) in
    let is = rw (c.share_of-p.ensures.place, c.share_of-p.ensures.len, c.share_of-q.ensures.place, c.share_of-q.ensures.len)
    at (c.in_ok-same_share.ensures.answer x xs y ys) in
    let differs = apart_by s id v w one other (texts s p x id one) (texts s q y id other) a b c.requires.size n inside
    c.in_ok-same_share.field-0 is in
    let before = c.loop-lnum.invariant.found in
    adds_brief c.args.found.now c.add.new.self (leb_differences s id v w) (difference.Lebs id n n)
    (ap (λ (f : Found). f.is_brief) (sym before) ∙ c.if-found.true)
    (some_told s id v w one other (texts s p x id one) (texts s q y id other) a b c.requires.size n inside
    (differs ∙ ap not c.if-not-branch.true))
    (subst (λ (f : Found). Adds f c.add.new.self (difference.Lebs id n n ∷ [])) before c.in_ok-add.ensures)

pub loop-lnum-init : goal.loop-lnum-init
loop-lnum-init g c = record {
  left = refl;
  right = refl;
  left_narrows = λ x xs. xs;
  right_narrows = λ y ys. ys;
  found = refl;
  have = λ x xs y ys h k v w at bt.
      none_found c.args.geometry.now c.args.id v w c.new-ranges.result c.new-ranges.ensures.id c.new-ranges.ensures.told
      c.new-ranges.ensures.begun;
}

pub loop-lnum-preserved : goal.loop-lnum-preserved
loop-lnum-preserved g c = record {
  left = c.in_ok-same_share.ensures.left ∙ c.loop-lnum.invariant.left;
  right = c.in_ok-same_share.ensures.right ∙ c.loop-lnum.invariant.right;
  left_narrows = λ x xs. c.loop-lnum.invariant.left_narrows x (c.in_ok-same_share.ensures.left_narrows x xs);
  right_narrows = λ y ys. c.loop-lnum.invariant.right_narrows y (c.in_ok-same_share.ensures.right_narrows y ys);
  found = c.loop-lnum.invariant.found;
  have = λ x xs y ys h k v w at bt.
      let s = c.args.geometry.now in
      let id = c.args.id in
      let p = c.args.here.survey.now in
      let q = c.args.there.survey.now in
      let one = c.args.one in
      let other = c.args.other in
      let n = c.loop-lnum.lnum in
      let first = c.in_ok-same_share.ensures.left_narrows x xs in
      let second = c.in_ok-same_share.ensures.right_narrows y ys in
      let a = side_lebs s _ _ id c.args.here c.requires.here one c.requires.one x
      (c.loop-lnum.invariant.left_narrows x first) h v at in
      let b = side_lebs s _ _ id c.args.there c.requires.there other c.requires.other y
      (c.loop-lnum.invariant.right_narrows y second) k w bt in
      let inside : n < min one.lebs other.lebs =
      (let test = c.loop-lnum-test.true in let is = c.min-count.ensures in omega (arith, test, is)) in
      let is = rw (c.share_of-p.ensures.place, c.share_of-p.ensures.len, c.share_of-q.ensures.place, c.share_of-q.ensures.len)
      at (c.in_ok-same_share.ensures.answer x xs y ys) in
      let differs = apart_by s id v w one other (texts s p x id one) (texts s q y id other) a b c.requires.size n inside
      c.in_ok-same_share.field-0 is in
      let found = c.loop-lnum.invariant.have x first y second h k v w at bt in
      elim c.if-not-branch.branch [
        | then-not-branch+else-found+in_ok-add-2 u ↦
            subst (λ (r : Ranges). HaveFound s id v w r (n + 1)) (sym u.ranges-is)
            (one_apart s id v w one other (texts s p x id one) (texts s q y id other) a b c.requires.size c.loop-lnum.ranges
            u.add-then-not-branch.new.self n
            (differs ∙ ap not u.if-not-branch.true) found u.in_ok-add-2.ensures)
        | else-not-branch u ↦
            subst (λ (r : Ranges). HaveFound s id v w r (n + 1)) (sym u.ranges-is)
            (one_same s id v w one other (texts s p x id one) (texts s q y id other) a b c.requires.size c.loop-lnum.ranges n
            (differs ∙ ap not u.if-not-branch.false) found)
      ];
}

pub returns-clause-told : goal.returns-clause-told
returns-clause-told g c = λ x xs y ys h k v w at bt.
    let s = c.args.geometry.now in
    let id = c.args.id in
    let p = c.args.here.survey.now in
    let q = c.args.there.survey.now in
    let one = c.args.one in
    let other = c.args.other in
    let a = side_lebs s _ _ id c.args.here c.requires.here one c.requires.one x
    (c.loop-lnum.invariant.left_narrows x xs) h v at in
    let b = side_lebs s _ _ id c.args.there c.requires.there other c.requires.other y
    (c.loop-lnum.invariant.right_narrows y ys) k w bt in
    let last : c.loop-lnum.lnum ≡ min one.lebs other.lebs =
    (let end = c.loop-lnum.auto.lnum-end in let test = c.loop-lnum-test.false in let is = c.min-count.ensures in
    omega (arith, end, test, is)) in
    let all = all_told s id v w one other (texts s p x id one) (texts s q y id other) a b c.requires.size c.loop-lnum.ranges
    c.loop-lnum.lnum last (c.loop-lnum.invariant.have x xs y ys h k v w at bt) in
    subst (λ (ds : List Difference). Adds c.args.found.now c.extend.new.self ds)
    (c.as_slice.ensures.value ∙ c.in_ok-told.ensures ∙ all)
    (subst (λ (f : Found). Adds f c.extend.new.self c.as_slice.result.now) c.loop-lnum.invariant.found c.in_ok-extend.ensures)
