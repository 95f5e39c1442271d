use Rattle.ubi_compare.proofs.Prelude.{◌≡◌, ◌∙◌, ℕ, refl, sym, subst, arith, Source, survey_narrowed, IsSurveyOf, Ranges, AreReadTexts}
use Rattle.ubi_compare.proofs.TextsRead.{Follows, follows_apart, follows_same, more_texts, no_texts}
use Rattle.ubi_compare.proofs.texts.texts_beside.Goals.{then-not-pieces+in_ok-add_asked, else-not-pieces}
use Rattle.ubi_compare.proofs.texts.texts_beside.Goals as goal

pub loop-lnum-init : goal.loop-lnum-init
loop-lnum-init g c = record {
  left = refl;
  right = refl;
  left_narrows = λ x xs. xs;
  right_narrows = λ y ys. ys;
  small = omega arith;
  few = omega arith;
  read = λ x xs y ys.
      no_texts c.args.is_brief c.args.geometry.now c.args.id c.args.lebs c.args.here.survey.now c.args.there.survey.now x y
      c.new-ranges.result c.new-ranges.ensures.id c.new-ranges.ensures.told c.new-ranges.ensures.begun;
}

pub pieces_beside-requires-clause-here : goal.pieces_beside-requires-clause-here
pieces_beside-requires-clause-here g c =
    let agrees = g.L.BlockSource.agrees c.loop-lnum.left in
    subst (λ (k : Source). IsSurveyOf c.args.geometry.now k agrees c.args.here.survey.now) (sym c.loop-lnum.invariant.left)
    (survey_narrowed c.args.geometry.now _ _ agrees c.args.here.survey.now c.loop-lnum.invariant.left_narrows
    c.requires.here.survey)

pub pieces_beside-requires-clause-there : goal.pieces_beside-requires-clause-there
pieces_beside-requires-clause-there g c =
    let agrees = g.R.BlockSource.agrees c.loop-lnum.right in
    subst (λ (k : Source). IsSurveyOf c.args.geometry.now k agrees c.args.there.survey.now) (sym c.loop-lnum.invariant.right)
    (survey_narrowed c.args.geometry.now _ _ agrees c.args.there.survey.now c.loop-lnum.invariant.right_narrows
    c.requires.there.survey)

pub loop-lnum-preserved : goal.loop-lnum-preserved
loop-lnum-preserved g c = record {
  left = c.in_ok-pieces.ensures.left ∙ c.loop-lnum.invariant.left;
  right = c.in_ok-pieces.ensures.right ∙ c.loop-lnum.invariant.right;
  left_narrows = λ x xs. c.loop-lnum.invariant.left_narrows x (c.in_ok-pieces.ensures.left_narrows x xs);
  right_narrows = λ y ys. c.loop-lnum.invariant.right_narrows y (c.in_ok-pieces.ensures.right_narrows y ys);
  small = (let small = c.loop-lnum.invariant.small in let wide = c.from-bytes.ensures in omega (arith, small, wide));
  few = (let few = c.loop-lnum.invariant.few in let wide = c.from-others.ensures in omega (arith, few, wide));
  read = λ x xs y ys.
      let here = c.requires.here in
      let there = c.requires.there in
      let pieces = c.in-Some.pieces in
      let n = c.loop-lnum.lnum in
      let old = c.loop-lnum.ranges in
      let read = rw c.in-Some.is at c.in_ok-pieces.ensures.read in
      let before = c.loop-lnum.invariant.read x (c.in_ok-pieces.ensures.left_narrows x xs) y
      (c.in_ok-pieces.ensures.right_narrows y ys) in
      let brief = c.args.is_brief in
      let follows : Follows brief pieces.is_same n old c.if-not-pieces.ranges = elim c.if-not-pieces.branch [
        | then-not-pieces+in_ok-add_asked u ↦
            subst (λ (r : Ranges). Follows brief pieces.is_same n old r) (sym u.ranges-is)
            (follows_apart brief pieces.is_same n old u.add_asked.new.ranges u.if-not-pieces.true u.in_ok-add_asked.ensures)
        | else-not-pieces u ↦
            follows_same brief pieces.is_same n old c.if-not-pieces.ranges u.if-not-pieces.false u.ranges-is
      ] in
      rw (c.from-bytes.ensures, c.from-others.ensures)
      (more_texts brief c.args.geometry.now c.args.id c.args.lebs c.args.here.survey.now c.args.there.survey.now x y
      c.args.here.entry.now c.args.there.entry.now here.recorded there.recorded here.sound there.sound c.requires.size n
      (let test = c.loop-lnum-test.true in let count = c.requires.count.0 in omega (arith, test, count))
      (let test = c.loop-lnum-test.true in let count = c.requires.count.1 in omega (arith, test, count))
      (record { left = c.loop-lnum.bytes; right = c.loop-lnum.others; ranges = old }) before pieces
      (read x xs y ys) c.if-not-pieces.ranges follows);
}

pub returns-clause-read : goal.returns-clause-read
returns-clause-read g c = λ x xs y ys.
    let last : c.loop-lnum.lnum ≡ c.args.count =
    (let end = c.loop-lnum.auto.lnum-end in let test = c.loop-lnum-test.false in omega (arith, end, test)) in
    subst (λ (n : ℕ). AreReadTexts c.args.is_brief c.args.geometry.now c.args.id c.args.lebs n c.args.here.survey.now
    c.args.there.survey.now x y (record { left = c.loop-lnum.bytes; right = c.loop-lnum.others; ranges = c.loop-lnum.ranges }))
    last (c.loop-lnum.invariant.read x xs y ys)
