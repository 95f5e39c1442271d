use Rattle.ubi_compare.proofs.Prelude.{◌≡◌, ◌∙◌, ◌≤◌, ℕ, ap, refl, sym, subst, arith, take, length, length-take-le, Some, leb_size, Source, survey_narrowed, IsSurveyOf, blocks_of, size_more, SizeIsRead}
use Rattle.ubi_compare.proofs.texts.length_from.Goals as goal

pub loop-lnum-init : goal.loop-lnum-init
loop-lnum-init g c = record {
  known = refl;
  narrows = λ x xs. xs;
  small = c.requires.small;
  few = c.requires.inside;
  read = λ x xs read. read;
}

pub text_piece_from-requires-clause-survey : goal.text_piece_from-requires-clause-survey
text_piece_from-requires-clause-survey g c =
    let agrees = g.S.BlockSource.agrees c.loop-lnum.source in
    subst (λ (k : Source). IsSurveyOf c.args.geometry.now k agrees c.args.survey.now) (sym c.loop-lnum.invariant.known)
    (survey_narrowed c.args.geometry.now _ _ agrees c.args.survey.now c.loop-lnum.invariant.narrows c.requires.survey)

pub loop-lnum-preserved : goal.loop-lnum-preserved
loop-lnum-preserved g c = record {
  known = c.in_ok-size.ensures.known ∙ c.loop-lnum.invariant.known;
  narrows = λ x xs. c.loop-lnum.invariant.narrows x (c.in_ok-size.ensures.narrows x xs);
  small = (let small = c.loop-lnum.invariant.small in let wide = c.from-bytes.ensures in omega (arith, small, wide));
  few = omega arith;
  read = λ x xs read.
      let s = c.args.geometry.now in
      let n = c.in-Some.size in
      let text = take n c.text_piece_from.new.buffer in
      let fits : n ≤ leb_size s = rw c.in-Some.is at c.in_ok-size.ensures.fits in
      let inside : n ≤ length c.text_piece_from.new.buffer = omega (arith, fits) in
      let held = rw c.in-Some.is at (c.in_ok-size.ensures.held x xs) in
      rw c.from-bytes.ensures
      (size_more s (blocks_of s x) c.args.id c.args.used c.loop-lnum.lnum c.loop-lnum.bytes n
      (c.loop-lnum.invariant.read x (c.in_ok-size.ensures.narrows x xs) read)
      (Some text, held, ap Some (sym (length-take-le n c.text_piece_from.new.buffer inside))));
}

pub returns-clause-read : goal.returns-clause-read
returns-clause-read g c = λ x xs read.
    let last : c.loop-lnum.lnum ≡ c.args.used =
    (let end = c.loop-lnum.invariant.few in let test = c.loop-lnum-test.false in omega (arith, end, test)) in
    subst (λ (n : ℕ). SizeIsRead c.args.geometry.now (blocks_of c.args.geometry.now x) c.args.id c.args.used n c.loop-lnum.bytes)
    last (c.loop-lnum.invariant.read x xs read)
