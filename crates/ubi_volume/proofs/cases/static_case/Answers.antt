use Rattle.ubi_volume.proofs.Prelude.{◌≡◌, ◌∙◌, ℕ, refl, sym, subst, arith, below_more, IsSome, Option, usable_some, image_of, blocks_of, PieceSizeIs, SizeIsRead, TextLebs}
use Rattle.ubi_volume.proofs.CaseSizes.{damaged_case, no_piece, size_more, size_none, static_case}
use Rattle.ubi_volume.proofs.AcceptedOrRefused.{are_lebs}
use Rattle.ubi_volume.proofs.Static.{damaged_piece}
use Rattle.ubi_volume.proofs.cases.static_case.Goals as goal

pub returns-in_default-clause-case : goal.returns-in_default-clause-case
returns-in_default-clause-case g c = λ bytes holds.
    let s = c.args.geometry.now in
    let bs = blocks_of s bytes in
    damaged_case s bs c.args.id c.args.entry.now c.requires.unmarked c.requires.kind
    (subst (TextLebs s bs c.args.id c.args.entry.now) c.in_default.is (c.in_ok-used.ensures.lebs bytes holds))

pub loop-lnum-init : goal.loop-lnum-init
loop-lnum-init g c = record {
  source = c.in_ok-used.ensures.known;
  narrows = c.in_ok-used.ensures.narrows;
  lebs = λ bytes holds.
      subst (TextLebs c.args.geometry.now (blocks_of c.args.geometry.now bytes) c.args.id c.args.entry.now) c.in-Some.is
      (c.in_ok-used.ensures.lebs bytes holds);
  small = omega arith;
  won = λ k below. absurd (omega arith);
  read = λ bytes holds. size_none c.args.geometry.now (blocks_of c.args.geometry.now bytes) c.args.id c.in-Some.used;
}

pub returns-in-None-clause-case : goal.returns-in-None-clause-case
returns-in-None-clause-case g c = λ bytes holds.
    let s = c.args.geometry.now in
    let bs = blocks_of s bytes in
    let used = c.in-Some.used in
    let before = c.in_ok-size.ensures.narrows bytes holds in
    let none = subst (PieceSizeIs s bs c.args.id used c.loop-lnum.lnum) c.in-None.is (c.in_ok-size.ensures.piece bytes holds) in
    damaged_case s bs c.args.id c.args.entry.now c.requires.unmarked c.requires.kind
    (damaged_piece s bs (c.requires.scan.held bytes (c.loop-lnum.invariant.narrows bytes before)).clean c.args.id
    used (c.loop-lnum.invariant.lebs bytes before).0 c.args.entry.now c.loop-lnum.lnum c.loop-lnum-test.true
    (no_piece s bs c.args.id used c.loop-lnum.lnum none))

pub loop-lnum-preserved : goal.loop-lnum-preserved
loop-lnum-preserved g c = record {
  source = c.in_ok-size.ensures.known ∙ c.loop-lnum.invariant.source;
  narrows = λ bytes holds. c.loop-lnum.invariant.narrows bytes (c.in_ok-size.ensures.narrows bytes holds);
  lebs = λ bytes holds. c.loop-lnum.invariant.lebs bytes (c.in_ok-size.ensures.narrows bytes holds);
  small = (let small = c.loop-lnum.invariant.small in let wide = c.from-bytes.ensures in omega (arith, small, wide));
  won = below_more _ _ c.loop-lnum.invariant.won
      (c.in_ok-size.ensures.won (subst (λ (o : Option ℕ). IsSome o) (sym c.in-Some-2.is) refl));
  read = λ bytes holds.
      let s = c.args.geometry.now in
      let bs = blocks_of s bytes in
      let used = c.in-Some.used in
      let before = c.in_ok-size.ensures.narrows bytes holds in
      let some = subst (PieceSizeIs s bs c.args.id used c.loop-lnum.lnum) c.in-Some-2.is
      (c.in_ok-size.ensures.piece bytes holds) in
      rw c.from-bytes.ensures
      (size_more s bs c.args.id used c.loop-lnum.lnum c.loop-lnum.bytes c.in-Some-2.size
      (c.loop-lnum.invariant.read bytes before) some);
}

pub returns-clause-case : goal.returns-clause-case
returns-clause-case g c = λ bytes holds.
    let s = c.args.geometry.now in
    let bs = blocks_of s bytes in
    let used = c.in-Some.used in
    let first = c.loop-lnum.invariant.narrows bytes holds in
    let scan = c.requires.scan.held bytes first in
    let lebs = c.loop-lnum.invariant.lebs bytes holds in
    let last : c.loop-lnum.lnum ≡ used = omega arith in
    static_case s bs c.args.id c.args.entry.now scan.clean (are_lebs (image_of s bytes)) c.args.table.now
    (c.requires.alike bytes first) c.requires.recorded c.requires.unmarked c.requires.kind
    (usable_some s c.args.entry.now c.requires.sound) used c.loop-lnum.bytes
    (subst (λ n. SizeIsRead s bs c.args.id used n c.loop-lnum.bytes) last (c.loop-lnum.invariant.read bytes holds)) lebs.1
    lebs.2
