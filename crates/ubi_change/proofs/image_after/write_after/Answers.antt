use Rattle.ubi_change.proofs.Prelude.{◌≡◌, ◌/◌, ◌<◌, List, ℕ, refl, subst, ◌∙◌, arith, err_from_is_err_and, IsSource, Narrows, Source, blocks_in, source_narrowed, IsWroteError, Wrote, wrote_narrowed, block_text, front_text}
use Rattle.ubi_volume.specs.Wrote.{All}
use Rattle.ubi_change.proofs.WrittenAfter.{failed_at, wrote_first, wrote_last, wrote_next}
use Rattle.ubi_change.proofs.image_after.write_after.Goals as goal

pub loop-p-init : goal.loop-p-init
loop-p-init g c =
    let s = c.args.geometry.now in
    let known = g.S.BlockSource.known c.args.source.now in
    record {
      source = refl;
      narrows = λ bytes holds. holds;
      ready = c.requires.ready;
      same = refl;
      kept = record { size = refl; held = refl };
      contents = λ bytes held. held;
      wrote = λ bytes held. wrote_first s (blocks_in s known) (g.E.BlockSteps.plan c.args.steps.now bytes) known _ _;
      done = omega arith;
    }

pub loop-p-preserved : goal.loop-p-preserved
loop-p-preserved g c =
    let s = c.args.geometry.now in
    let known = g.S.BlockSource.known c.args.source.now in
    let agrees = g.S.BlockSource.agrees c.write_block.new.source in
    let p = c.loop-p.p in
    let inside : p < blocks_in s known = rw (c.len.ensures, c.from.ensures, c.peb_size.ensures.value) at c.loop-p-test.true in
    let plan = g.E.BlockSteps.plan c.args.steps.now in
    let before : (bytes : List ℕ) → g.E.BlockSteps.agrees c.write_block.new.steps bytes → Wrote agrees (g.W.Write.contents c.args.writer.now)
    (g.W.Write.contents c.loop-p.writer) (front_text s (blocks_in s known) p (plan bytes)) All 0 c.loop-p.done =
    λ bytes held. wrote_narrowed _ agrees c.in_ok-done.ensures.narrows _ _ _ All 0 c.loop-p.done
    (c.loop-p.invariant.wrote bytes (c.in_ok-done.ensures.contents bytes held)) in
    record {
      source = c.in_ok-done.ensures.known ∙ c.loop-p.invariant.source;
      narrows = λ bytes holds. c.loop-p.invariant.narrows bytes (c.in_ok-done.ensures.narrows bytes holds);
      ready = c.in_ok-done.ensures.ready;
      same = c.in_ok-done.ensures.same ∙ c.loop-p.invariant.same;
      kept = record {
        size = c.in_ok-done.ensures.kept.size ∙ c.loop-p.invariant.kept.size;
        held = c.in_ok-done.ensures.kept.held ∙ c.loop-p.invariant.kept.held;
      };
      contents = λ bytes held. c.loop-p.invariant.contents bytes (c.in_ok-done.ensures.contents bytes held);
      wrote = λ bytes held. wrote_next s (blocks_in s known) (plan bytes) known agrees p inside _ _ _ c.loop-p.done c.in_ok-done.done
          (before bytes held) (rw c.loop-p.invariant.same at (c.in_ok-done.ensures.written bytes held));
      done = omega (arith, c.in_ok-done.ensures.count, c.loop-p.invariant.done);
    }

pub returns-in_err-done-clause-failed : goal.returns-in_err-done-clause-failed
returns-in_err-done-clause-failed g c =
    let s = c.args.geometry.now in
    let known = g.S.BlockSource.known c.args.source.now in
    let agrees = g.S.BlockSource.agrees c.write_block.new.source in
    let p = c.loop-p.p in
    let e = c.in_err-done.field-0.0 in
    let from = err_from_is_err_and c.from_residual.result c.from_residual.ensures.1 in
    let inside : p < blocks_in s known = rw (c.len.ensures, c.from.ensures, c.peb_size.ensures.value) at c.loop-p-test.true in
    let narrows : Narrows (g.S.BlockSource.agrees c.args.source.now) agrees =
    λ bytes holds. c.loop-p.invariant.narrows bytes (c.in_err-done.ensures.narrows bytes holds) in
    let is : IsSource known agrees = source_narrowed known _ agrees narrows (g.met.S.BlockSource.sized c.args.source.now) in
    rw (from.1, from.2)
    (λ bytes held.
    let steps = g.E.BlockSteps.plan c.args.steps.now bytes in
    let before : Wrote agrees (g.W.Write.contents c.args.writer.now) (g.W.Write.contents c.loop-p.writer)
    (front_text s (blocks_in s known) p steps) All 0 c.loop-p.done =
    wrote_narrowed _ agrees c.in_err-done.ensures.narrows _ _ _ All 0 c.loop-p.done
    (c.loop-p.invariant.wrote bytes (c.in_err-done.ensures.contents bytes held)) in
    let failed : IsWroteError s known agrees (g.W.Write.contents c.loop-p.writer) (g.W.Write.contents c.write_block.new.writer)
    (block_text s p steps) c.loop-p.done e =
    subst (λ (k : Source). IsWroteError s k agrees (g.W.Write.contents c.loop-p.writer) (g.W.Write.contents c.write_block.new.writer)
    (block_text s p steps) c.loop-p.done e) c.loop-p.invariant.source (rw c.loop-p.invariant.same at (c.in_err-done.ensures.failed bytes held)) in
    failed_at s (blocks_in s known) steps known agrees is refl p inside _ _ _ c.loop-p.done e before failed)

pub returns-clause-written : goal.returns-clause-written
returns-clause-written g c bytes held =
    let s = c.args.geometry.now in
    let steps = g.E.BlockSteps.plan c.args.steps.now bytes in
    let known = g.S.BlockSource.known c.args.source.now in
    let agrees = g.S.BlockSource.agrees c.loop-p.source in
    let count : c.len.result / c.from.result ≡ blocks_in s known = rw (c.len.ensures, c.from.ensures, c.peb_size.ensures.value) refl in
    let all : c.loop-p.p ≡ blocks_in s known = omega (arith, count, c.loop-p.auto.p-end, c.loop-p-test.false) in
    let is : IsSource known agrees = source_narrowed known _ agrees c.loop-p.invariant.narrows (g.met.S.BlockSource.sized c.args.source.now) in
    wrote_last s (blocks_in s known) steps known agrees is refl _ _ c.loop-p.done (rw all at (c.loop-p.invariant.wrote bytes held))
