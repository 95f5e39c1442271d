use Rattle.ubi_scan.proofs.Prelude.{◌≡◌, ◌<◌, inr, length, subst, sym, ◌∙◌, arith, Source, blocks_in, blocks_of, AreAtMost, Pass}
use Rattle.ubi_scan.proofs.Counters.{mean_fits}
use Rattle.ubi_scan.proofs.ReadParts.{count_blocks}
use Rattle.ubi_scan.proofs.SoFar.{SoFar-all, SoFar-fault, SoFar-more, SoFar-twin}
use Rattle.ubi_scan.proofs.WithinTaken.{Within-all, Within-more}
use Rattle.ubi_scan.proofs.scans.scan_blocks.Goals as goal

pub returns-in-Some-clause-refused : goal.returns-in-Some-clause-refused
returns-in-Some-clause-refused g c = inr (
  c.requires.whole,
  λ bytes holds.
      let s = c.args.geometry.now in
      let bs = blocks_of s bytes in
      let known : Source = g.S.BlockSource.known c.args.source.now in
      let before = c.in_ok-ec.ensures.narrows bytes holds in
      let first = c.loop-p.invariant.narrows bytes before in
      let count : length bs ≡ blocks_in s known = count_blocks s known (g.S.BlockSource.agrees c.args.source.now) bytes
      (g.met.S.BlockSource.sized c.args.source.now) first in
      let inside : c.loop-p.p < length bs = rw count (rw (← c.requires.count) c.loop-p-test.true) in
      let ec = c.in_ok-ec.ensures.ec bytes holds in
      let vid = c.in_ok-ec.ensures.vid bytes holds in
      SoFar-fault s bs c.loop-p.p inside c.loop-p.pass c.nominate.new.self c.in_ok-held.held c.in-Some.fault
      (c.loop-p.invariant.so_far bytes before) (rw (← ec, ← vid) c.in_ok-held.ensures.held)
      (rw (← ec, ← vid) c.in_ok-held.ensures.nominated)
      (rw (← ec, ← vid) (sym c.first_fault.ensures ∙ c.in-Some.is)),
)

pub returns-in-Some-2-clause-refused : goal.returns-in-Some-2-clause-refused
returns-in-Some-2-clause-refused g c = inr (
  c.requires.whole,
  λ bytes holds.
      let s = c.args.geometry.now in
      let bs = blocks_of s bytes in
      let known : Source = g.S.BlockSource.known c.args.source.now in
      let read = c.in_ok-met.ensures.narrows bytes holds in
      let before = c.in_ok-ec.ensures.narrows bytes read in
      let first = c.loop-p.invariant.narrows bytes before in
      let count : length bs ≡ blocks_in s known = count_blocks s known (g.S.BlockSource.agrees c.args.source.now) bytes
      (g.met.S.BlockSource.sized c.args.source.now) first in
      let inside : c.loop-p.p < length bs = rw count (rw (← c.requires.count) c.loop-p-test.true) in
      let ec = c.in_ok-ec.ensures.ec bytes read in
      let vid = c.in_ok-ec.ensures.vid bytes read in
      SoFar-twin s bs c.loop-p.p inside c.loop-p.pass c.nominate.new.self c.in_ok-held.held c.in_ok-met.met
      c.in-Some-2.earlier (c.loop-p.invariant.so_far bytes before) (rw (← ec, ← vid) c.in_ok-held.ensures.held)
      (rw (← ec, ← vid) c.in_ok-held.ensures.nominated)
      (rw (← ec, ← vid) (sym c.first_fault.ensures ∙ c.in-None.is))
      (rw (← ec, ← vid) (sym c.in_ok-add.ensures.twin ∙ c.in-Some-2.is)),
)

pub add-requires-clause-tops : goal.add-requires-clause-tops
add-requires-clause-tops g c = subst (λ (x : Pass). AreAtMost x.others x.counts.top_sqnum)
    (sym c.in_ok-held.ensures.nominated.rest) c.loop-p.invariant.within.tops

pub loop-p-preserved : goal.loop-p-preserved
loop-p-preserved g c =
    let s = c.args.geometry.now in
    let known : Source = g.S.BlockSource.known c.args.source.now in
    record {
      source = c.in_ok-met.ensures.known ∙ c.in_ok-ec.ensures.known ∙ c.loop-p.invariant.source;
      narrows = λ bytes holds. c.loop-p.invariant.narrows bytes
          (c.in_ok-ec.ensures.narrows bytes (c.in_ok-met.ensures.narrows bytes holds));
      within = Within-more c.loop-p.p c.loop-p.pass c.nominate.new.self c.add.new.self _ _ c.in_ok-met.met
          c.loop-p.invariant.within (c.in_ok-met.ensures.held ∙ c.in_ok-held.ensures.held) c.in_ok-held.ensures.nominated
          c.in_ok-add.ensures.taken;
      so_far = λ bytes holds.
          let bs = blocks_of s bytes in
          let read = c.in_ok-met.ensures.narrows bytes holds in
          let before = c.in_ok-ec.ensures.narrows bytes read in
          let first = c.loop-p.invariant.narrows bytes before in
          let count : length bs ≡ blocks_in s known = count_blocks s known (g.S.BlockSource.agrees c.args.source.now) bytes
          (g.met.S.BlockSource.sized c.args.source.now) first in
          let inside : c.loop-p.p < length bs = rw count (rw (← c.requires.count) c.loop-p-test.true) in
          let ec = c.in_ok-ec.ensures.ec bytes read in
          let vid = c.in_ok-ec.ensures.vid bytes read in
          SoFar-more s bs c.loop-p.p inside c.loop-p.pass c.nominate.new.self c.add.new.self c.in_ok-held.held
          c.in_ok-met.met (c.loop-p.invariant.so_far bytes before) (rw (← ec, ← vid) c.in_ok-held.ensures.held)
          (rw (← ec, ← vid) c.in_ok-held.ensures.nominated)
          (rw (← ec, ← vid) (sym c.first_fault.ensures ∙ c.in-None.is)) c.in_ok-met.ensures.held
          (rw (← ec, ← vid) (c.in_ok-met.ensures.good bytes holds))
          (rw (← ec, ← vid) (sym c.in_ok-add.ensures.twin ∙ c.in-None-2.is))
          (rw (← ec, ← vid) c.in_ok-add.ensures.taken);
    }

pub returns-clause-found : goal.returns-clause-found
returns-clause-found g c =
    let s = c.args.geometry.now in
    let known : Source = g.S.BlockSource.known c.args.source.now in
    let all : c.loop-p.p ≡ blocks_in s known = omega (
      arith,
      c.requires.count,
      c.loop-p.auto.p-end,
      c.loop-p-test.false,
    ) in
    record {
      whole = c.requires.whole;
      within = rw c.of.ensures (Within-all c.loop-p.p (blocks_in s known) c.loop-p.pass all c.loop-p.invariant.within);
      held = λ bytes holds.
          let bs = blocks_of s bytes in
          let count : length bs ≡ blocks_in s known = count_blocks s known (g.S.BlockSource.agrees c.args.source.now) bytes
          (g.met.S.BlockSource.sized c.args.source.now) (c.loop-p.invariant.narrows bytes holds) in
          rw c.of.ensures (SoFar-all s bs c.loop-p.p c.loop-p.pass (c.loop-p.invariant.so_far bytes holds)
          (omega arith));
    }

pub returns-clause-mean : goal.returns-clause-mean
returns-clause-mean g c =
    let counts = c.loop-p.pass.counts in
    rw c.of.ensures (mean_fits counts.counted counts.sum counts.small)
