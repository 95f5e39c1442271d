use Rattle.ubi_change.proofs.Prelude.{sym, ◌∙◌, subst, Err, ap, after_contents, AllByRecursion, Source, LiesIn, Part, Laying}
use Rattle.ubi_change.proofs.LayingRead.{all_layings_more, contents_known, contents_unread}
use Rattle.ubi_change.proofs.laying.layings_from.Goals as goal

pub returns-in-Err-clause-refused : goal.returns-in-Err-clause-refused
returns-in-Err-clause-refused g c =
    rw c.contents_error.ensures
    (contents_unread c.args.parts.now c.loop-i.i c.index-parts-i.result c.loop-i-test.true (sym c.index-parts-i.is)
    (g.T.BlockSource.failed_at c.add_part.new.contents) c.in-Err.error c.in-Err.ensures.refused)

pub returns-in-Err-clause-known : goal.returns-in-Err-clause-known
returns-in-Err-clause-known g c =
    rw c.contents_error.ensures
    (c.in-Err.ensures.known
    ∙ ap (λ (k : Source). after_contents {A = Unit {0}} k (Err c.in-Err.error)) c.loop-i.invariant.known
    ∙ sym (contents_known (g.T.BlockSource.known c.args.contents.now) c.loop-i.i c.in-Err.error))

pub loop-i-preserved : goal.loop-i-preserved
loop-i-preserved g c =
    let s = c.args.geometry.now in
    let ps = c.args.parts.now in
    let i = c.loop-i.i in
    let p : Part = c.index-parts-i.result in
    let added = c.in-Ok.ensures in
    let size = (g.T.BlockSource.known c.args.contents.now).size in
    record {
      known = added.known ∙ c.loop-i.invariant.known;
      narrows = λ bytes held. c.loop-i.invariant.narrows bytes (added.narrows bytes held);
      layings = λ bytes held. added.added bytes held
          ∙ all_layings_more s bytes ps i p c.loop-i-test.true (sym c.index-parts-i.is) c.loop-i.layings.items
          (c.loop-i.invariant.layings bytes (added.narrows bytes held));
      lie = subst (λ (k : Source). AllByRecursion (λ (x : Laying). LiesIn s k.size x.piece) c.add_part.new.layings.items)
          c.loop-i.invariant.known added.lie;
    }
