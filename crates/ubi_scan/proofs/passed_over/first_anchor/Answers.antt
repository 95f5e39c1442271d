use Rattle.ubi_scan.proofs.Prelude.{◌∙◌, sym, below_more}
use Rattle.ubi_scan.proofs.passed_over.first_anchor.Goals as goal

pub loop-p-preserved : goal.loop-p-preserved
loop-p-preserved g c = record {
  known = c.in_ok-ec.ensures.known ∙ c.loop-p.invariant.known;
  narrows = λ x xs. c.loop-p.invariant.narrows x (c.in_ok-ec.ensures.narrows x xs);
  none = λ x xs.
      let is = rw (c.in_ok-ec.ensures.ec x xs, c.in_ok-ec.ensures.vid x xs) at c.if-is_anchor.ensures in
      below_more _ _ (c.loop-p.invariant.none x (c.in_ok-ec.ensures.narrows x xs)) (sym is);
}
