use Rattle.ubi_scan.proofs.Prelude.{◌∙◌, ◌≤◌, ◌+◌, Bool, true, false, ℕ, ap, sym, arith, cond, blocks_of, passes_over, sum_by-map-range_with_len_more, count_passed_over}
use Rattle.ubi_scan.proofs.passed_over.count_passed_over.Goals as goal

pub loop-p-preserved : goal.loop-p-preserved
loop-p-preserved g c =
    let s = c.args.geometry.now in
    let n = c.loop-p.p in
    let at_most : (is : Bool) → cond is 1 0 ≤ 1 = λ is. elim is as (λ b. cond b 1 0 ≤ 1) [ true ↦ omega arith | false ↦ omega arith ] in
    record {
      known = c.in_ok-ec.ensures.known ∙ c.loop-p.invariant.known;
      narrows = λ x xs. c.loop-p.invariant.narrows x (c.in_ok-ec.ensures.narrows x xs);
      few = omega (arith, c.counted-passed.ensures, at_most c.is_passed_over.result, c.loop-p.invariant.few);
      counted = λ x xs.
          let bs = blocks_of s x in
          let is = rw (c.in_ok-ec.ensures.ec x xs, c.in_ok-ec.ensures.vid x xs) at c.is_passed_over.ensures in
          c.counted-passed.ensures ∙ ap (λ (k : ℕ). k + cond c.is_passed_over.result 1 0)
          (c.loop-p.invariant.counted x (c.in_ok-ec.ensures.narrows x xs))
          ∙ ap (λ (b : Bool). count_passed_over s bs n + cond b 1 0) is
          ∙ sym (sum_by-map-range_with_len_more (λ (b : Bool). cond b 1 0) (passes_over s bs) 0 n n (omega arith));
    }
