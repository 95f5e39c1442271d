use Rattle.ubi_map.proofs.Prelude.{◌∙◌, ◌++◌, ℕ, List, ap, sym, arith, block, ec, vid, blocks_of, header_letter, header_letters}
use Rattle.ubi_map.proofs.Ranges.{flat_more}
use Rattle.ubi_map.proofs.blocks.header_letters.Goals as goal

pub loop-p-preserved : goal.loop-p-preserved
loop-p-preserved g c = record {
  known = c.in_ok-ec.ensures.known ∙ c.loop-p.invariant.known;
  narrows = λ x xs. c.loop-p.invariant.narrows x (c.in_ok-ec.ensures.narrows x xs);
  letters = λ x xs.
      let s = c.args.geometry.now in
      let bs = blocks_of s x in
      let of : ℕ → List ℕ = λ p. header_letter (ec s (block bs p)) (vid s (block bs p)) in
      let n = c.loop-p.p in
      let letter = rw (c.in_ok-ec.ensures.ec x xs, c.in_ok-ec.ensures.vid x xs) at c.header_letter.ensures in
      c.in_ok-push_str.ensures.bytes ∙ ap (λ (t : List ℕ). t ++ c.header_letter.result.now)
      (c.loop-p.invariant.letters x (c.in_ok-ec.ensures.narrows x xs))
      ∙ ap (λ (t : List ℕ). header_letters s bs n ++ t) letter ∙ sym (flat_more of 0 n n (omega arith));
}
