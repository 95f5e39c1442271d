use Rattle.ubi_map.proofs.Prelude.{◌∙◌, ◌++◌, ◌∷◌, [], ℕ, List, ap, sym, arith, map, string_bytes, map-range_with_len_more, map-append, block, blocks_of, block_lines, block_texts}
use Rattle.ubi_map.proofs.blocks.block_texts.Goals as goal

pub loop-p-preserved : goal.loop-p-preserved
loop-p-preserved g c = record {
  known = c.in_ok-text.ensures.known ∙ c.loop-p.invariant.known;
  narrows = λ x xs. c.loop-p.invariant.narrows x (c.in_ok-text.ensures.narrows x xs);
  blocks = λ x xs.
      let s = c.args.geometry.now in
      let n = c.loop-p.p in
      let text = c.in_ok-text.text in
      let of : ℕ → List ℕ = λ p. block_lines s (block (blocks_of s x) p) in
      ap (map string_bytes) c.in-Ok.ensures.items ∙ map-append string_bytes c.loop-p.texts.items (text ∷ [])
      ∙ ap (λ (ds : List (List ℕ)). ds ++ string_bytes text ∷ [])
      (c.loop-p.invariant.blocks x (c.in_ok-text.ensures.narrows x xs))
      ∙ ap (λ (d : List ℕ). block_texts s (blocks_of s x) n ++ d ∷ []) (c.in_ok-text.ensures.lines x xs)
      ∙ sym (map-range_with_len_more of 0 n n (omega arith));
}
