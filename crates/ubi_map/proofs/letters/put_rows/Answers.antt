use Rattle.ubi_map.proofs.Prelude.{◌∙◌, ◌++◌, List, ℕ, ap, arith, sym, append_assoc, flat_map, range_with_len, row}
use Rattle.ubi_map.proofs.Ranges.{flat_more}
use Rattle.ubi_map.proofs.letters.put_rows.Goals as goal

pub loop-k-preserved : goal.loop-k-preserved
loop-k-preserved c =
    let of = row c.args.letters.now in
    let n = c.loop-k.k in
    c.in_ok-put_row.ensures ∙ ap (λ (xs : List ℕ). xs ++ of n) c.loop-k.invariant
    ∙ append_assoc c.args.text.now.items (flat_map of (range_with_len 0 n)) (of n)
    ∙ ap (λ (xs : List ℕ). c.args.text.now.items ++ xs) (sym (flat_more of 0 n n (omega arith)))
