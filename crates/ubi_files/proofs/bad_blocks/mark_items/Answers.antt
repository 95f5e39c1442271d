use Rattle.ubi_files.proofs.Prelude.{◌≡◌, ◌==◌, ◌∷◌, [], ◌∙◌, ap, sym, slice_split, filter_map, range_of, with_ranges}
use Rattle.ubi_files.proofs.Marked.{mark_next, with_no_ranges}
use Rattle.ubi_files.proofs.bad_blocks.mark_items.Goals as goal

pub returns-in_default : goal.returns-in_default
returns-in_default c =
    let last : slice_split (λ b. b == 44) c.items.rest.now ≡ c.cut.result.0.now ∷ [] = rw c.in_default.is at c.cut.ensures.pieces in
    c.mark_item.ensures
    ∙ sym (c.items.invariant ∙ mark_next c.items.marks c.items.rest.now c.cut.result.0.now [] last ∙ with_no_ranges _)

pub items-preserved : goal.items-preserved
items-preserved c =
    let behind = slice_split (λ b. b == 44) c.in-Some.behind.now in
    let cut : slice_split (λ b. b == 44) c.items.rest.now ≡ c.cut.result.0.now ∷ behind = rw c.in-Some.is at c.cut.ensures.pieces in
    c.items.invariant ∙ mark_next c.items.marks c.items.rest.now c.cut.result.0.now behind cut
    ∙ ap (λ marks. with_ranges marks (filter_map range_of behind)) (sym c.mark_item.ensures)
