use Rattle.ubi_compose.proofs.Prelude.{◌≡◌, ℕ, ◌++◌, zero-add, ap, sym, ◌∙◌, range_with_len, option_copied, option_map, rec_bytes, pieces_more, part_at, Part}
use Rattle.std.specs.List.{flat_map}
use Rattle.ubi_compose.proofs.records.recipe_text.Goals as goal

pub loop-slot-preserved : goal.loop-slot-preserved
loop-slot-preserved c =
    let ps = c.args.recipe.now in
    let slot = c.loop-slot.slot in
    let f = λ (n : ℕ). rec_bytes ps.sizes (option_map (λ (p : Part). p.entry) (part_at ps n)) in
    let here : c.write_rec.result ≡ f slot =
    c.write_rec.ensures.bytes ∙ ap (λ s. rec_bytes s (option_copied c.built_entry.result))
    c.geometry-geometry.ensures.value ∙ ap (rec_bytes ps.sizes) c.built_entry.ensures.entry in
    c.in_ok-extend_from_slice.ensures.items ∙ ap (λ x. x ++ c.write_rec.result) c.loop-slot.invariant
    ∙ ap (λ x. flat_map f (range_with_len 0 slot) ++ x) here ∙ sym (pieces_more f 0 slot slot (zero-add slot))
