use Rattle.ubi_compose.proofs.Prelude.{◌≡◌, vec_items, range_with_len, option_map, rec_bytes, part_at, Part}
use Rattle.std.specs.List.{flat_map}
use Rattle.ubi_compose.proofs.records.recipe_text.Given as goal

-- the slots so far are there
abbrev pub invariant-loop-slot : goal.invariant-loop-slot
invariant-loop-slot l =
    vec_items l.text ≡ flat_map (λ slot. rec_bytes l.recipe.sizes
    (option_map (λ (p : Part). p.entry) (part_at l.recipe slot)))
    (range_with_len 0 l.slot)
