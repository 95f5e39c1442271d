use Rattle.ubi_compose.proofs.Prelude.{◌≡◌, ◌++◌, replicate, vec_items, spare}
use Rattle.std.specs.List.{flat_map}
use Rattle.ubi_compose.proofs.memory_image.put_spares.Given as goal

-- those so far are there
abbrev pub invariant-loop : goal.invariant-loop
invariant-loop l = vec_items l.image ≡ vec_items l.initial.image
    ++ flat_map (λ b. b) (replicate l.counter (spare l.geometry l.image_seq))
