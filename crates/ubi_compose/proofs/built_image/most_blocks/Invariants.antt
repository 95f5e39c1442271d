use Rattle.ubi_compose.proofs.Prelude.{◌≡◌, ◌+◌, take, sum_by, pieces_of}
use Rattle.ubi_compose.proofs.built_image.most_blocks.Given as goal

-- those of the table and of the parts so far
abbrev pub invariant-loop-part : goal.invariant-loop-part
invariant-loop-part l = l.count ≡ 2 + sum_by (pieces_of l.recipe.sizes) (take l.part-index l.recipe.of)
