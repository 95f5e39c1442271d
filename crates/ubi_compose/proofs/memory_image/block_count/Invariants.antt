use Rattle.ubi_compose.proofs.Prelude.{◌≡◌, ◌+◌, length, take, laid_blocks}
use Rattle.std.specs.FinMap as finite
use Rattle.ubi_compose.proofs.memory_image.block_count.Given as goal

-- those of the table and of the volumes so far
abbrev pub invariant-loop-numbered : goal.invariant-loop-numbered
invariant-loop-numbered l = l.count ≡ 2 + length
    (laid_blocks l.meaning.sizes (take l.numbered-index (finite.entries l.meaning.volumes)))
