use Rattle.ubi_files.proofs.Prelude.{◌≡◌, map, take, one_block, with_ranges}
use Rattle.ubi_files.proofs.bad_blocks.mark_numbers.Given as goal

-- the eraseblocks with the first numbers are marked
abbrev pub invariant-loop-i : goal.invariant-loop-i
invariant-loop-i l = l.marks ≡ with_ranges l.fn.marks (map one_block (take l.i l.numbers))
