use Rattle.ubi_files.proofs.Prelude.{◌≡◌, ◌==◌, length, slice_split, range_of, with_ranges}
use Rattle.std.proofs.Common.{filter_map}
use Rattle.ubi_files.proofs.bad_blocks.mark_items.Given as goal

-- what the items left mark yet
abbrev pub invariant-items : goal.invariant-items
invariant-items l =
    with_ranges l.fn.marks (filter_map range_of (slice_split (λ b. b == 44) l.fn.items))
    ≡ with_ranges l.marks (filter_map range_of (slice_split (λ b. b == 44) l.rest))

abbrev pub decreases-items : goal.decreases-items
decreases-items l = length l.rest
