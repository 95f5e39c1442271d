use Rattle.ubi_files.proofs.Prelude.{◌≡◌, ◌==◌, length, list_all, slice_split, range_of, is_some}
use Rattle.ubi_files.proofs.bad_blocks.are_ranges.Given as goal

abbrev pub invariant-items : goal.invariant-items
invariant-items l =
    list_all (λ item. is_some (range_of item)) (slice_split (λ b. b == 44) l.fn.items)
    ≡ list_all (λ item. is_some (range_of item)) (slice_split (λ b. b == 44) l.rest)

abbrev pub decreases-items : goal.decreases-items
decreases-items l = length l.rest
