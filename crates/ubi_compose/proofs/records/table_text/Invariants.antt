use Rattle.ubi_compose.proofs.Prelude.{◌≡◌, vec_items, range_with_len, rec_bytes, records_of}
use Rattle.std.specs.FinMap as finite
use Rattle.std.specs.List.{flat_map}
use Rattle.ubi_compose.proofs.records.table_text.Given as goal

-- the slots so far are there
abbrev pub invariant-loop-slot : goal.invariant-loop-slot
invariant-loop-slot l =
    vec_items l.text ≡ flat_map (λ slot. rec_bytes l.meaning.sizes (finite.get (records_of l.meaning).of slot))
    (range_with_len 0 l.slot)
