use Rattle.ubi_compose.proofs.Prelude.{◌≡◌, ◌++◌, vec_items, range_with_len, share, laid_bytes, new_ec, static_block}
use Rattle.std.specs.List.{flat_map}
use Rattle.ubi_compose.proofs.memory_image.put_static.Given as goal

-- the eraseblocks so far are there
abbrev pub invariant-loop-lnum : goal.invariant-loop-lnum
invariant-loop-lnum l =
    vec_items l.image
    ≡ vec_items l.initial.image ++ flat_map
    (λ lnum. laid_bytes l.geometry (new_ec l.image_seq)
    (static_block l.data_pad l.vol_id l.used_ebs lnum (share l.size l.text lnum))) (range_with_len 0 l.lnum)
