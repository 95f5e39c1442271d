use Rattle.ubi_compose.proofs.Prelude.{◌+◌, get_or, length, ap, ◌∙◌, arith, listed_volume, volume_blocks}
use Rattle.std.specs.FinMap as finite
use Rattle.ubi_compose.proofs.Puts.{count_more}
use Rattle.ubi_compose.proofs.Room.{first_fit}
use Rattle.ubi_compose.proofs.memory_image.block_count.Goals as goal

pub volume_count-count-requires : goal.volume_count-count-requires
volume_count-count-requires c =
    let m = c.args.meaning.now in
    let item = c.numbered-item.result in
    let here = c.numbered-item.is
    ∙ ap (λ xs. get_or xs c.loop-numbered.numbered-index item) c.volumes-numbered-items.ensures.value in
    rw (c.geometry-geometry.ensures.value, here)
    (listed_volume m c.volumes-numbered-items.ensures.meaning c.loop-numbered.numbered-index item
    (rw c.volumes-numbered-items.ensures.value at c.loop-numbered-test.true))

pub overflow_add-count : goal.overflow_add-count
overflow_add-count c =
    let m = c.args.meaning.now in
    let item = c.numbered-item.result in
    let i = c.loop-numbered.numbered-index in
    let more =
    count_more m.sizes (finite.entries m.volumes) i item c.loop-numbered.count c.volume_count-count.result
    (rw c.volumes-numbered-items.ensures.value at c.loop-numbered-test.true)
    (c.numbered-item.is ∙ ap (λ xs. get_or xs i item) c.volumes-numbered-items.ensures.value)
    (c.volume_count-count.ensures
    ∙ ap (λ s. length (volume_blocks s item.0 item.1.entry item.1.content)) c.geometry-geometry.ensures.value)
    c.loop-numbered.invariant in
    let few = first_fit m c.geometry-geometry.ensures.meaning (i + 1) in
    omega (arith, more, few, c.geometry-geometry.ensures.limits.pebs_to)

pub loop-numbered-preserved : goal.loop-numbered-preserved
loop-numbered-preserved c =
    let m = c.args.meaning.now in
    let item = c.numbered-item.result in
    let i = c.loop-numbered.numbered-index in
    count_more m.sizes (finite.entries m.volumes) i item c.loop-numbered.count c.volume_count-count.result
    (rw c.volumes-numbered-items.ensures.value at c.loop-numbered-test.true)
    (c.numbered-item.is ∙ ap (λ xs. get_or xs i item) c.volumes-numbered-items.ensures.value)
    (c.volume_count-count.ensures
    ∙ ap (λ s. length (volume_blocks s item.0 item.1.entry item.1.content)) c.geometry-geometry.ensures.value)
    c.loop-numbered.invariant
