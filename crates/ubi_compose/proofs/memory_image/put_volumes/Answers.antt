use Rattle.ubi_compose.proofs.Prelude.{get_or, ap, ◌∙◌, listed_volume}
use Rattle.ubi_compose.proofs.memory_image.put_volumes.Goals as goal

pub put_volume-requires : goal.put_volume-requires
put_volume-requires c =
    let m = c.args.meaning.now in
    let item = c.numbered-item.result in
    let here = c.numbered-item.is
    ∙ ap (λ xs. get_or xs c.loop-numbered.numbered-index item) c.volumes-volumes.ensures.value in
    rw (c.geometry-geometry.ensures.value, here)
    (listed_volume m c.volumes-volumes.ensures.meaning c.loop-numbered.numbered-index item
    (rw c.volumes-volumes.ensures.value at c.loop-numbered-test.true))
