use Rattle.ubi_compose.proofs.Prelude.{refl, ◌∙◌, arith, on_ok_weaker}
use Rattle.ubi_compose.proofs.Table.{table_fits}
use Rattle.ubi_compose.proofs.memory_image.put_table.Goals as goal

pub put_block-requires : goal.put_block-requires
put_block-requires c =
    let m = c.args.meaning.now in
    let fits = table_fits m c.geometry-geometry.ensures.meaning c.geometry-geometry.ensures.limits in
    rw (c.as_slice.ensures.value, c.in_ok-text.ensures, c.geometry-geometry.ensures.value) (omega arith)

pub put_block-requires-2 : goal.put_block-requires-2
put_block-requires-2 c =
    let m = c.args.meaning.now in
    let fits = table_fits m c.geometry-geometry.ensures.meaning c.geometry-geometry.ensures.limits in
    rw (c.as_slice-2.ensures.value, c.in_ok-text.ensures, c.geometry-geometry.ensures.value) (omega arith)

pub returns : goal.returns
returns c =
    on_ok_weaker c.put_block-2.result
    (λ e. e ∙ rw (
      c.in_ok-put_block.ensures,
      c.as_slice-2.ensures.value,
      c.as_slice.ensures.value,
      c.in_ok-text.ensures,
      c.copy_header-zero.ensures,
      c.copy_header-one.ensures,
      c.geometry-geometry.ensures.value,
      c.image_seq-image_seq.ensures.value,
    ) refl)
    c.put_block-2.ensures
