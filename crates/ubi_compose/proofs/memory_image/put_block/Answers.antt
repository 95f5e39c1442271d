use Rattle.ubi_compose.proofs.Prelude.{refl, ◌∙◌, on_ok_weaker, ec_bytes, vid_bytes, new_ec}
use Rattle.ubi_compose.proofs.LaidPieces.{laid-pieces}
use Rattle.ubi_compose.proofs.memory_image.put_block.Goals as goal

pub returns : goal.returns
returns c =
    on_ok_weaker c.put_blank-3.result
    (λ e. e ∙ rw (
      c.in_ok-extend_from_slice-3.ensures.items,
      c.in_ok-put_blank-2.ensures,
      c.in_ok-extend_from_slice-2.ensures.items,
      c.in_ok-put_blank.ensures,
      c.in_ok-extend_from_slice.ensures.items,
      c.write_ec.ensures.bytes,
      c.new_ec.ensures,
      c.write_vid.ensures.bytes,
      c.leb_size.ensures.value,
      c.data_offset.ensures.value,
      c.vid_offset-2.ensures.value,
      c.vid_offset.ensures.value,
    )
    (laid-pieces c.args.geometry.now c.vid_offset.ensures.limits (ec_bytes c.args.geometry.now (new_ec c.args.image_seq))
    (vid_bytes c.args.header.now) c.args.text.now refl refl c.args.image.now.items))
    c.put_blank-3.ensures
