use Rattle.ubi_compose.proofs.Prelude.{ap, ◌∙◌, ◌++◌, on_ok_weaker}
use Rattle.ubi_compose.proofs.Fitting.{lebs_fit, text_few}
use Rattle.ubi_compose.proofs.Puts.{damaged_is}
use Rattle.ubi_compose.proofs.memory_image.put_volume.Goals as goal

pub put_static-requires-clause-few : goal.put_static-requires-clause-few
put_static-requires-clause-few c =
    rw (c.as_slice.ensures, c.usable-size.ensures.value)
    (text_few c.args.geometry.now c.args.numbered.now.0 c.args.numbered.now.1 c.requires c.in-Static.text
    c.in-Static.is)

pub put_dynamic-requires : goal.put_dynamic-requires
put_dynamic-requires c = lebs_fit c.args.geometry.now c.args.numbered.now.0 c.args.numbered.now.1 c.requires
    c.in-Dynamic.lebs c.in-Dynamic.is

pub returns-in-Damaged : goal.returns-in-Damaged
returns-in-Damaged c =
    on_ok_weaker c.put_block.result
    (λ e. e ∙ ap (λ x. c.args.image.now.items ++ x)
    (damaged_is c.args.geometry.now c.args.image_seq c.args.numbered.now.0 c.args.numbered.now.1.entry c.args.numbered.now.1.content
    _ _ c.data_pad-data_pad.ensures c.damaged_header-header.ensures c.in-Damaged.is))
    c.put_block.ensures
