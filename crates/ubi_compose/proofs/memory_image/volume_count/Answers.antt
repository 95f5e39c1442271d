use Rattle.ubi_compose.proofs.Prelude.{ap, ◌∙◌, length, pieces}
use Rattle.ubi_compose.proofs.Fitting.{text_few}
use Rattle.ubi_compose.proofs.Puts.{static_count}
use Rattle.ubi_compose.proofs.memory_image.volume_count.Goals as goal

pub pieces-requires-clause-few : goal.pieces-requires-clause-few
pieces-requires-clause-few c =
    rw (c.as_slice.ensures, c.usable.ensures.value)
    (text_few c.args.geometry.now c.args.numbered.now.0 c.args.numbered.now.1 c.requires c.in-Static.text
    c.in-Static.is)

pub returns-in-Static : goal.returns-in-Static
returns-in-Static c =
    c.pieces.ensures ∙ ap (λ t. pieces c.usable.result (length t)) c.as_slice.ensures
    ∙ ap (λ n. pieces n (length c.in-Static.text)) c.usable.ensures.value
    ∙ static_count c.args.geometry.now c.args.numbered.now.0 c.args.numbered.now.1.entry c.args.numbered.now.1.content
    c.in-Static.text c.in-Static.is
