use Rattle.ubi_compose.proofs.Prelude.{ap, ◌∙◌}
use Rattle.ubi_volume.specs.declared.content.Content.TheVariants as content
use Rattle.ubi_compose.proofs.Changes.{dynamic_new, static_new}
use Rattle.ubi_compose.proofs.spec_text.empty_volume.Goals as goal
use Rattle.ubi_compose.proofs.spec_text.empty_volume.Goals.{in-Dynamic, in-Static}

pub returns : goal.returns
returns c =
    elim c.match-entry.branch [
      | in-Dynamic w ↦
          dynamic_new c.args.geometry.now c.args.entry c.match-entry.content w.in-Dynamic.is
          (w.content-is ∙ ap (λ l. content.Dynamic l) w.new.ensures)
      | in-Static w ↦ static_new c.args.geometry.now c.args.entry c.match-entry.content w.in-Static.is
          (w.content-is ∙ ap (λ t. content.Static t) (w.new-in-Static-2.ensures ∙ w.new-in-Static.ensures.items))
    ]
