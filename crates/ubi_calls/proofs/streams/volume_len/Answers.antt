use Rattle.ubi_calls.proofs.Prelude.{ap, sym, ◌∙◌, extent_len}
use Rattle.ubi_calls.proofs.Wanted.{volume_counted}
use Rattle.ubi_calls.proofs.streams.volume_len.Goals as goal

pub returns-in-Ok-extent : goal.returns-in-Ok-extent
returns-in-Ok-extent c =
    volume_counted c.args.geometry.now c.args.image.now c.new-source.result c.attach_places.new.source c.new-source.ensures
    c.attach_places.ensures.narrows c.args.id c.in-Ok.places c.in-Ok-extent.extent.bytes c.in-Ok.ensures.places
    (λ h. ap extent_len (sym c.in-Ok-extent.is) ∙ c.extent.ensures.meant _ h)
