use Rattle.ubi_reading.proofs.Prelude.{◌∙◌}
use Rattle.ubi_reading.proofs.ListedLines.{listing_object}
use Rattle.ubi_reading.proofs.list.list_object.Goals as goal

pub returns-clause-text : goal.returns-clause-text
returns-clause-text g c = λ bytes holds h.
    listing_object c.args.geometry.now c.args.places.now bytes h _ _
    (c.as_slice.ensures.value ∙ c.in_ok-keep_volumes.ensures.volumes bytes holds h) c.in_ok-list_line.ensures.text
