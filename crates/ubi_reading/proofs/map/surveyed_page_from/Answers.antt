use Rattle.ubi_reading.proofs.Prelude.{◌∙◌, List, ap, map, refuses, source_narrowed, string_bytes, ListedVolume, surveyed_data, page_of, by_cause, by_meaning}
use Rattle.ubi_reading.proofs.map.surveyed_page_from.Goals as goal

pub returns-in_ok-surveyed_page-in-Ok-clause-page : goal.returns-in_ok-surveyed_page-in-Ok-clause-page
returns-in_ok-surveyed_page-in-Ok-clause-page g c = λ bytes holds.
    let h = c.in-Ok.ensures.places.held bytes (c.in_ok-keep_volumes-in-Ok.ensures.narrows bytes holds) in
    let texts = map string_bytes c.args.texts.now in
    by_meaning h.meaning h.accepted
    (c.in_ok-surveyed_page-in-Ok.ensures
    ∙ ap (λ (vs : List ListedVolume). page_of (surveyed_data c.args.geometry.now texts c.args.surveyed.now vs))
    (c.as_slice-volumes.ensures.value ∙ c.in_ok-keep_volumes-in-Ok.ensures.volumes bytes holds h))

pub returns-in_ok-refused_page-in-Err-Refused-clause-page : goal.returns-in_ok-refused_page-in-Err-Refused-clause-page
returns-in_ok-refused_page-in-Err-Refused-clause-page g c = λ bytes holds.
    let known = g.S.BlockSource.known c.args.source.now in
    let agrees = g.S.BlockSource.agrees c.attach_places.new.source in
    by_cause c.in-Err-Refused.cause
    (refuses c.args.geometry.now known agrees bytes c.in-Err-Refused.cause
    (source_narrowed known _ agrees c.in-Err-Refused.ensures.narrows (g.met.S.BlockSource.sized c.args.source.now)) holds
    (rw c.in-Err-Refused.field-0-is at c.in-Err-Refused.ensures.refused))
    c.in_ok-refused_page-in-Err-Refused.ensures
