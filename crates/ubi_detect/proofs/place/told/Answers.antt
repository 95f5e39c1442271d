use Rattle.ubi_detect.proofs.Prelude.{◌≡◌, ◌∙◌, ◌-◌, ◌%◌, ap, length, map, start_of_image, sym, told_by, told_ways}
use Rattle.ubi_detect.proofs.place.told.Goals as goal

pub returns-clause-told : goal.returns-clause-told
returns-clause-told g c = λ bytes holds.
    let f = c.args.group.now in
    let s = start_of_image f in
    let sized = (g.met.S.BlockSource.sized c.args.source.now).sized bytes (c.in_ok-ways.ensures.source.narrows bytes holds) in
    let len : c.len-len.result ≡ length bytes = c.len-len.ensures ∙ sym sized in
    let n = c.len-len.result in
    c.in_ok-placed.ensures
    ∙ ap (λ s. map (told_by s (n - (n - s) % f.size)) c.as_slice.result.now) c.start_of_image-start.ensures
    ∙ ap (map (told_by s (n - (n - s) % f.size))) (c.as_slice.ensures.value ∙ c.in_ok-ways.ensures.told bytes holds)
    ∙ ap (λ n. map (told_by s (n - (n - s) % f.size)) (told_ways bytes f)) len
