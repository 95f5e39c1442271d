use Rattle.ubi_detect.proofs.Prelude.{◌≡◌, ◌∙◌, ap, length, sym, are_apart, spans_of}
use Rattle.ubi_detect.proofs.images.images_among.Goals as goal

pub returns-clause-images : goal.returns-clause-images
returns-clause-images g c = λ bytes holds.
    let among = c.args.among.now in
    let f = among.group.now in
    let images = c.in_ok-groups.ensures.images bytes holds in
    let before = c.in_ok-groups.ensures.source.narrows bytes holds in
    let sized = (g.met.S.BlockSource.sized c.args.source.now).sized bytes before in
    let len : c.len-len.result ≡ length bytes = c.len-len.ensures ∙ sym sized in
    record {
      groups = among.groups.now;
      all = c.requires.groups bytes before;
      spans = c.in_ok-spans.ensures ∙ ap (λ n. spans_of n c.as_slice.result.now) len ∙ ap (spans_of (length bytes)) (c.as_slice.ensures.value ∙ images);
      apart = c.are_apart-are_apart.ensures ∙ ap (are_apart f) (c.as_slice-2.ensures.value ∙ images);
    }
