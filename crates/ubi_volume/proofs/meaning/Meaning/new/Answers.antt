use Rattle.ubi_volume.proofs.Prelude.{ap, ◌∙◌, subst, Items, NoCause, Meant, VolumeMap}
use Rattle.ubi_volume.proofs.Arranged.{arranged_same, arranged_volumes}
use Rattle.ubi_volume.proofs.meaning.Meaning.new.Goals as goal

pub of-requires : goal.of-requires
of-requires c =
    let none = subst (λ (items : Items). NoCause c.args.geometry.now items) c.as_slice.ensures.value
    c.in-None.ensures in
    arranged_volumes c.args.geometry.now c.args.volumes.items none c.arranged.result.items
    c.arranged.ensures.permutation c.arranged.ensures.sorted c.args.image_seq c.ranges.image_seq.fits

pub returns-in-None-clause-made : goal.returns-in-None-clause-made
returns-in-None-clause-made c =
    let none = subst (λ (items : Items). NoCause c.args.geometry.now items) c.as_slice.ensures.value
    c.in-None.ensures in
    let as_meant : VolumeMap → Meant = λ volumes.
    record { sizes = c.args.geometry.now; image_seq = c.args.image_seq; volumes = volumes } in
    let same = arranged_same c.args.geometry.now c.args.volumes.items none c.arranged.result.items
    c.arranged.ensures.permutation c.arranged.ensures.sorted in
    (none, c.of.ensures ∙ ap as_meant same)
