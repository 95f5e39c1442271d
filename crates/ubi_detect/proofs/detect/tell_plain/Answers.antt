use Rattle.ubi_detect.proofs.Prelude.{inl}
use Rattle.ubi_detect.proofs.DetectedParts.{some_first}
use Rattle.ubi_detect.proofs.detect.tell_plain.Goals as goal

pub returns-clause-images : goal.returns-clause-images
returns-clause-images g c = λ bytes holds.
    let first = some_first c.in_ok-geometries.geometries.items c.in_ok-geometries.ensures.some in (
      first.0,
      first.1,
      first.2,
      (c.args.group.now, inl (c.requires.plain bytes (c.in_ok-geometries.ensures.source.narrows bytes holds), c.one-images.ensures)),
    )
