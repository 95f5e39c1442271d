-- The plan of an attached image, with no cause against it, programs the pages of an eraseblock in ascending order
-- between two erases.
use Rattle.ubi_change.proofs.Prelude.{eraseblocks, of_blocks, RisesBetweenErases, plan_of}
use Rattle.ubi_change.proofs.Attached.{no_cause}
use Rattle.ubi_change.proofs.HeadersKept.{plan_keeps}
use Rattle.ubi_change.proofs.PagesRise.{page_0_twice, pages_rise, plan_order}
use Rattle.ubi_change.proofs.Attached.{Changing}

module _ (change : Changing) where
  open change use {image, g, a, id, lnum, new, v}

  pub plan_rises : of_blocks RisesBetweenErases image (of_blocks plan_of image a v.entry id lnum new)
  plan_rises =
      let steps = of_blocks plan_of image a v.entry id lnum new in
      let order = plan_order image.sizes g (eraseblocks image) a v.entry id lnum new (no_cause change).enough in
      record {
        rises = pages_rise steps order;
        twice = page_0_twice steps order;
        keeps = plan_keeps change;
      }
