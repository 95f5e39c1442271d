-- The plan of an attached image, with no cause against it, touches only what it needs, erases what is given up, and
-- counts each erase.
use Rattle.ubi_change.proofs.Prelude.{eraseblocks, of_blocks, IsFrugal, plan_of}
use Rattle.ubi_change.proofs.Attached.{no_cause}
use Rattle.ubi_change.proofs.CountsErases.{plan_counts}
use Rattle.ubi_change.proofs.GivenUp.{plan_gives_up}
use Rattle.ubi_change.proofs.Touched.{plan_touches}
use Rattle.ubi_change.proofs.Attached.{Changing}

module _ (change : Changing) where
  open change use {image, a, id, lnum, new, v}

  pub plan_frugal : of_blocks IsFrugal image a id lnum new (of_blocks plan_of image a v.entry id lnum new)
  plan_frugal = record {
    touches = plan_touches image.sizes (eraseblocks image) a v.entry id lnum new (no_cause change).enough;
    gives_up = plan_gives_up change;
    counts = plan_counts change;
  }
