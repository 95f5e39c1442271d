use Rattle.ubi_table.proofs.Prelude.{◌≡◌, ℕ, ◌<◌, List, Sizes, block, ec, IsScan}
use Rattle.ubi_media.specs.declared.ec.EcRead.TheVariants as ec_read
use Rattle.ubi_table.proofs.choice.is_erased.Given as goal

abbrev pub invariant-loop-p : goal.invariant-loop-p
invariant-loop-p l = (s : Sizes) (bs : List (List ℕ)) → IsScan s bs l.scan → (q : ℕ) → q < l.p
    → ec s (block bs q) ≡ ec_read.Blank
