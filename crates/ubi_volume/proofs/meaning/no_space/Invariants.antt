use Rattle.ubi_volume.proofs.Prelude.{◌≡◌, ◌+◌, take}
use Rattle.ubi_volume.proofs.MeaningCauses.{reserved_by}
use Rattle.ubi_volume.proofs.meaning.no_space.Given as goal

abbrev pub invariant-loop-item : goal.invariant-loop-item
invariant-loop-item l = l.room + 2 + reserved_by (take l.item-index l.volumes) ≡ l.geometry.pebs
