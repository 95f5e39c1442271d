use Rattle.ubi_volume.proofs.Prelude.{◌≡◌, ◌++◌, drop, map, take, item_without_blank}
use Rattle.ubi_volume.proofs.meaning.drop_blank.Given as goal

abbrev pub invariant-loop-item : goal.invariant-loop-item
invariant-loop-item l = l.volumes ≡ map item_without_blank (take l.item-index l.initial.volumes)
    ++ drop l.item-index l.initial.volumes
