use Rattle.ubi_detect.proofs.Prelude.{◌≡◌, take, map, told_by}
use Rattle.ubi_detect.proofs.place.placed.Given as goal

abbrev pub invariant-loop-way : goal.invariant-loop-way
invariant-loop-way l = l.found.items ≡ map (told_by l.start l.end) (take l.way-index l.ways)
