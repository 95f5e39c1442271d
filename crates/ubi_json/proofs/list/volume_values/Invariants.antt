use Rattle.ubi_json.proofs.Prelude.{◌≡◌, map, take, view, volume_data}
use Rattle.ubi_json.proofs.list.volume_values.Given as goal

abbrev pub invariant-loop-volume : goal.invariant-loop-volume
invariant-loop-volume l = map view l.values.items ≡ map (volume_data l.geometry) (take l.volume-index l.volumes)
