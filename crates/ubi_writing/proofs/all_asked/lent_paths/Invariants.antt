use Rattle.ubi_writing.proofs.Prelude.{◌≡◌, map, string_bytes, take}
use Rattle.ubi_writing.proofs.all_asked.lent_paths.Given as goal

abbrev pub invariant-loop-path : goal.invariant-loop-path
invariant-loop-path l = map (λ p. p.now) l.lent.items ≡ map string_bytes (take l.path-index l.paths)
