use Rattle.ubi_commands.proofs.given.volume_extract.Goals as goal

pub returns-in_err-paths_of : goal.returns-in_err-paths_of
returns-in_err-paths_of c = rw c.from_residual.ensures (λ x asked. c.in_err-paths_of.ensures x.paths asked.0)
