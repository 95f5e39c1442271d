use Rattle.ubi_files.proofs.Prelude.{ℕ, ◌≤◌, subst}
use Rattle.ubi_files.proofs.OpensAtPlaces.{few_bytes, was_opened}
use Rattle.ubi_files.proofs.open_image.open_dump.Goals as goal
use Rattle.ubi_files.proofs.open_image.open_dump.Goals.{in_default-via-in-Some+else-len-gt0, in_default-via-in_default}

pub returns-clause-opens : goal.returns-clause-opens
returns-clause-opens g c = λ known. elim c.in_default.branch [
  | in_default-via-in-Some+else-len-gt0 w ↦ few_bytes _ _ _ w.in-Some.file.len w.in-Some.ensures.named w.in-Some.file.sized
      (subst (λ (n : ℕ). n ≤ 0) w.len.ensures w.if-len-gt0.false)
  | in_default-via-in_default w ↦ was_opened _ _ _ known (c.placed_at.ensures.none w.in_default.is)
]
