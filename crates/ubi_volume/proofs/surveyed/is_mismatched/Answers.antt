use Rattle.ubi_volume.proofs.Prelude.{subst, WinnerHeaderIs}
use Rattle.ubi_volume.proofs.Mismatches.{never, no_winner_no_mismatch}
use Rattle.ubi_volume.proofs.surveyed.is_mismatched.Goals as goal

pub returns-in_default : goal.returns-in_default
returns-in_default c = λ bs scan.
    let s = c.args.geometry.now in
    never (no_winner_no_mismatch s bs c.args.table.now c.args.p
    (subst (WinnerHeaderIs s bs c.args.p) c.in_default.is (c.winner_header.ensures s bs scan)))
