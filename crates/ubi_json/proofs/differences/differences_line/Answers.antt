use Rattle.ubi_json.proofs.Prelude.{◌≡◌, ◌≤◌, sym, subst, false, Data, depth, has_float}
use Rattle.ubi_json.proofs.DifferencesWhole.{differences_flat, differences_whole}
use Rattle.ubi_json.proofs.differences.differences_line.Goals as goal

pub line_of-requires-clause-whole : goal.line_of-requires-clause-whole
line_of-requires-clause-whole c =
    subst (λ (d : Data). has_float d ≡ false) (sym c.in_ok-value.ensures) (differences_whole c.args.told.now)

pub line_of-requires-clause-flat : goal.line_of-requires-clause-flat
line_of-requires-clause-flat c =
    subst (λ (d : Data). depth d ≤ 127) (sym c.in_ok-value.ensures) (differences_flat c.args.told.now)
