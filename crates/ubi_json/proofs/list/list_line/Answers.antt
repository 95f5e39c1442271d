use Rattle.ubi_json.proofs.Prelude.{◌≡◌, ◌≤◌, sym, subst, false, Data, depth, has_float}
use Rattle.ubi_json.proofs.ListedWhole.{listed_flat, listed_whole}
use Rattle.ubi_json.proofs.list.list_line.Goals as goal

pub line_of-requires-clause-whole : goal.line_of-requires-clause-whole
line_of-requires-clause-whole c =
    subst (λ (d : Data). has_float d ≡ false) (sym c.in_ok-value.ensures) (listed_whole c.args.geometry.now c.args.volumes.now)

pub line_of-requires-clause-flat : goal.line_of-requires-clause-flat
line_of-requires-clause-flat c =
    subst (λ (d : Data). depth d ≤ 127) (sym c.in_ok-value.ensures) (listed_flat c.args.geometry.now c.args.volumes.now)
