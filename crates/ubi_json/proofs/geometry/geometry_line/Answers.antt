use Rattle.ubi_json.proofs.Prelude.{◌≡◌, ◌≤◌, false, subst, sym, Data, depth, has_float}
use Rattle.ubi_json.proofs.GeometriesWhole.{geometries_flat, geometries_whole}
use Rattle.ubi_json.proofs.geometry.geometry_line.Goals as goal

pub line_of-requires-clause-whole : goal.line_of-requires-clause-whole
line_of-requires-clause-whole c =
    subst (λ (d : Data). has_float d ≡ false) (sym c.in_ok-value.ensures) (geometries_whole c.args.part c.args.found.now c.args.spans.now)

pub line_of-requires-clause-flat : goal.line_of-requires-clause-flat
line_of-requires-clause-flat c =
    subst (λ (d : Data). depth d ≤ 127) (sym c.in_ok-value.ensures) (geometries_flat c.args.part c.args.found.now c.args.spans.now)
