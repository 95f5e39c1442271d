use Rattle.ubi_change.proofs.Prelude.{◌++◌, ap, sym, ◌∙◌, append-nil, List, Part}
use Rattle.ubi_change.proofs.PlacedParts.{no_parts}
use Rattle.ubi_change.proofs.placing.parts_of.Goals as goal

pub returns : goal.returns
returns c =
    let parts = c.loop-i.parts.items in
    sym (append-nil parts)
    ∙ ap (λ (ps : List Part). parts ++ ps) (sym (no_parts c.args.slots.now c.args.volumes.now c.loop-i.i c.min-i-end.ensures c.loop-i-test.false))
    ∙ c.loop-i.invariant
