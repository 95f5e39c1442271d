use Rattle.ubi_map.proofs.Prelude.{◌≡◌, false, map, string_bytes, subst, sym, IfOk-weaker, Data, has_float}
use Rattle.ubi_map.proofs.Whole.{refused_whole}
use Rattle.ubi_map.proofs.data.refused_value.Goals as goal

pub returns-clause-whole : goal.returns-clause-whole
returns-clause-whole c =
    IfOk-weaker c.unaccepted_value.result _ _
    (λ v is. subst (λ (d : Data). has_float d ≡ false)
    (sym (rw (c.in_ok-blocks.ensures, c.in_ok-sizes.ensures, c.in_ok-refusal.ensures.value, c.in_ok-states.ensures) at is))
    (refused_whole c.args.geometry.now (map string_bytes c.args.texts.now) c.args.letters.now c.args.cause c.in_ok-refusal.ensures.whole))
    c.unaccepted_value.ensures
