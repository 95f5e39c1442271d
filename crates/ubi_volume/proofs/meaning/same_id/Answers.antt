use Rattle.ubi_volume.proofs.Prelude.{arith, sym, ◌∙◌}
use Rattle.ubi_volume.proofs.MeaningCauses.{none_left, same_id_found, same_id_more}
use Rattle.ubi_volume.proofs.meaning.same_id.Goals as goal

pub returns-in-Some : goal.returns-in-Some
returns-in-Some c =
    same_id_found _ _ c.loop-i.i c.index-volumes-i.result c.loop-i-test.true c.index-volumes-i.is c.in-Some.field-0
    (sym c.place_of_id.ensures ∙ c.in-Some.is) c.loop-i.invariant

pub loop-i-preserved : goal.loop-i-preserved
loop-i-preserved c =
    same_id_more _ _ c.loop-i.i c.index-volumes-i.result c.loop-i-test.true c.index-volumes-i.is
    (sym c.place_of_id.ensures ∙ c.in-None.is) c.loop-i.invariant

pub returns : goal.returns
returns c = none_left _ _ 2 c.loop-i.i (λ e. omega (arith, e)) (omega arith) c.loop-i.invariant
