use Rattle.ubi_compare.proofs.Prelude.{◌≡◌, ◌∙◌, ℕ, List, ◌∷◌, [], ap, sym, subst, Bor, on_ok_weaker, option_copied, None, Option, Some, VolumeRecord, Records, Difference, Side, Adds}
use Rattle.std.specs.FinMap as finite
use Rattle.ubi_compare.proofs.Adding.{adds_none}
use Rattle.ubi_compare.proofs.Differing.{in_both, left_only, neither, right_only}
use Rattle.ubi_compare.specs.declared.difference.Difference.TheVariants as difference
use Rattle.ubi_compare.proofs.volumes.compare_slot.Goals.{in-None-Some, in-Some-None}
use Rattle.ubi_compare.proofs.volumes.compare_slot.Goals as goal

-- the record that a table has of a number
recorded : (t u : Records) (id : ℕ) (o : Option (Bor VolumeRecord)) (is : Option (Bor VolumeRecord)) → u ≡ t
    → option_copied o ≡ finite.get u.of id → o ≡ is → finite.get t.of id ≡ option_copied is
recorded t u id o is same value found = ap (λ (z : Records). finite.get z.of id) (sym same) ∙ sym value ∙ ap option_copied found

pub returns-in-None-None-clause-told : goal.returns-in-None-None-clause-told
returns-in-None-None-clause-told g c = λ x xs y ys h k.
    let id = c.args.id in
    let here = c.args.here.now in
    let there = c.args.there.now in
    subst (λ (ds : List Difference). Adds c.args.found.now c.args.found.now ds)
    (sym (neither c.args.geometry.now here there x y h k id
    (recorded here.records c.table.result.now id c.get.result None c.table.ensures c.get.ensures.value c.in-None-None.is-0)
    (recorded there.records c.table-2.result.now id c.get-2.result None c.table-2.ensures c.get-2.ensures.value
    c.in-None-None.is-1)))
    (adds_none c.args.found.now)

pub returns-in-Some-Some-clause-told : goal.returns-in-Some-Some-clause-told
returns-in-Some-Some-clause-told g c = on_ok_weaker c.compare_volume.result (λ told x xs y ys h k.
    let id = c.args.id in
    let here = c.args.here.now in
    let there = c.args.there.now in
    let e = c.in-Some-Some.entry in
    let o = c.in-Some-Some.other in
    in_both c.args.geometry.now here there x y h k id e.now o.now
    (recorded here.records c.table.result.now id c.get.result (Some e) c.table.ensures c.get.ensures.value
    c.in-Some-Some.is-0)
    (recorded there.records c.table-2.result.now id c.get-2.result (Some o) c.table-2.ensures c.get-2.ensures.value
    c.in-Some-Some.is-1)
    c.args.found.now c.compare_volume.new.found (told x xs y ys h k))
    c.compare_volume.ensures.told

pub returns-clause-told : goal.returns-clause-told
returns-clause-told g c = λ x xs y ys h k.
    let s = c.args.geometry.now in
    let id = c.args.id in
    let here = c.args.here.now in
    let there = c.args.there.now in
    let only : Side → List Difference = λ side. difference.Only id side ∷ [] in
    elim c.match-get.branch [
      | in-None-Some w ↦
          subst (λ (ds : List Difference). Adds c.args.found.now c.add.new.self ds)
          (ap only w.side-is ∙ sym (right_only s here there x y h k id _
          (recorded here.records c.table.result.now id c.get.result None c.table.ensures c.get.ensures.value
          w.in-None-Some.is-0)
          (recorded there.records c.table-2.result.now id c.get-2.result (Some _) c.table-2.ensures
          c.get-2.ensures.value w.in-None-Some.is-1)))
          c.in_ok-add.ensures
      | in-Some-None w ↦
          subst (λ (ds : List Difference). Adds c.args.found.now c.add.new.self ds)
          (ap only w.side-is ∙ sym (left_only s here there x y h k id _
          (recorded here.records c.table.result.now id c.get.result (Some _) c.table.ensures
          c.get.ensures.value w.in-Some-None.is-0)
          (recorded there.records c.table-2.result.now id c.get-2.result None c.table-2.ensures c.get-2.ensures.value
          w.in-Some-None.is-1)))
          c.in_ok-add.ensures
    ]
