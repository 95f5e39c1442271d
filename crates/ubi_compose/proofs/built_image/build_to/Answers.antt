use Rattle.ubi_compose.proofs.Prelude.{◌≡◌, ◌∙◌, ap, length, sym, subst, arith, List, ℕ, Device, Reaches, HasPut, CanBuild, composed, built}
use Rattle.ubi_compose.proofs.BuiltImage.{IsReadFor, all_built}
use Rattle.ubi_compose.proofs.BuiltMeaning.{table_room}
use Rattle.ubi_compose.proofs.BuiltRoom.{built_accepted}
use Rattle.ubi_compose.proofs.built_image.build_to.Given as given
use Rattle.ubi_compose.proofs.built_image.build_to.Goals as goal
use Rattle.ubi_compose.proofs.built_image.build_to.Goals.{After-put_image}

sized : (g : given.Over) (c : After-put_image g) (bytes : List ℕ) → g.S.BlockSource.agrees c.put_image.new.source bytes
    → length bytes ≡ c.len.result
sized g c bytes holds =
    (g.met.S.BlockSource.sized c.args.source.now).sized bytes (c.put_image.ensures.narrows bytes holds) ∙ sym c.len.ensures

-- what the writer received, whatever was answered
received : (g : given.Over) (c : After-put_image g)
    → HasPut (IsReadFor c.args.recipe.now (g.S.BlockSource.failed_at c.put_image.new.source))
    (g.S.BlockSource.agrees c.put_image.new.source) (g.W.Write.contents c.args.writer.now)
    (g.W.Write.contents c.put_image.new.writer) (λ bytes. composed (built c.args.recipe.now bytes) c.args.spares) 0
    c.put_image.result
received g c =
    all_built c.args.recipe.now c.device-device.ensures.meaning c.args.spares c.len.result c.in_ok-judge.ensures.ok
    (omega arith) c.device-device.result c.device-device.ensures.value c.as_slice-table.result.now
    (c.as_slice-table.ensures.value ∙ c.in_ok-table.ensures) (g.S.BlockSource.agrees c.put_image.new.source) (sized g c)
    (g.S.BlockSource.failed_at c.put_image.new.source) _ _ c.put_image.result c.put_image.ensures.put

pub put_image-requires-clause-fits : goal.put_image-requires-clause-fits
put_image-requires-clause-fits g c =
    let size = ap length (c.as_slice-table.ensures.value ∙ c.in_ok-table.ensures) in
    let room = table_room c.args.recipe.now c.device-device.ensures.meaning in
    rw (ap (λ (d : Device). d.geometry) c.device-device.ensures.value) (omega (arith, size, room))

pub returns-in-Ok-clause-written : goal.returns-in-Ok-clause-written
returns-in-Ok-clause-written g c =
    rw c.in-Ok.is at (received g (goal.at.returns-in-Ok-clause-written g c).After-put_image)

pub returns-in-Ok-clause-accepted : goal.returns-in-Ok-clause-accepted
returns-in-Ok-clause-accepted g c = λ bytes holds.
    built_accepted c.args.recipe.now c.device-device.ensures.meaning bytes
    (subst (λ n. Reaches n c.args.recipe.now.of) (sym (sized g (goal.at.returns-in-Ok-clause-accepted g c).After-put_image bytes holds))
    c.in_ok-judge.ensures.ok.reaches) c.args.spares c.in_ok-judge.ensures.ok.room

pub returns-in-Err-Read-clause-refused : goal.returns-in-Err-Read-clause-refused
returns-in-Err-Read-clause-refused g c =
    let h = rw (c.in-Err-Read.is, c.in-Err-Read.field-0-is) at
    (received g (goal.at.returns-in-Err-Read-clause-refused g c).After-put_image) in (
      subst (CanBuild c.args.recipe.now c.args.spares) c.len.ensures c.in_ok-judge.ensures.ok,
      (h.0.0, (h.0.1, sym h.0.2), h.1),
    )

pub returns-in-Err-Read-clause-named : goal.returns-in-Err-Read-clause-named
returns-in-Err-Read-clause-named g c =
    let h = (rw (c.in-Err-Read.is, c.in-Err-Read.field-0-is) at
    (received g (goal.at.returns-in-Err-Read-clause-named g c).After-put_image)).0 in
    (h.0, h.1, (h.2, h.3, h.4))

pub returns-clause-refused : goal.returns-clause-refused
returns-clause-refused g c = (
  subst (CanBuild c.args.recipe.now c.args.spares) c.len.ensures c.in_ok-judge.ensures.ok,
  rw (c.in-Err-Write.is, c.in-Err-Write.field-0-is) at
      (received g (goal.at.returns-clause-refused g c).After-put_image),
)
