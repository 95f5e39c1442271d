use Rattle.ubi_writing.proofs.Prelude.{refl, refused_file, done}
use Rattle.ubi_writing.proofs.plan.with_file.Goals as goal

pub returns-in-Ok : goal.returns-in-Ok
returns-in-Ok c =
    (c.in-Ok.done, c.in-Ok.is, done c.if-work-eq-DONE.true (record { text = refl; status = c.if-work-eq-DONE.true; file = refl }))

pub returns-in-Ok-2 : goal.returns-in-Ok-2
returns-in-Ok-2 c = (c.in-Ok.done, c.in-Ok.is, refused_file c.if-work-eq-DONE.false refl)
