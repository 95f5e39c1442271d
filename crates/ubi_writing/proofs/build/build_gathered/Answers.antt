use Rattle.ubi_writing.proofs.Prelude.{◌∙◌, refl, sym, AreAnswers, row_sized}
use Rattle.ubi_writing.specs.Build.{unmade}
use Rattle.ubi_writing.proofs.Planned.{stays_unopened}
use Rattle.ubi_writing.proofs.build.build_gathered.Goals as goal

pub returns-in-Err-Refused-clause-answer : goal.returns-in-Err-Refused-clause-answer
returns-in-Err-Refused-clause-answer g c = λ sections lines.
    unmade c.in-Err-Refused.cause (rw c.in-Err-Refused.field-0-is at c.in-Err-Refused.ensures.refused)
    (rw c.in_ok-meaning_line-in-Err-Refused.ensures at c.saying.ensures) (λ path. refl)

pub of-source-requires : goal.of-source-requires
of-source-requires g c = rw c.new-2.ensures (λ all is.
    row_sized (λ f. g.D.Placed.PlacedFile.bytes f.file) (λ f. f.len) (λ f. f.sized) c.args.gathered.files.items all is ∙ sym c.requires.total)

pub returns-clause-answer : goal.returns-clause-answer
returns-clause-answer g c = λ sections lines.
    let are : AreAnswers c.args.asked.now.from.now c.args.asked.now.out.now sections _ = record { unread = lines; unread_else = c.in_ok-unread_line.ensures; unwritten = c.in_ok-unwritten_line.ensures } in
    rw (c.disk-1.given.1 (sym c.build_into.ensures.same))
    (rw (c.of-source.ensures.file, c.new-2.ensures, c.in-Ok.ensures.made) at (c.build_into.ensures.answer sections are))

pub returns-clause-from : goal.returns-clause-from
returns-clause-from g c =
    rw (c.disk-1.given.1 (sym c.build_into.ensures.same))
    (stays_unopened (g.D.Disk.files c.args.disk.now) _ c.args.asked.now.from.now c.args.asked.now.out.now c.may_be_one.result
    c.may_be_one.ensures c.build_into.ensures.others c.build_into.ensures.shut)
