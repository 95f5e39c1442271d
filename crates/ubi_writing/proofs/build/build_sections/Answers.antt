use Rattle.ubi_writing.proofs.Prelude.{List, map, refl, subst, IfOk-weaker, Section, IsUngathered, ungathered, told}
use Rattle.ubi_writing.proofs.BuiltInto.{of_gathered}
use Rattle.ubi_writing.proofs.build.build_sections.Goals as goal

pub returns-in-Err-clause-answer : goal.returns-in-Err-clause-answer
returns-in-Err-clause-answer g c = λ text none same.
    IfOk-weaker c.answer.result _ _
    (λ o h. ungathered none (subst (λ (xs : List Section). IsUngathered (g.D.Disk.files c.args.disk.now) c.args.geometry.now c.args.asked.now.from.now xs o) same h)
    (λ path. refl))
    (told _ c.in-Err.unread c.answer.result c.in-Err.ensures.unread c.answer.ensures)

pub returns-in-Ok-clause-answer : goal.returns-in-Ok-clause-answer
returns-in-Ok-clause-answer g c = λ text none same.
    let asked = c.args.asked.now in
    IfOk-weaker c.build_gathered.result _ _
    (λ o h. of_gathered (g.D.Disk.files c.args.disk.now) (g.D.Disk.files c.build_gathered.new.disk) asked.from.now asked.out.now c.args.geometry.now
    text asked.spares asked.image_seq c.args.sections.now c.in-Ok.gathered.parts.items
    (map (λ f. g.D.Placed.PlacedFile.bytes f.file) c.in-Ok.gathered.files.items) o none same c.in-Ok.ensures.gathered c.in-Ok.ensures.apart h)
    (c.build_gathered.ensures.answer c.args.sections.now c.in-Ok.ensures.lines)
