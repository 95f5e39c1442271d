use Rattle.ubi_writing.proofs.Prelude.{refl, ◌∙◌, IfOk-weaker, Builds, faulty, no_text, told}
use Rattle.ubi_writing.proofs.ComposedInto.{of_text}
use Rattle.ubi_writing.proofs.build.build_file.Goals as goal

pub returns-in-Err-clause-answer : goal.returns-in-Err-clause-answer
returns-in-Err-clause-answer g c =
    IfOk-weaker c.answer.result _ _ (λ o h. no_text h)
    (told _ c.in-Err.unread c.answer.result c.in-Err.ensures.unread c.answer.ensures)

pub returns-in-Ok-parse_config-clause-answer : goal.returns-in-Ok-parse_config-clause-answer
returns-in-Ok-parse_config-clause-answer g c =
    let file = c.in-Ok.file in
    let asked = c.args.asked.now in
    let d = g.D.Disk.files c.args.disk.now in
    let e = g.D.Disk.files c.build_sections.new.disk in
    let read = rw c.as_slice.ensures.value at c.in-Ok-parse_config.ensures.sections in
    IfOk-weaker c.build_sections.result _ _
    (λ o h. of_text d c.args.numbers asked.from.now (λ s t. Builds d e asked.from.now asked.out.now s t asked.spares asked.image_seq)
    file.geometry file.text.items o c.in-Ok.ensures.geometry c.in-Ok.ensures.limits c.in-Ok.ensures.few c.in-Ok.ensures.named h)
    (c.build_sections.ensures.answer file.text.items read.0 (c.as_slice-in-Ok-parse_config.ensures.value ∙ read.1))

pub returns-in-Err-Refused-clause-answer : goal.returns-in-Err-Refused-clause-answer
returns-in-Err-Refused-clause-answer g c =
    let file = c.in-Ok.file in
    let asked = c.args.asked.now in
    let d = g.D.Disk.files c.args.disk.now in
    let fault = rw (c.in-Err-Refused.field-0-is, c.as_slice.ensures.value) at c.in-Err-Refused.ensures.refused in
    IfOk-weaker c.config_line.result _ _
    (λ o h. of_text d c.args.numbers asked.from.now (λ s t. Builds d d asked.from.now asked.out.now s t asked.spares asked.image_seq)
    file.geometry file.text.items o c.in-Ok.ensures.geometry c.in-Ok.ensures.limits c.in-Ok.ensures.few c.in-Ok.ensures.named
    (faulty c.in-Err-Refused.line c.in-Err-Refused.cause fault h (λ path. refl)))
    c.config_line.ensures
