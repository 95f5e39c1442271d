use Rattle.ubi_change.proofs.Prelude.{◌≡◌, true, ap, sym, ◌∙◌, subst, get, option_copied, image_of, Records, reads_whole, Edit}
use Rattle.ubi_change.proofs.KnownEdits.{whole_case, whole_none}
use Rattle.ubi_change.proofs.known.reads_whole.Goals as goal

pub returns-in_default-get-clause-whole : goal.returns-in_default-get-clause-whole
returns-in_default-get-clause-whole g c = λ bytes held h.
    let image = image_of c.args.geometry.now bytes in
    subst (λ (e : Edit). true ≡ reads_whole h.meaning e) (sym c.in-Resize.is)
    (whole_none image c.args.surveyed.now h c.in-Resize.id c.in-Resize.field-1
    (ap (λ (t : Records). get t.of c.in-Resize.id) (sym c.table.ensures) ∙ sym c.get.ensures.value ∙ ap option_copied c.in_default-get.is))

pub returns-clause-whole : goal.returns-clause-whole
returns-clause-whole g c = λ bytes held h.
    let image = image_of c.args.geometry.now bytes in
    c.is_whole.ensures
    ∙ (whole_case image c.args.surveyed.now h c.in-Resize.id c.in-Resize.field-1 c.in-Some.entry.now
    (ap (λ (t : Records). get t.of c.in-Resize.id) (sym c.table.ensures) ∙ sym c.get.ensures.value ∙ ap option_copied c.in-Some.is)
    c.in_ok-case.case (c.in_ok-case.ensures.case bytes held))
    ∙ ap (λ (e : Edit). reads_whole h.meaning e) (sym c.in-Resize.is)
