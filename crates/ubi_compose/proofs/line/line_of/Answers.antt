use Rattle.ubi_compose.proofs.Prelude.{map, sym, ◌∙◌, ap, line_form}
use Rattle.ubi_compose.proofs.LineForms.{form_fits, line_said, nothing_said}
use Rattle.ubi_compose.proofs.line.line_of.Goals as goal

pub said-requires : goal.said-requires
said-requires c =
    rw (c.as_slice-in-Some.ensures.value)
    (form_fits (λ w. w.now) c.in_ok-words.words.items c.in-Some.form
    (ap (λ ws. line_form (map (λ w. w.now) ws)) (sym c.as_slice.ensures.value) ∙ sym c.in-Some.ensures))

pub returns-in-Some : goal.returns-in-Some
returns-in-Some c =
    rw (line_said c.args.text.now (map (λ w. w.now) c.as_slice-in-Some.result.now) c.in-Some.form
    (sym c.is_spelled.ensures ∙ c.if-not-is_spelled.false)
    (ap (map (λ w. w.now)) c.as_slice-in-Some.ensures.value ∙ c.in_ok-words.ensures)
    (ap (λ ws. line_form (map (λ w. w.now) ws)) (c.as_slice-in-Some.ensures.value ∙ sym c.as_slice.ensures.value)
    ∙ sym c.in-Some.ensures)) c.said.ensures

pub returns : goal.returns
returns c =
    nothing_said c.args.text.now (map (λ w. w.now) c.as_slice.result.now)
    (sym c.is_spelled.ensures ∙ c.if-not-is_spelled.false)
    (ap (map (λ w. w.now)) c.as_slice.ensures.value ∙ c.in_ok-words.ensures) (sym c.in-None.ensures)
