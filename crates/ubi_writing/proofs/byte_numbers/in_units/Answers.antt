use Rattle.ubi_writing.proofs.Prelude.{◌≡◌, ◌∙◌, ℕ, drop, subst, take, at_most, decimal_number, is_no_digit, unit_after, None, position_or_len}
use Rattle.ubi_writing.proofs.UnitNumbers.{unit_some, units_above}
use Rattle.ubi_writing.proofs.byte_numbers.in_units.Goals as goal

pub returns-in_err-number : goal.returns-in_err-number
returns-in_err-number c =
    let word = c.args.word.now in
    let digits = position_or_len is_no_digit word in
    c.from_residual.ensures
    ∙ units_above c.args.largest (decimal_number (take digits word)) (unit_after (drop digits word)) (unit_some (drop digits word))
    (subst (λ (i : ℕ). None ≡ at_most c.args.largest (decimal_number (take i word))) c.digits_before-digits.ensures.value
    c.in_err-number.ensures)
