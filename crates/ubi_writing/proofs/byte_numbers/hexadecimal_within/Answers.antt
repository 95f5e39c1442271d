use Rattle.ubi_writing.proofs.Prelude.{◌≡◌, ◌<◌, ◌&&◌, arith, get_or, length, list_all, hexadecimal_value, digit_value, is_digit, nat_le}
use Rattle.ubi_writing.proofs.Hexadecimals.{fold_beyond, none_beyond}
use Rattle.ubi_writing.proofs.byte_numbers.hexadecimal_within.Goals as goal

pub returns-then-more-from : goal.returns-then-more-from
returns-then-more-from c =
    let digits = c.args.digits.now in
    let digit : c.in_ok-digit.digit ≡ digit_value (get_or digits c.loop-byte.byte-index 0) = cc (c.in_ok-digit.ensures.value.1) in
    let beyond : c.args.largest < hexadecimal_value digits =
    rw (← c.loop-byte.invariant.value)
    (fold_beyond c.args.largest c.loop-byte.value c.loop-byte.byte-index 0 digits (omega arith)
    (omega (arith, digit))) in
    none_beyond (nat_le 1 (length digits) && list_all (λ b. is_digit b 16) digits) c.args.largest (hexadecimal_value digits) beyond
