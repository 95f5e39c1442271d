use Rattle.std.proofs.Common.{◌<◌, arith}
use Rattle.std.specs.Char.{is_ascii_digit}
use Rattle.std.specs.List.{list_all}
use Rattle.ubi_words.specs.Words.{decimal_value}
use Rattle.ubi_words.proofs.Decimals.{fold_beyond, none_beyond}
use Rattle.ubi_words.proofs.decimal.decimal_within.Goals as goal

pub returns-then-more-from-clause-value : goal.returns-then-more-from-clause-value
returns-then-more-from-clause-value c =
    let beyond : c.args.largest < decimal_value c.args.digits.now =
    rw (← c.loop-byte.invariant.value)
    (fold_beyond c.args.largest c.loop-byte.value c.loop-byte.byte-index 0 c.args.digits.now
    (omega arith) (omega arith)) in
    none_beyond (list_all is_ascii_digit c.args.digits.now) c.args.largest (decimal_value c.args.digits.now) beyond
