use Rattle.std.proofs.Common.{◌≡◌, ◌≤◌, drop}
use Rattle.std.specs.Char.{is_ascii_digit}
use Rattle.std.specs.List.{list_all}
use Rattle.std.specs.Prelude.{fold}
use Rattle.ubi_words.specs.Words.{decimal_value, with_digit}
use Rattle.ubi_words.proofs.decimal.decimal_within.Given as goal

abbrev pub invariant-loop-byte : goal.invariant-loop-byte
invariant-loop-byte l = record {
  small : l.value ≤ l.largest;
  value : fold with_digit l.value (drop l.byte-index l.digits) ≡ decimal_value l.digits;
  digits : list_all is_ascii_digit (drop l.byte-index l.digits) ≡ list_all is_ascii_digit l.digits;
}
