use Rattle.ubi_writing.proofs.Prelude.{◌≡◌, ◌≤◌, drop, fold, list_all, hexadecimal_value, with_hexadecimal, is_digit}
use Rattle.ubi_writing.proofs.byte_numbers.hexadecimal_within.Given as goal

abbrev pub invariant-loop-byte : goal.invariant-loop-byte
invariant-loop-byte l = record {
  small : l.value ≤ l.largest;
  value : fold with_hexadecimal l.value (drop l.byte-index l.digits) ≡ hexadecimal_value l.digits;
  digits : list_all (λ b. is_digit b 16) (drop l.byte-index l.digits) ≡ list_all (λ b. is_digit b 16) l.digits;
}
