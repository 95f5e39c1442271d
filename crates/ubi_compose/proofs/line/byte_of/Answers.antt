use Rattle.ubi_compose.proofs.Prelude.{◌∷◌, [], decode_sized, escaped_byte}
use Rattle.ubi_compose.proofs.Escapes.{decoded_pair, pair_err, pair_ok}
use Rattle.ubi_compose.proofs.line.byte_of.Goals as goal

pub returns-in-Ok : goal.returns-in-Ok
returns-in-Ok c =
    pair_ok (decode_sized (c.args.high ∷ c.args.low ∷ []) 1) _ c.decode_to_slice.new.out
    (escaped_byte c.args.high c.args.low) c.in-Ok.field-0
    (decoded_pair c.args.high c.args.low) c.decode_to_slice.ensures.value c.in-Ok.is

pub returns-in-Err : goal.returns-in-Err
returns-in-Err c =
    pair_err (decode_sized (c.args.high ∷ c.args.low ∷ []) 1) _ c.decode_to_slice.new.out
    (escaped_byte c.args.high c.args.low) c.in-Err.field-0
    (decoded_pair c.args.high c.args.low) c.decode_to_slice.ensures.value c.in-Err.is
