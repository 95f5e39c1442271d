use Rattle.ubi_calls.proofs.Prelude.{◌+◌, ◌-◌, arith, length, drop-put_mid}
use Rattle.ubi_calls.proofs.buffer.put_at.Goals as goal

pub returns-clause-rest : goal.returns-clause-rest
returns-clause-rest c =
    drop-put_mid c.args.start (c.args.start + length c.args.bytes.now - c.args.start) c.args.out.now c.copy_from_slice.new.self
    (c.args.start + length c.args.bytes.now) (omega arith) (omega arith) (omega arith)
