use Rattle.ubi_media.proofs.Prelude.{sym, subst, ℕ, List, arith, EcIs}
use Rattle.ubi_media.specs.declared.ec.EcRead.TheVariants.{Valid}
use Rattle.ubi_media.proofs.Headers.{ec_read_back}
use Rattle.ubi_media.proofs.Writes.{ec_sealed}
use Rattle.ubi_media.proofs.ec.write_ec.Goals as goal

pub returns-clause-bytes : goal.returns-clause-bytes
returns-clause-bytes c = rw (c.seal.ensures, c.front_of-bytes.ensures.bytes)
    (ec_sealed c.args.geometry.now c.args.header.now)

pub returns-clause-read_back : goal.returns-clause-read_back
returns-clause-read_back c =
    λ small.
    let back = ec_read_back c.args.geometry.now c.args.header.now (omega arith) (omega arith) small (omega arith) in
    subst (λ (bytes : List ℕ). EcIs c.args.geometry.now bytes (Valid c.args.header.now))
    (sym (returns-clause-bytes c)) back
