use Rattle.ubi_dumps.proofs.Prelude.{refl, subst, sym, IsSome, kept, lost}
use Rattle.ubi_dumps.proofs.Outcomes.{no_bytes}
use Rattle.ubi_dumps.proofs.output_file.write_outcome.Goals as goal

pub returns-in_default-clause-answer : goal.returns-in_default-clause-answer
returns-in_default-clause-answer g c =
    kept (no_bytes (g.D.Disk.files c.args.disk.now) c.args.path.now c.args.outcome.file c.in_default.is)

pub returns-in-Ok-clause-answer : goal.returns-in-Ok-clause-answer
returns-in-Ok-clause-answer g c =
    kept (rw c.in-Some.is (rw c.as_slice.ensures.value at c.in-Ok.ensures.received))

pub returns-in-Err-clause-answer : goal.returns-in-Err-clause-answer
returns-in-Err-clause-answer g c = lost (subst IsSome (sym c.in-Some.is) refl) c.in_ok-unwritten.ensures

pub returns-then-may_be_one-clause-answer : goal.returns-then-may_be_one-clause-answer
returns-then-may_be_one-clause-answer g c = lost (subst IsSome (sym c.in-Some.is) refl) c.in_ok-unwritten.ensures
