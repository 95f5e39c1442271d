use Rattle.ubi_config.proofs.above.shared_cause.Goals as goal

pub returns-in-Name : goal.returns-in-Name
returns-in-Name c = rw (c.in-Name.is, ← c.as_bytes.ensures.value) (cc)
