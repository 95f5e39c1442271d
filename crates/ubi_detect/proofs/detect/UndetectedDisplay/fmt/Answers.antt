use Rattle.ubi_detect.proofs.Prelude.{codes, decimal}
use Rattle.std.proofs.Common.{append_assoc}
use Rattle.ubi_detect.proofs.detect.UndetectedDisplay.fmt.Goals as goal

pub returns-in-Length-clause-writes : goal.returns-in-Length-clause-writes
returns-in-Length-clause-writes g c =
    rw (c.in-Length.is, append_assoc (decimal c.in-Length.size) (codes " rest=") (decimal c.in-Length.rest)) c.write.ensures.writes
