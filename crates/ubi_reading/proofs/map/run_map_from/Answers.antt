use Rattle.ubi_reading.proofs.Prelude.{mapped, mapped_from}
use Rattle.ubi_reading.proofs.map.run_map_from.Goals as goal

pub returns-in_ok-mapped-in-Ok-clause-mapped : goal.returns-in_ok-mapped-in-Ok-clause-mapped
returns-in_ok-mapped-in-Ok-clause-mapped g c =
    mapped_from c.in-Ok.surveyed c.in-Ok.ensures.survey c.in_ok-mapped-in-Ok.ensures

pub returns-in_ok-mapped-in-Ok-clause-maps : goal.returns-in_ok-mapped-in-Ok-clause-maps
returns-in_ok-mapped-in-Ok-clause-maps g c = λ bytes holds.
    mapped c.in-Ok.surveyed (c.in-Ok.ensures.survey.held bytes holds) c.in_ok-mapped-in-Ok.ensures
