use Rattle.ubi_reading.proofs.Prelude.{refl}
use Rattle.ubi_reading.proofs.MappedLines.{maps_narrowed}
use Rattle.ubi_reading.proofs.map.run_page_from.Goals as goal

pub returns-clause-answer : goal.returns-clause-answer
returns-clause-answer g c = (
  record {
    plain = c.in_ok-outcome.outcome;
    answered = maps_narrowed c.args.geometry.now (g.S.BlockSource.known c.args.source.now)
        (g.S.BlockSource.agrees c.run_map_from.new.source) (g.S.BlockSource.agrees c.page_from.new.source) c.in_ok-outcome.outcome
        c.in_ok-page.ensures.narrows c.in_ok-outcome.ensures.mapped;
    text = refl;
    status = refl;
    page = tt {0};
  },
  λ bytes holds. record {
    plain = c.in_ok-outcome.outcome;
    answered = c.in_ok-outcome.ensures.maps bytes (c.in_ok-page.ensures.narrows bytes holds);
    text = refl;
    status = refl;
    page = c.in_ok-page.ensures.page bytes holds;
  },
)
