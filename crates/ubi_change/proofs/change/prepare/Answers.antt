use Rattle.ubi_change.proofs.Prelude.{states_avoiding}
use Rattle.ubi_change.proofs.Grounded.{ground_narrowed, site_known}
use Rattle.ubi_change.proofs.change.prepare.Goals as goal

pub returns-clause-prepared : goal.returns-clause-prepared
returns-clause-prepared g c =
    let s = c.args.geometry.now in
    let agrees = g.S.BlockSource.agrees c.winner_site.new.source in
    record {
      ground = ground_narrowed s _ _ agrees c.args.avoided.now 2 c.in_ok-ground.ground c.in_ok-winner.ensures.narrows c.in_ok-ground.ensures.ground;
      winner = site_known s _ _ agrees (states_avoiding c.args.avoided.now c.in_ok-ground.ground.surveyed.states) _ c.in_ok-winner.winner c.in_ok-ground.ensures.known c.in_ok-winner.ensures.site;
    }
