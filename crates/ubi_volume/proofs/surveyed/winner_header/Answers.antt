use Rattle.ubi_volume.proofs.Winners.{header_by_state, state_holds}
use Rattle.ubi_volume.proofs.surveyed.winner_header.Goals as goal

pub returns : goal.returns
returns c = λ s bs scan.
    rw c.header_in.ensures (header_by_state s bs c.args.p c.state.result
    (state_holds s bs c.args.scan.now scan c.args.p c.state.result c.state.ensures))
