use Rattle.ubi_volume.proofs.MemberStates.{state_of_beaten, state_of_winner}
use Rattle.ubi_volume.proofs.surveyed.state_of.Goals as goal

pub returns-in-Winner : goal.returns-in-Winner
returns-in-Winner c = λ s bs p said.
    let is = rw c.in-Winner.is at said in
    state_of_winner s bs c.args.table.now p c.in-Winner.header.leb is.1 c.member_state.result c.member_state.ensures

pub returns-in-Beaten : goal.returns-in-Beaten
returns-in-Beaten c = λ s bs p said.
    let is = rw c.in-Beaten.is at said in
    state_of_beaten s bs c.args.table.now p c.in-Beaten.leb is.0 is.1 c.member_state-in-Beaten.result
    c.member_state-in-Beaten.ensures
