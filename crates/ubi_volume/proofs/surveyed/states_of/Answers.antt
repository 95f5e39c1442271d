use Rattle.ubi_volume.proofs.Prelude.{◌+◌, ◌∙◌, [], ◌∷◌, ◌++◌, length-append, ap, arith, BlockStateIs}
use Rattle.ubi_volume.proofs.MemberStates.{states_more}
use Rattle.ubi_volume.proofs.Winners.{state_holds}
use Rattle.ubi_volume.proofs.surveyed.states_of.Goals as goal

pub loop-p-preserved : goal.loop-p-preserved
loop-p-preserved c =
    let old = c.loop-p.states.items in
    let one = c.state_of.result in
    let more = c.push_reserved.ensures.items ∙ ap (λ xs. xs ++ one ∷ []) c.in_ok-reserve.ensures.items in
    rw more (record {
      count = length-append old (one ∷ []) ∙ ap (λ n. n + 1) c.loop-p.invariant.count;
      states = λ s bs scan.
          states_more (BlockStateIs s bs c.args.table.now) old one c.loop-p.p c.loop-p.invariant.count
          (c.loop-p.invariant.states s bs scan)
          (c.state_of.ensures s bs c.loop-p.p
          (state_holds s bs c.args.scan.now scan c.loop-p.p c.state.result c.state.ensures));
    })

pub returns-clause-states : goal.returns-clause-states
returns-clause-states c = λ s bs scan. (
  omega (arith, c.loop-p.invariant.count, c.loop-p-test.false, c.loop-p.auto.p-end, c.requires, scan.states.0),
  c.loop-p.invariant.states s bs scan,
)
