use Rattle.ubi_change.proofs.Prelude.{Bool, cond, sym, ap, ◌∙◌, Some, option_map, state_avoiding}
use Rattle.ubi_volume.specs.declared.attached.BlockState.TheVariants as state
use Rattle.ubi_change.proofs.PlanPremises.{seen_state}
use Rattle.ubi_change.proofs.avoided.Avoided.state.Goals as goal

pub returns-then-has : goal.returns-then-has
returns-then-has c =
    seen_state c.args.self.now c.args.surveyed.now.states c.args.p
    ∙ ap (option_map (state_avoiding c.args.self.now c.args.p)) c.state-state.ensures
    ∙ ap (λ (b : Bool). Some (cond b state.Used c.state-state.result)) (sym c.has.ensures ∙ c.if-has.true)

pub returns-else-has : goal.returns-else-has
returns-else-has c =
    seen_state c.args.self.now c.args.surveyed.now.states c.args.p
    ∙ ap (option_map (state_avoiding c.args.self.now c.args.p)) c.state-state.ensures
    ∙ ap (λ (b : Bool). Some (cond b state.Used c.state-state.result)) (sym c.has.ensures ∙ c.if-has.false)
