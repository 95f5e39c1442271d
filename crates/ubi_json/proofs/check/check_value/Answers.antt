use Rattle.ubi_json.proofs.Prelude.{◌≡◌, ap, ◌∙◌, refl, IfOk-weaker, view, states_data}
use Rattle.ubi_json.proofs.check.check_value.Goals as goal

pub returns : goal.returns
returns c =
    let seen = c.args.surveyed.now in
    let states : view c.in_ok-counted.counted ≡ states_data seen.states =
    c.in_ok-counted.ensures ∙ ap states_data c.states-states.ensures in
    IfOk-weaker c.counts_value.result _ _
    (λ v h. h ∙ rw (c.states-states.ensures, c.image_seq.ensures, c.mean_ec.ensures, c.top_sqnum.ensures, states) refl) c.counts_value.ensures
