use Rattle.ubi_calls.proofs.Prelude.{◌∙◌, ◌+◌, refl, subst, sym, ℕ, IsWrongLine}
use Rattle.ubi_calls.proofs.EditTexts.{nothing_left, read_more, something_left, wrong_after, wrong_here}
use Rattle.ubi_calls.proofs.edit_lines.asks_in.Goals as goal

pub returns-in_default-clause-refused : goal.returns-in_default-clause-refused
returns-in_default-clause-refused c =
    let asks = c.loop-rest.asks in
    let rest = c.loop-rest.rest.now in
    subst (λ (n : ℕ). IsWrongLine c.args.text.now c.args.size (n + 1)) (sym (c.len.ensures ∙ asks.ok.0))
    (wrong_here c.args.text.now rest c.args.size c.loop-rest.at asks.items c.loop-rest.invariant
    (something_left rest c.loop-rest-test.ensures) c.cut.result.0.now c.cut.result.1 c.cut.ensures.pieces c.in_default.ensures.edit)

pub loop-rest-preserved : goal.loop-rest-preserved
loop-rest-preserved c =
    let rest = c.loop-rest.rest.now in
    rw (c.unwrap_or-rest.ensures, c.in_ok-put_ask.ensures, c.taken_by-at.ensures)
    (read_more c.args.text.now rest c.args.size c.loop-rest.at c.loop-rest.asks.items c.loop-rest.invariant
    (something_left rest c.loop-rest-test.ensures) c.cut.result.0.now c.cut.result.1 c.cut.ensures.pieces c.in-Some.ask
    c.in-Some.ensures.edit c.in-Some.ensures.within _ refl)

pub returns-then-at-size-clause-refused : goal.returns-then-at-size-clause-refused
returns-then-at-size-clause-refused c =
    let asks = c.loop-rest.asks in
    let rest = c.loop-rest.rest.now in
    subst (λ (n : ℕ). IsWrongLine c.args.text.now c.args.size (n + 1)) (sym (c.len-then-at-size.ensures ∙ asks.ok.0))
    (wrong_after c.args.text.now rest c.args.size c.loop-rest.at asks.items c.loop-rest.invariant
    (nothing_left rest c.loop-rest-test.ensures) c.if-at-size.true)
