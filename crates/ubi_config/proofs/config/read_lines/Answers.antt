use Rattle.ubi_config.proofs.Prelude.{Bor, List, ℕ, [], ◌∷◌, arith, rules, tests, YieldsList-end, YieldsList-turn, YieldsList-from_slice_split, length-map, map-append}
use Rattle.std.proofs.Common.{◌==◌, map}
use Rattle.ubi_config.proofs.ReadSoFar.{read_all, read_none, read_one, refused_at}
use Rattle.ubi_config.proofs.config.read_lines.Goals as goal

pub loop-line-init : goal.loop-line-init
loop-line-init c = rw c.new-said.ensures.items (read_none c.args.text.now)

pub loop-line-preserved : goal.loop-line-preserved
loop-line-preserved c =
    let turn = YieldsList-turn
    (YieldsList-from_slice_split {s = c.into_iter-line-iterator.result} _ (λ b. b == 10) c.args.text.now (cc) (cc) (cc)
    (λ x r q k. search (rules, tests))) c.loop-line.yielded _ c.loop-line.yielded_by _ _ c.in-Some.line c.in-Some.is
    c.next.ensures.steps in
    let long = length-map c.loop-line.yielded (λ (x : Bor (List ℕ)). x.now) in
    rw (map-append (λ (x : Bor (List ℕ)). x.now) c.loop-line.yielded (c.in-Some.line ∷ []))
    (read_one c.args.text.now (map (λ x. x.now) c.loop-line.yielded) c.loop-line.said.items c.loop-line.number
    c.in-Some.line.now c.loop-line.invariant (omega (arith, turn.0)) (rw long turn.1) c.saturating_add-number.result
    (omega (arith, c.saturating_add-number.ensures)) c.read_line.new.said.items
    c.in_default.ensures.0 c.in_default.ensures.1)

pub returns-in-Err : goal.returns-in-Err
returns-in-Err c =
    let turn = YieldsList-turn
    (YieldsList-from_slice_split {s = c.into_iter-line-iterator.result} _ (λ b. b == 10) c.args.text.now (cc) (cc) (cc)
    (λ x r q k. search (rules, tests))) c.loop-line.yielded _ c.loop-line.yielded_by _ _ c.in-Some.line c.in-Some.is
    c.next.ensures.steps in
    let long = length-map c.loop-line.yielded (λ (x : Bor (List ℕ)). x.now) in
    rw c.at.ensures
    (refused_at c.args.text.now (map (λ x. x.now) c.loop-line.yielded) c.loop-line.said.items c.loop-line.number
    c.in-Some.line.now c.loop-line.invariant (omega (arith, turn.0)) (rw long turn.1) c.saturating_add-number.result
    (omega (arith, c.saturating_add-number.ensures)) c.in-Err.error c.in-Err.ensures)

pub returns : goal.returns
returns c =
    let end = YieldsList-end
    (YieldsList-from_slice_split {s = c.into_iter-line-iterator.result} _ (λ b. b == 10) c.args.text.now (cc) (cc) (cc)
    (λ x r q k. search (rules, tests))) c.loop-line.yielded _ c.loop-line.yielded_by _ _ c.in-None.is
    c.next.ensures.steps in
    read_all c.args.text.now (map (λ x. x.now) c.loop-line.yielded) c.loop-line.said.items c.loop-line.number
    c.loop-line.invariant end.0
