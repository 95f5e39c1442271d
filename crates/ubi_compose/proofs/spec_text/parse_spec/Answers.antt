use Rattle.ubi_compose.proofs.Prelude.{Bor, List, ℕ, ◌==◌, [], ◌∷◌, map, ◌∙◌, arith, rules, tests, YieldsList-end, YieldsList-turn, YieldsList-from_slice_split, length-map, map-append}
use Rattle.ubi_compose.proofs.ReadSoFar.{faultless_so_far, read_all, read_none, read_one, refused_at}
use Rattle.ubi_compose.proofs.spec_text.parse_spec.Goals as goal

pub loop-line-init : goal.loop-line-init
loop-line-init c = rw c.new-drafts.ensures (read_none c.args.geometry.now c.args.text.now)

pub read-requires : goal.read-requires
read-requires c =
    faultless_so_far c.args.geometry.now c.args.text.now
    (map (λ x. x.now) c.loop-line.yielded) c.loop-line.drafts c.loop-line.number c.loop-line.invariant

pub loop-line-preserved : goal.loop-line-preserved
loop-line-preserved c =
    let turn = YieldsList-turn
    (YieldsList-from_slice_split {s = c.into_iter-line-iterator.result} _ (λ b. b == 10) c.args.text.now (cc) (cc) (cc)
    (λ x r q k. search (rules, tests))) c.loop-line.yielded _ c.loop-line.yielded_by _ _ c.in-Some.line c.in-Some.is
    c.next.ensures.steps in
    let long = length-map c.loop-line.yielded (λ (x : Bor (List ℕ)). x.now) in
    rw (map-append (λ (x : Bor (List ℕ)). x.now) c.loop-line.yielded (c.in-Some.line ∷ []))
    (read_one c.args.geometry.now c.args.text.now (map (λ x. x.now) c.loop-line.yielded) c.loop-line.drafts
    c.loop-line.number c.in-Some.line.now
    c.loop-line.invariant (omega (arith, turn.0))
    (rw long turn.1) c.read.new.self c.saturating_add-number.result c.in_default.ensures
    (omega (arith, c.saturating_add-number.ensures)))

pub returns-in-Err-clause-refused : goal.returns-in-Err-clause-refused
returns-in-Err-clause-refused c =
    let turn = YieldsList-turn
    (YieldsList-from_slice_split {s = c.into_iter-line-iterator.result} _ (λ b. b == 10) c.args.text.now (cc) (cc) (cc)
    (λ x r q k. search (rules, tests))) c.loop-line.yielded _ c.loop-line.yielded_by _ _ c.in-Some.line c.in-Some.is
    c.next.ensures.steps in
    let long = length-map c.loop-line.yielded (λ (x : Bor (List ℕ)). x.now) in
    rw c.at.ensures
    (refused_at c.args.geometry.now c.args.text.now (map (λ x. x.now) c.loop-line.yielded) c.loop-line.drafts
    c.loop-line.number c.in-Some.line.now
    c.loop-line.invariant (omega (arith, turn.0))
    (rw long turn.1) c.in-Err.error c.saturating_add-number.result c.in-Err.ensures
    (omega (arith, c.saturating_add-number.ensures)))

pub returns-clause-volumes : goal.returns-clause-volumes
returns-clause-volumes c =
    let end = YieldsList-end
    (YieldsList-from_slice_split {s = c.into_iter-line-iterator.result} _ (λ b. b == 10) c.args.text.now (cc) (cc) (cc)
    (λ x r q k. search (rules, tests))) c.loop-line.yielded _ c.loop-line.yielded_by _ _ c.in-None.is
    c.next.ensures.steps in
    let all = read_all c.args.geometry.now c.args.text.now
    (map (λ x. x.now) c.loop-line.yielded) c.loop-line.drafts c.loop-line.number c.loop-line.invariant end.0 in
    (all.0, c.into_volumes.ensures ∙ all.1)
