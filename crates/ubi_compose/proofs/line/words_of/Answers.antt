use Rattle.ubi_compose.proofs.Prelude.{ap, map, ◌==◌, ◌∙◌, rules, tests, take_source, YieldsList-from_take, YieldsList-end, YieldsList-from_slice_split}
use Rattle.ubi_compose.proofs.line.words_of.Goals as goal

pub returns : goal.returns
returns c =
    let end = YieldsList-end (YieldsList-from_take {s = c.into_iter-word-iterator.result} 8
    (YieldsList-from_slice_split {s = take_source c.into_iter-word-iterator.result} _ (λ b. b == 32) c.args.text.now
    (cc) (cc) (cc)
    (λ x r q k. search (rules, tests)))
    (cc)) c.loop-word.yielded _ c.loop-word.yielded_by _ _ c.in-None.is c.next.ensures.steps in
    ap (map (λ w. w.now)) c.loop-word.invariant ∙ end.0
