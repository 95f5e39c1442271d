use Rattle.ubi_detect.proofs.Prelude.{rules, ◌∙◌, ap, sym, length, arith, filter, fold, ◌==◌, map, max, IfOk-weaker, has_vote, votes, is_most_voted}
use Rattle.ubi_detect.proofs.Looking.{looks_on, looks_same}
use Rattle.ubi_detect.proofs.MostVoted.{told_if_less, told_if_most}
use Rattle.ubi_detect.proofs.place.told_ways.Goals as goal

pub returns-then-greatest-clause-told : goal.returns-then-greatest-clause-told
returns-then-greatest-clause-told g c =
    IfOk-weaker c.voted-then-greatest.result _ _
    (λ told is bytes holds.
    let f = c.args.group.now in
    let two = c.voted-then-greatest.ensures.source.narrows bytes holds in
    let with = c.in_ok-with.ensures.votes bytes (c.in_ok-without.ensures.source.narrows bytes two)
    ∙ ap (map (votes bytes f)) (c.as_slice-2.ensures.value ∙ c.requires.ways.with) in
    let without = c.in_ok-without.ensures.votes bytes two ∙ ap (map (votes bytes f)) (c.as_slice-3.ensures.value ∙ c.requires.ways.without) in
    let v = c.greatest.ensures ∙ ap (fold max 0) c.as_slice-4.ensures.value in
    let u = c.greatest-2.ensures ∙ ap (fold max 0) c.as_slice-5.ensures.value in
    is bytes holds ∙ ap (filter (has_vote bytes f)) (c.as_slice-then-greatest.ensures.value ∙ c.requires.ways.without)
    ∙ told_if_less bytes f c.in_ok-with.with.items c.in_ok-without.without.items with without
    (omega (arith, c.if-greatest.true, v, u)))
    c.voted-then-greatest.ensures.voted

pub returns-clause-told : goal.returns-clause-told
returns-clause-told g c = λ bytes holds.
    let f = c.args.group.now in
    let ws = c.as_slice-6.ensures.value ∙ c.requires.ways.with in
    let with = c.in_ok-with.ensures.votes bytes (c.in_ok-without.ensures.source.narrows bytes holds)
    ∙ ap (map (votes bytes f)) (c.as_slice-2.ensures.value ∙ c.requires.ways.with) in
    let without = c.in_ok-without.ensures.votes bytes holds ∙ ap (map (votes bytes f)) (c.as_slice-3.ensures.value ∙ c.requires.ways.without) in
    let v = c.greatest.ensures ∙ ap (fold max 0) c.as_slice-4.ensures.value in
    let u = c.greatest-2.ensures ∙ ap (fold max 0) c.as_slice-5.ensures.value in
    let some = ap (λ xs. length xs == 0) (sym (c.as_slice-2.ensures.value ∙ c.requires.ways.with))
    ∙ ap (λ n. n == 0) c.as_slice-2.ensures.len ∙ sym c.is_empty.ensures ∙ c.if-is_empty.false in
    c.in_ok-most_voted.ensures (votes bytes f) (c.as_slice-7.ensures.value ∙ with ∙ ap (map (votes bytes f)) (sym ws))
    ∙ ap (λ xs. filter (is_most_voted (votes bytes f) xs) xs) ws
    ∙ told_if_most bytes f c.in_ok-with.with.items c.in_ok-without.without.items with without
    (omega (arith, c.if-greatest.false, v, u)) some

pub returns-in_err-without-clause-source : goal.returns-in_err-without-clause-source
returns-in_err-without-clause-source g c = record {
  known = search rules;
  narrows = λ bytes holds. c.in_ok-with.ensures.source.narrows bytes (c.votes_of-2.ensures.source.narrows bytes holds);
  named = search rules;
}

pub returns-then-greatest-clause-source : goal.returns-then-greatest-clause-source
returns-then-greatest-clause-source g c =
    looks_on _ _ _ _ _ _ c.in_ok-with.ensures.source
    (looks_on _ _ _ _ _ _ c.in_ok-without.ensures.source c.voted-then-greatest.ensures.source)

pub returns-in_err-most_voted-clause-source : goal.returns-in_err-most_voted-clause-source
returns-in_err-most_voted-clause-source g c = record {
  known = search rules;
  narrows = λ bytes holds. c.in_ok-with.ensures.source.narrows bytes (c.in_ok-without.ensures.source.narrows bytes holds);
  named = search rules;
}

pub returns-clause-source : goal.returns-clause-source
returns-clause-source g c =
    looks_same _ _ _ _ _ (looks_on _ _ _ _ _ _ c.in_ok-with.ensures.source c.in_ok-without.ensures.source)
