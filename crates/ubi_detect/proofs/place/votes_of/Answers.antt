use Rattle.ubi_detect.proofs.Prelude.{◌∙◌, ◌++◌, ◌∷◌, [], ◌+◌, List, ap, sym, take, ℕ, map, map_more, votes, Way}
use Rattle.ubi_detect.proofs.place.votes_of.Goals as goal

pub loop-way-preserved : goal.loop-way-preserved
loop-way-preserved g c = record {
  source = c.in_ok-count.ensures.source.known ∙ c.loop-way.invariant.source;
  narrows = λ bytes holds. c.loop-way.invariant.narrows bytes (c.in_ok-count.ensures.source.narrows bytes holds);
  many = c.in_ok-push.ensures.len ∙ ap (λ n. n + 1) c.loop-way.invariant.many;
  votes = λ bytes holds.
      let f : Way → ℕ = votes bytes c.args.group.now in
      let ws : List Way = c.args.ways.now in
      let i = c.loop-way.way-index in
      let xs : List ℕ = map f (take i ws) in
      c.in_ok-push.ensures.items
      ∙ ap (λ xs. xs ++ c.in_ok-count.count ∷ []) (c.loop-way.invariant.votes bytes (c.in_ok-count.ensures.source.narrows bytes holds))
      ∙ ap (λ x. xs ++ x ∷ []) (c.in_ok-count.ensures.count bytes holds)
      ∙ ap (λ w. xs ++ f w ∷ []) c.way-item.is ∙ sym (map_more f ws i c.way-item.result c.loop-way-test.true);
}
