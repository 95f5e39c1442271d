use Rattle.ubi_volume.proofs.Prelude.{rules, IsNonDecreasingBy-from_sort_by_key}
use Rattle.ubi_volume.proofs.meaning.arranged.Goals as goal

pub returns-clause-sorted : goal.returns-clause-sorted
returns-clause-sorted c = IsNonDecreasingBy-from_sort_by_key (λ e. e.0) _ c.sort_unstable_by_key.ensures.sorted
    (λ a r q k. search rules)
