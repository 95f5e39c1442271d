use Rattle.ubi_compare.proofs.Prelude.{differences}
use Rattle.ubi_compare.proofs.Adding.{all_found}
use Rattle.ubi_compare.proofs.compare.found_in.Goals as goal

pub returns-clause-told : goal.returns-clause-told
returns-clause-told g c = λ x xs y ys h k.
    all_found c.new-found.result c.compare_surveyed.new.found c.args.is_brief (differences h.meaning k.meaning)
    c.new-found.ensures.none c.new-found.ensures.brief (c.in_ok-compare_surveyed.ensures.told x xs y ys h k)
