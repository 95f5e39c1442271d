use Rattle.ubi_volume.proofs.Prelude.{not, rules, filter_same_pairs, is_blank}
use Rattle.ubi_volume.proofs.WithoutBlank.{tree_without_blank}
use Rattle.ubi_volume.proofs.content.Lebs.drop_blank.Goals as goal

pub returns : goal.returns
returns c =
    rw (← c.self.view_is)
    (tree_without_blank c.self.inside.held c.retain.new.self c.retain.ensures.was_ordered
    (filter_same_pairs _ (λ e. not (is_blank e.1)) _ (λ k v b w f t. search rules) _ _ c.retain.ensures.filtered))
