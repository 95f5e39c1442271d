use Rattle.ubi_map.proofs.Prelude.{◌∙◌, ap, IfOk-weaker, page_of}
use Rattle.ubi_map.proofs.page.refused_page.Goals as goal

pub returns : goal.returns
returns c = IfOk-weaker c.page_of.result _ _ (λ page is. is ∙ ap page_of c.in_ok-value.ensures.value) c.page_of.ensures
