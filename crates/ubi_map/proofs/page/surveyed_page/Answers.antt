use Rattle.ubi_map.proofs.Prelude.{◌≡◌, ◌∙◌, ap, false, map, string_bytes, subst, sym, IfOk-weaker, Data, has_float, page_of}
use Rattle.ubi_map.proofs.Whole.{surveyed_whole}
use Rattle.ubi_map.proofs.page.surveyed_page.Goals as goal

pub page_of-requires : goal.page_of-requires
page_of-requires c =
    subst (λ (d : Data). has_float d ≡ false) (sym c.in_ok-value.ensures)
    (surveyed_whole c.args.geometry.now (map string_bytes c.args.texts.now) c.args.surveyed.now c.args.volumes.now)

pub returns : goal.returns
returns c = IfOk-weaker c.page_of.result _ _ (λ page is. is ∙ ap page_of c.in_ok-value.ensures) c.page_of.ensures
