use Rattle.ubi_change.proofs.Prelude.{ap₂, ◌∙◌, filled}
use Rattle.ubi_change.proofs.pages.ec_page.Goals as goal

pub returns : goal.returns
returns c = c.new.ensures ∙ c.in_ok-fill_up.ensures
    ∙ ap₂ filled c.page-2.ensures.value (c.in_ok-bytes.ensures.items ∙ c.write_ec.ensures.bytes)
