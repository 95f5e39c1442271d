use Rattle.ubi_files.proofs.Prelude.{◌∙◌, ap, sym, take, with_items_is, pages_of}
use Rattle.ubi_files.proofs.PageBytes.{pages_none}
use Rattle.ubi_files.proofs.pages.keep_pages.Goals as goal

pub returns-then-oob-eq0 : goal.returns-then-oob-eq0
returns-then-oob-eq0 c =
    sym (ap (λ k. pages_of c.args.page k c.args.bytes.now.items) c.if-oob-eq0.true ∙ pages_none c.args.page c.requires c.args.bytes.now.items)

pub returns : goal.returns
returns c =
    c.truncate.ensures.items
    ∙ ap (λ xs. take c.close_gaps-kept.result xs)
    (with_items_is c.args.bytes.now c.close_gaps-kept.new.bytes (c.close_gaps-kept.auto.bytes ∙ c.as_mut_slice.ensures.len))
    ∙ c.close_gaps-kept.ensures.pages ∙ ap (λ xs. pages_of c.args.page c.args.oob xs) c.as_mut_slice.ensures.value
