use Rattle.ubi_dumps.proofs.Prelude.{◌∙◌, err_from_is_err_and, Tells-weaker}
use Rattle.ubi_dumps.proofs.Found.{first_in_memory, nothing_in_memory}
use Rattle.ubi_dumps.proofs.dump.seek_whole.Goals as goal

pub returns-in_err-told-clause-nothing : goal.returns-in_err-told-clause-nothing
returns-in_err-told-clause-nothing c =
    let p = err_from_is_err_and c.from_residual.result c.from_residual.ensures.1 in
    let work = c.in_err-told.ensures in
    rw (p.1, p.2) (Tells-weaker _ _
    (λ o h. nothing_in_memory c.args.file.bytes.items _ _ (c.new-source.ensures ∙ c.as_slice.ensures.value) work.narrows c.args.sought.now.part
    c.args.path.now c.args.side.now o h) _ work.nothing)

pub returns-clause-told : goal.returns-clause-told
returns-clause-told c =
    let work = c.in_ok-told.ensures in
    let first = first_in_memory c.args.file.bytes.items _ _ (c.new-source.ensures ∙ c.as_slice.ensures.value) work.narrows
    c.args.sought.now.part c.in_ok-told.told work.first in
    (c.in_ok-told.told, first, c.in_ok-dump.ensures.dump, c.keep_part.ensures)
