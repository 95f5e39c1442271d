use Rattle.ubi_writing.proofs.Prelude.{Tells-weaker, err_from_is_err_and}
use Rattle.ubi_writing.proofs.AskedVolumes.{all_are, config_faulty, config_is, config_unread, section_unasked, word_unasked}
use Rattle.ubi_writing.proofs.all_asked.gather_with.Goals as goal

pub returns-in_err-geometry-clause-unread : goal.returns-in_err-geometry-clause-unread
returns-in_err-geometry-clause-unread g c =
    let from = err_from_is_err_and c.from_residual.result c.from_residual.ensures.1 in
    rw (from.1, from.2)
    (Tells-weaker _ _ (config_unread (g.D.Disk.files c.args.disk.now) c.args.numbers c.args.asked.now c.args.config c.requires) _
    c.in_err-geometry.ensures.unread)

pub returns-in_err-sections-clause-unread : goal.returns-in_err-sections-clause-unread
returns-in_err-sections-clause-unread g c =
    let from = err_from_is_err_and c.from_residual-in_err-sections.result c.from_residual-in_err-sections.ensures.1 in
    rw (from.1, from.2)
    (Tells-weaker _ _ (config_faulty (g.D.Disk.files c.args.disk.now) c.args.numbers c.args.asked.now c.args.config c.requires
    c.in_ok-geometry.field-0.text.items c.in_ok-geometry.ensures.named) _ (rw c.as_slice.ensures.value at c.in_err-sections.ensures.refused))

pub returns-in_err-contents-clause-unread : goal.returns-in_err-contents-clause-unread
returns-in_err-contents-clause-unread g c =
    let d = g.D.Disk.files c.args.disk.now in
    let u = c.args.asked.now in
    let from = err_from_is_err_and c.from_residual-in_err-contents.result c.from_residual-in_err-contents.ensures.1 in
    let none = rw c.as_slice.ensures.value at c.in_ok-sections.ensures.faultless in
    let read = rw c.as_slice.ensures.value at c.in_ok-sections.ensures.sections in
    let config = config_is d c.args.numbers u c.args.config c.requires c.in_ok-geometry.field-0.text.items c.in_ok-geometry.ensures.named none in
    rw (from.1, from.2)
    (Tells-weaker _ _ (word_unasked d c.args.numbers u c.args.config c.requires _ config) _ c.in_err-contents.ensures.unread)

pub returns-in_err-gather_volumes-clause-unread : goal.returns-in_err-gather_volumes-clause-unread
returns-in_err-gather_volumes-clause-unread g c =
    let d = g.D.Disk.files c.args.disk.now in
    let u = c.args.asked.now in
    let from = err_from_is_err_and c.from_residual-in_err-gather_volumes.result c.from_residual-in_err-gather_volumes.ensures.1 in
    let none = rw c.as_slice.ensures.value at c.in_ok-sections.ensures.faultless in
    let read = rw c.as_slice.ensures.value at c.in_ok-sections.ensures.sections in
    let config = config_is d c.args.numbers u c.args.config c.requires c.in_ok-geometry.field-0.text.items c.in_ok-geometry.ensures.named none in
    rw (from.1, from.2)
    (Tells-weaker _ _ (section_unasked d c.args.numbers u c.args.config c.requires _ config) _
    (rw (c.as_slice-2.ensures.value, read) at c.in_err-gather_volumes.ensures.unread))

pub returns-clause-asked : goal.returns-clause-asked
returns-clause-asked g c =
    let d = g.D.Disk.files c.args.disk.now in
    let u = c.args.asked.now in
    let none = rw c.as_slice.ensures.value at c.in_ok-sections.ensures.faultless in
    let read = rw c.as_slice.ensures.value at c.in_ok-sections.ensures.sections in
    let config = config_is d c.args.numbers u c.args.config c.requires c.in_ok-geometry.field-0.text.items c.in_ok-geometry.ensures.named none in
    all_are d c.args.numbers u c.args.config c.requires _ config c.in_ok-contents.contents c.gather_volumes.new.contents _ _ _
    c.in_ok-contents.ensures.filled (rw (c.as_slice-2.ensures.value, read) at c.in_ok-gather_volumes.ensures.imaged)
    c.in_ok-add_read.ensures.asks c.in_ok-add_read.ensures.volumes c.in_ok-add_read.ensures.total c.in_ok-add_read.ensures.paths
