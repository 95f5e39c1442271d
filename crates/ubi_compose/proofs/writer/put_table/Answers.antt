use Rattle.ubi_compose.proofs.Prelude.{◌≡◌, ◌+◌, ◌-◌, ◌≤◌, ◌∙◌, ap, arith, List, ℕ, drop, length, length-take-le, subst, take, sym, VidHeader, laid_bytes, new_ec, anything, NoRead, table_block, text_is}
use borrow.Rule.Slice.PartMut.{post_of, put_mid}
use Rattle.ubi_compose.proofs.Received.{put_where}
use Rattle.ubi_compose.proofs.writer.put_table.Goals as goal

pub returns-clause-put : goal.returns-clause-put
returns-clause-put g c =
    let d = c.args.device.now in
    let table = c.args.table.now in
    let old = c.args.buffer.now in
    let begin = c.data_offset-begin.result in
    let at : begin ≡ d.geometry.data_offset = c.data_offset-begin.ensures.value in
    let leb = c.data_offset-begin.ensures.limits.leb in
    let wide : begin ≤ length old = omega (arith, at, leb, c.requires.room) in
    let room = begin + length table - begin in
    let is = subst (λ (x : List ℕ). take (length table) (drop d.geometry.data_offset (put_mid begin room old x)) ≡ table)
    (sym c.copy_from_slice.ensures.after)
    (ap (λ n. take (length table) (drop n (put_mid begin room old table))) (sym at)
    ∙ text_is (take begin old) table (post_of begin room old) begin (length-take-le begin old wide)) in
    let f = λ (h : VidHeader) (t : List ℕ). laid_bytes d.geometry (new_ec d.image_seq) (record { header = h; text = t }) in
    put_where anything anything (λ bytes holds. holds) NoRead NoRead (λ n h. h) _ (table_block d table c.args.copy)
    (λ bytes holds. sym (ap (f c.copy_header.result) is ∙ ap (λ h. f h table) c.copy_header.ensures))
    _ _ c.args.done c.put_laid.result c.put_laid.ensures.put
