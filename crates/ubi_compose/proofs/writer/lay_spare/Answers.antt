use Rattle.ubi_compose.proofs.Prelude.{◌-◌, ◌++◌, ◌∙◌, ap, length, sym, ec_bytes, blank, filled-is, new_ec}
use Rattle.ubi_compose.proofs.writer.lay_spare.Goals as goal

pub returns : goal.returns
returns c =
    let s = c.args.geometry.now in
    let ec = ec_bytes s (new_ec c.args.image_seq) in
    c.put_front.ensures
    ∙ ap (λ xs. xs ++ blank (length c.args.buffer.now - length xs))
    (c.write_ec.ensures.bytes ∙ ap (ec_bytes s) c.new_ec.ensures)
    ∙ ap (λ n. ec ++ blank (n - length ec)) c.requires ∙ sym (filled-is s.peb_size ec)
