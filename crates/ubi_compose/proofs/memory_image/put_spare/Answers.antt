use Rattle.ubi_compose.proofs.Prelude.{refl, sym, ap, ◌∙◌, ◌++◌, append_assoc, on_ok_weaker, ec_bytes, filled-by, new_ec}
use Rattle.ubi_compose.proofs.memory_image.put_spare.Goals as goal

pub returns : goal.returns
returns c =
    let s = c.args.geometry.now in
    on_ok_weaker c.put_blank.result
    (λ e. e ∙ rw (c.in_ok-extend_from_slice.ensures.items, c.write_ec.ensures.bytes, c.new_ec.ensures, c.peb_size.ensures.value)
    (append_assoc c.args.image.now.items (ec_bytes s (new_ec c.args.image_seq)) _
    ∙ ap (λ x. c.args.image.now.items ++ x) (sym (filled-by s.peb_size 64 (ec_bytes s (new_ec c.args.image_seq)) refl))))
    c.put_blank.ensures
