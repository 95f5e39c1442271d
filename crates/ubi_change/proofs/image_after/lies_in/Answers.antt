use Rattle.ubi_change.proofs.Prelude.{◌/◌, length, ap, sym, ◌∙◌, nat_lt, length-first_chunks}
use Rattle.ubi_change.proofs.image_after.lies_in.Goals as goal

pub returns : goal.returns
returns c =
    let e = c.peb_size.ensures.value in
    ap (λ n. nat_lt c.args.p (length c.args.image.now / n)) e
    ∙ ap (nat_lt c.args.p) (sym (length-first_chunks c.args.geometry.now.peb_size _ c.args.image.now))
