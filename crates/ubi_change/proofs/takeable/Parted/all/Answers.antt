use Rattle.ubi_change.proofs.Prelude.{◌≡◌, ◌-◌, ◌++◌, ◌∙◌, length, take, ap, ap₂, arith, min}
use Rattle.ubi_change.proofs.FirstTakeable.{with_room}
use Rattle.ubi_change.proofs.takeable.Parted.all.Goals as goal

pub returns : goal.returns
returns c =
    let xs = c.args.self.clean.items in
    let ys = c.args.self.other.items in
    let count : c.min-more.result ≡ min (length ys) (c.args.most - length xs) =
    (let e = c.args.self.clean.ok.0 in let f = c.args.self.other.ok.0 in omega (arith, c.len.ensures, c.len-2.ensures, c.min-more.ensures, e, f)) in
    c.in_ok-extend_from_slice.ensures.items
    ∙ ap (λ zs. xs ++ zs) (ap₂ take count c.as_slice.ensures.value)
    ∙ with_room c.args.most xs ys c.requires
