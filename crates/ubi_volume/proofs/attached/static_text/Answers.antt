use Rattle.ubi_volume.proofs.Prelude.{◌++◌, ◌∙◌, ap, length, arith, take_all}
use Rattle.ubi_volume.proofs.attached.static_text.Goals as goal

pub returns-in-Ok-clause-read : goal.returns-in-Ok-clause-read
returns-in-Ok-clause-read g c = λ bytes holds all w.
    let h = c.in-Ok.ensures.written in
    let of = h.held bytes holds all w in
    c.new.ensures ∙ h.got ∙ ap (λ x. x ++ h.bytes) c.new-text.ensures.items ∙ of.1
    ∙ take_all (length h.bytes) all (let e = of.0 in omega arith)
