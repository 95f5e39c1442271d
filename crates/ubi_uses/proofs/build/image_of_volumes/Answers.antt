use Rattle.std.proofs.Common.{◌≡◌, ℕ, List, ◌++◌, length, refl, sym, ap, ◌∙◌, subst, arith}
use Rattle.std.proofs.lemmas.List.{take_all}
use Rattle.ubi_scan.specs.Image.{image_of}
use Rattle.ubi_volume.specs.Accepts.{Accepts}
use Rattle.ubi_compose.specs.Built.{Parts, built}
use Rattle.ubi_compose.specs.Composed.{composed}
use Rattle.ubi_uses.proofs.build.image_of_volumes.Goals as goal

pub returns : goal.returns
returns c =
    let ps : Parts = c.args.recipe.now in
    let bytes : List ℕ = c.args.bytes.now in
    let held : bytes ≡ c.build_to.new.source =
    sym c.new-source.ensures ∙ sym (c.in_ok-build_to.ensures.narrows c.build_to.new.source refl) in
    let text : List ℕ = composed (built ps bytes) 0 in
    let h = c.in_ok-build_to.ensures.written in
    let all = h.held bytes held text refl in
    let whole : h.bytes ≡ text = all.1 ∙ take_all (length h.bytes) text (let size = all.0 in omega (arith, size)) in
    let image = h.got ∙ ap (λ xs. xs ++ h.bytes) c.new-image.ensures.items ∙ whole in
    subst (λ (xs : List ℕ). Accepts (image_of ps.sizes xs) (built ps bytes)) (sym image)
    (c.in_ok-build_to.ensures.accepted bytes held)
