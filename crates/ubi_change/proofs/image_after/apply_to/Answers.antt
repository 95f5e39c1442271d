use Rattle.ubi_change.proofs.Prelude.{◌≡◌, ◌+◌, ◌-◌, ◌*◌, List, ℕ, length, ap, sym, ◌∙◌, subst, arith, overwrite, put_all, FitsBlock, block_after}
use Rattle.ubi_change.proofs.image_after.apply_to.Goals as goal

pub returns-in-Program : goal.returns-in-Program
returns-in-Program c =
    let page = c.in-Program.page in
    let at = page * c.page.result in
    let k = at + c.page-in-Program.result - at in
    let bytes : c.copy_from_slice.new.self ≡ c.in-Program.bytes = c.copy_from_slice.ensures.after
    ∙ c.as_slice.ensures in
    let is = c.in-Program.is in
    let fits = subst (FitsBlock c.args.geometry.now) is c.requires.page in
    let size : length c.copy_from_slice.new.self ≡ k = ap length bytes ∙ fits.1
    ∙ (let e = c.page-in-Program.ensures.value in omega arith) in
    put_all at k c.copy_from_slice.new.self c.args.block.now size
    ∙ ap (λ (x : List ℕ). overwrite at x c.args.block.now) bytes
    ∙ ap (λ n. overwrite (page * n) c.in-Program.bytes c.args.block.now) c.page.ensures.value
    ∙ ap (block_after c.args.geometry.now c.args.block.now) (sym is)
