use Rattle.ubi_files.proofs.Prelude.{◌≡◌, ◌+◌, ◌-◌, ℕ, arith, length, min, refl, subst, sym}
use Rattle.ubi_files.proofs.PageBytes.{AreClosed, closed_first, closed_more}
use Rattle.ubi_files.proofs.pages.close_gaps.Goals as goal

pub pages-init : goal.pages-init
pages-init c =
    closed_first c.args.page c.args.oob c.args.place c.args.bytes.now c.requires c.min-kept.result _ c.min-kept.ensures (omega arith)

pub pages-preserved : goal.pages-preserved
pages-preserved c =
    let n : ℕ = c.min-end.result - c.pages.from in
    let next : ℕ = c.pages.from + c.args.page + c.args.oob in
    let count : n ≡ min (length c.pages.bytes) (c.pages.from + c.args.page) - c.pages.from = omega (arith, c.min-end.ensures) in
    subst (λ now. AreClosed c.args.page c.args.oob c.args.place c.args.bytes.now now (c.pages.kept + n) next) (sym c.copy_within.ensures.after)
    (closed_more c.args.page c.args.oob c.args.place c.args.bytes.now c.requires c.pages.bytes c.pages.kept c.pages.from n next c.pages.invariant
    c.pages-test.true count refl)
