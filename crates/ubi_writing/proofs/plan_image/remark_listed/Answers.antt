use Rattle.ubi_writing.proofs.Prelude.{◌∙◌, ap, sym, ◌/◌, ◌<◌, subst, ◌≡◌, blocks_in}
use Rattle.ubi_writing.proofs.plan_image.remark_listed.Goals as goal

pub is_held-requires-clause-inside : goal.is_held-requires-clause-inside
is_held-requires-clause-inside g c =
    let s = c.args.geometry.now in
    let count : c.in-Ok-block_count.count ≡ blocks_in s (g.S.BlockSource.known c.args.source.now) =
    c.in-Ok-block_count.ensures.0 ∙ ap (λ n. n / s.peb_size) c.len.ensures in
    subst (λ n. c.loop-p.p < n) (count ∙ sym c.loop-p.invariant.blocks) c.loop-p-test.true
