use Rattle.ubi_compose.proofs.Prelude.{◌≡◌, ◌+◌, ◌*◌, ◌≤◌, ◌∙◌, ap, get_or, sym, subst, arith, None, sum_by-take-le, sum_by_more, Sizes, rec_fault, usable, Parts, pieces_of, Part}
use Rattle.ubi_compose.proofs.ListedParts.{few_blocks, listed_here, part_fits, part_sound}
use Rattle.ubi_compose.proofs.built_image.most_blocks.Goals as goal

pub piece_count-requires-clause-sound : goal.piece_count-requires-clause-sound
piece_count-requires-clause-sound c =
    let ps : Parts = c.args.recipe.now in
    let p : Part = c.part-item.result in
    let i = c.loop-part.part-index in
    subst (λ (s : Sizes). rec_fault s p.entry ≡ None) (sym c.geometry-geometry.ensures.value)
    (part_sound ps c.geometry-geometry.ensures.meaning i p
    (listed_here ps.of _ i p c.parts-part-items.ensures.value c.loop-part-test.true c.part-item.is).0)

pub piece_count-requires-clause-fits : goal.piece_count-requires-clause-fits
piece_count-requires-clause-fits c =
    let ps : Parts = c.args.recipe.now in
    let p : Part = c.part-item.result in
    let i = c.loop-part.part-index in
    subst (λ (s : Sizes). p.len ≤ p.entry.reserved * usable s p.entry) (sym c.geometry-geometry.ensures.value)
    (part_fits ps c.geometry-geometry.ensures.meaning i p
    (listed_here ps.of _ i p c.parts-part-items.ensures.value c.loop-part-test.true c.part-item.is).0)

pub overflow_add-count : goal.overflow_add-count
overflow_add-count c =
    let ps : Parts = c.args.recipe.now in
    let p : Part = c.part-item.result in
    let i = c.loop-part.part-index in
    let here = listed_here ps.of _ i p c.parts-part-items.ensures.value c.loop-part-test.true c.part-item.is in
    let more = sum_by_more (pieces_of ps.sizes) ps.of i p here.1 in
    let most = sum_by-take-le (pieces_of ps.sizes) ps.of (i + 1) in
    let few = few_blocks ps c.geometry-geometry.ensures.meaning in
    let count : c.from-count.result ≡ pieces_of ps.sizes (get_or ps.of i p) = c.from-count.ensures
    ∙ c.piece_count.ensures.value ∙ ap (λ (s : Sizes). pieces_of s p) c.geometry-geometry.ensures.value
    ∙ ap (pieces_of ps.sizes) (c.part-item.is ∙ ap (λ xs. get_or xs i p) c.parts-part-items.ensures.value) in
    let pebs = c.geometry-geometry.ensures.limits.pebs_to in
    let so_far = c.loop-part.invariant in
    omega (arith, more, most, few, count, pebs, so_far)

pub returns-clause-few : goal.returns-clause-few
returns-clause-few c =
    let ps : Parts = c.args.recipe.now in
    let most = sum_by-take-le (pieces_of ps.sizes) ps.of c.loop-part.part-index in
    let few = few_blocks ps c.geometry-geometry.ensures.meaning in
    let so_far = c.loop-part.invariant in
    omega (arith, most, few, so_far)
