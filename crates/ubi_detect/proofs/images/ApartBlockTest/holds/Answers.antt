use Rattle.ubi_detect.proofs.Prelude.{◌∙◌, ℕ, ◌+◌, ◌-◌, ◌%◌, ◌<◌, ◌≤◌, ap, arith, length, subst, not, le-ltb, lt-ltb, are_headers, block_with, holds_member, put, start_of_image}
use Rattle.ubi_detect.proofs.InTurn.{second_holds, last_of_three}
use Rattle.ubi_detect.proofs.images.ApartBlockTest.holds.Goals as goal

pub returns-then-len-block-clause-answer : goal.returns-then-len-block-clause-answer
returns-then-len-block-clause-answer g c = λ bytes holds.
    let f = c.args.self.now.group.now in
    let at = c.args.at in
    let sized = (g.met.S.BlockSource.sized c.args.source.now).sized bytes holds in
    let len = c.len.ensures in
    let P : ℕ → Type 0 = λ s. c.len.result < at - (at - s) % f.size + f.size in
    let less = subst P c.start_of_image-start.ensures c.if-len-block.true in
    second_holds _ _ _ (lt-ltb (length bytes) (block_with f at + f.size) (omega (arith, sized, len, less)))

pub returns-clause-answer : goal.returns-clause-answer
returns-clause-answer g c = λ bytes holds.
    let f = c.args.self.now.group.now in
    let w = c.args.self.now.way.now in
    let at = c.args.at in
    let start = c.start_of_image-start.ensures in
    let sized = (g.met.S.BlockSource.sized c.args.source.now).sized bytes (c.in_ok-are_headers.ensures.source.narrows bytes holds) in
    let len = c.len.ensures in
    let behind = c.if-at-start.false in
    let P : ℕ → Type 0 = λ s. at - (at - s) % f.size + f.size ≤ c.len.result in
    let inside = subst P start c.if-len-block.false in
    let block : ℕ → ℕ = λ s. at - (at - s) % f.size in
    last_of_three _ _ _ _
    (le-ltb at (start_of_image f) (omega (arith, start, behind)))
    (le-ltb (length bytes) (block_with f at + f.size) (omega (arith, sized, len, inside)))
    (ap not
    (c.in_ok-are_headers.ensures.are bytes holds
    ∙ ap (λ n. are_headers bytes w (block c.start_of_image-start.result) (block c.start_of_image-start.result + n))
    (c.put.ensures.place ∙ ap (put w) c.vid_offset.ensures.value)
    ∙ ap (λ s. holds_member bytes w (block s)) start))
