use Rattle.ubi_change.proofs.Prelude.{◌≡◌, ◌+◌, List, ℕ, ap, arith, sym, ◌∙◌, block, blocks_of, wrote_cut, wrote_text, block_cut, block_text}
use Rattle.ubi_change.proofs.WrittenAfter.{nothing_of_unread, nothing_written, whole_read}
use Rattle.ubi_change.proofs.image_after.write_block.Goals as goal

pub returns-in-Ok-write_all-clause-written : goal.returns-in-Ok-write_all-clause-written
returns-in-Ok-write_all-clause-written g c bytes held =
    let s = c.args.geometry.now in
    let steps = g.E.BlockSteps.plan c.args.steps.now bytes in
    let p = c.args.p in
    let known = g.S.BlockSource.known c.args.source.now in
    let agrees = g.S.BlockSource.agrees c.read_part.new.source in
    let text : List ℕ = c.apply_in.new.block in
    let out : List ℕ = c.read_part.new.out in
    wrote_text known agrees _ _ (block_text s p steps) text s.peb_size c.args.done _ c.in-Ok-write_all.ensures.ok
    c.in-Ok-apply_in.ensures.size (let e = c.from-size.ensures in let h = c.peb_size.ensures.value in ap (λ n. c.args.done + n) (e ∙ h))
    (λ image t holds is.
    let read : out ≡ block (blocks_of s image) p = whole_read s known _ (g.met.S.BlockSource.sized c.args.source.now) image
    (c.in-Ok.ensures.narrows image holds) p _ out c.requires.inside c.requires.room (c.in-Ok.ensures.bytes image holds) in
    is ∙ ap (block_cut s p steps) (sym read) ∙ sym (c.in-Ok-apply_in.ensures.done bytes held))

pub returns-in-Err-apply_in-clause-failed : goal.returns-in-Err-apply_in-clause-failed
returns-in-Err-apply_in-clause-failed g c bytes held =
    let s = c.args.geometry.now in
    let steps = g.E.BlockSteps.plan c.args.steps.now bytes in
    let known = g.S.BlockSource.known c.args.source.now in
    let agrees = g.S.BlockSource.agrees c.read_part.new.source in
    let limits = c.peb_size.ensures.limits in
    let within = g.met.E.BlockSteps.within c.args.steps.now s c.requires.ready bytes (c.in-Err-apply_in.ensures.narrows bytes held) in
    nothing_written s known agrees
    (record { sized = λ image holds. (g.met.S.BlockSource.sized c.args.source.now).sized image (c.in-Ok.ensures.narrows image holds) })
    (omega (arith, limits.page_from)) (omega (arith, limits.peb_from)) within.0 c.args.p steps within.1 c.requires.inside _ c.args.done

pub returns-in-Err-write_all-clause-failed : goal.returns-in-Err-write_all-clause-failed
returns-in-Err-write_all-clause-failed g c bytes held =
    let s = c.args.geometry.now in
    let steps = g.E.BlockSteps.plan c.args.steps.now bytes in
    let p = c.args.p in
    let known = g.S.BlockSource.known c.args.source.now in
    let agrees = g.S.BlockSource.agrees c.read_part.new.source in
    let text : List ℕ = c.apply_in.new.block in
    let out : List ℕ = c.read_part.new.out in
    let more = c.in-Err-write_all.more in
    wrote_cut known agrees _ _ (block_text s p steps) text s.peb_size more c.args.done _ c.in-Err-write_all.ensures.err
    c.in-Ok-apply_in.ensures.size (omega (arith, c.in-Err-write_all.ensures.short, c.in-Ok-apply_in.ensures.size)) (λ i. c.args.done + more)
    (λ image t holds is.
    let read : out ≡ block (blocks_of s image) p = whole_read s known _ (g.met.S.BlockSource.sized c.args.source.now) image
    (c.in-Ok.ensures.narrows image holds) p _ out c.requires.inside c.requires.room (c.in-Ok.ensures.bytes image holds) in
    is ∙ ap (block_cut s p steps) (sym read) ∙ sym (c.in-Ok-apply_in.ensures.done bytes held))

pub returns-in-Err-Read-clause-failed : goal.returns-in-Err-Read-clause-failed
returns-in-Err-Read-clause-failed g c bytes held =
    ((let fault = rw c.in-Err-Read.field-0-is at c.in-Err-Read.ensures.failed in fault.0), nothing_of_unread _ _ (block_text c.args.geometry.now c.args.p (g.E.BlockSteps.plan c.args.steps.now bytes)) c.args.done)
