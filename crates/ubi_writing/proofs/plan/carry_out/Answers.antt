use Rattle.ubi_writing.proofs.Prelude.{ℕ, [], refl, subst, blocks_in, All, First, NotAll, Wrote, cut_text, steps_done, first_within}
use Rattle.ubi_writing.proofs.Cut.{failed_firsts, is_cut, part_read, part_written, wrote_firsts}
use Rattle.ubi_writing.proofs.plan.carry_out.Goals as goal

pub write_after-requires-clause-ready : goal.write_after-requires-clause-ready
write_after-requires-clause-ready g c =
    let s = c.args.geometry.now in
    let n = blocks_in s (g.S.BlockSource.known c.args.source.now) in
    (n, first_within s n c.args.steps.now c.steps_done-count.result c.requires.within)

pub returns-in-Err-Read-clause-err : goal.returns-in-Err-Read-clause-err
returns-in-Err-Read-clause-err g c =
    let s = c.args.geometry.now in
    let steps = c.args.steps.now in
    let known = g.S.BlockSource.known c.args.source.now in
    let agrees = g.S.BlockSource.agrees c.write_after.new.source in
    let old = g.W.Write.contents c.args.writer.now in
    let now = g.W.Write.contents c.write_after.new.writer in
    let part : (n : ℕ) × Wrote agrees old now (cut_text s steps c.steps_done-count.result) First 0 n =
    part_read s known agrees old now (cut_text s steps c.steps_done-count.result) _ _ _ c.in-Err-Read.field-0-is
    (failed_firsts s steps c.steps_done-count.result known agrees old now _ (c.in-Err-Read.ensures.failed [] refl)) in
    subst (λ (k : ℕ). (n : ℕ) × Wrote agrees old now (cut_text s steps k) First 0 n) c.steps_done-count.ensures part

pub returns-in-Err-Write-clause-err : goal.returns-in-Err-Write-clause-err
returns-in-Err-Write-clause-err g c =
    let s = c.args.geometry.now in
    let steps = c.args.steps.now in
    let known = g.S.BlockSource.known c.args.source.now in
    let agrees = g.S.BlockSource.agrees c.write_after.new.source in
    let old = g.W.Write.contents c.args.writer.now in
    let now = g.W.Write.contents c.write_after.new.writer in
    let part : (n : ℕ) × Wrote agrees old now (cut_text s steps c.steps_done-count.result) NotAll 0 n =
    part_written s known agrees old now (cut_text s steps c.steps_done-count.result) _ _ c.in-Err-Write.field-0-is
    (failed_firsts s steps c.steps_done-count.result known agrees old now _ (c.in-Err-Write.ensures.failed [] refl)) in
    subst (λ (k : ℕ). (n : ℕ) × Wrote agrees old now (cut_text s steps k) NotAll 0 n) c.steps_done-count.ensures part

pub returns-in-Ok-clause-written : goal.returns-in-Ok-clause-written
returns-in-Ok-clause-written g c =
    let s = c.args.geometry.now in
    let steps = c.args.steps.now in
    let agrees = g.S.BlockSource.agrees c.write_after.new.source in
    let old = g.W.Write.contents c.args.writer.now in
    let now = g.W.Write.contents c.write_after.new.writer in
    subst (λ (n : ℕ). Wrote agrees old now (cut_text s steps (steps_done steps c.args.stop)) All 0 n) c.in-Ok.ensures.count
    (subst (λ (k : ℕ). Wrote agrees old now (cut_text s steps k) All 0 c.in-Ok.field-0) c.steps_done-count.ensures
    (wrote_firsts s steps c.steps_done-count.result (g.S.BlockSource.known c.args.source.now) agrees old now All _ (c.in-Ok.ensures.written [] refl)))

pub returns-in-Ok-clause-cut : goal.returns-in-Ok-clause-cut
returns-in-Ok-clause-cut g c = λ bytes holds.
    let s = c.args.geometry.now in
    let known = g.S.BlockSource.known c.args.source.now in
    is_cut s c.peb_size.ensures.limits bytes known.size c.requires.whole
    ((g.met.S.BlockSource.sized c.args.source.now).sized bytes (c.in-Ok.ensures.narrows bytes holds)) c.args.steps.now c.requires.within
    (steps_done c.args.steps.now c.args.stop)
