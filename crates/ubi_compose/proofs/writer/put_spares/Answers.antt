use Rattle.ubi_compose.proofs.Prelude.{◌≡◌, ℕ, ◌+◌, ◌*◌, ◌∙◌, List, Ok, length, refl, sym, arith, anything, sound, wrote_cut, wrote_text, those, spare, NoRead}
use Rattle.ubi_compose.specs.declared.errors.PutError.TheVariants as put
use Rattle.ubi_compose.proofs.Received.{both_put, firsts, next, next_failed}
use Rattle.ubi_compose.proofs.writer.put_spares.Goals as goal

pub returns-in-Err : goal.returns-in-Err
returns-in-Err g c =
    let d = c.args.device.now in
    let buffer : List ℕ = c.lay_spare.new.buffer in
    let long : length buffer ≡ d.geometry.peb_size = c.lay_spare.auto.buffer ∙ c.requires.room in
    next_failed (λ i bytes. spare d.geometry d.image_seq) NoRead anything _ _ _ c.args.count c.loop.counter c.args.done
    c.loop.total (put.Write (c.loop.total + c.in-Err.more)) c.loop-test.true c.loop.invariant.wrote
    (wrote_cut (sound 0) anything _ _ (those (λ bytes. spare d.geometry d.image_seq)) buffer d.geometry.peb_size
    c.in-Err.more c.loop.total _ c.in-Err.ensures.err long
    (let short = c.in-Err.ensures.short in omega (arith, short, long)) refl
    (λ bytes t holds w. w ∙ sym c.lay_spare.ensures))

pub loop-preserved : goal.loop-preserved
loop-preserved g c =
    let d = c.args.device.now in
    let buffer : List ℕ = c.lay_spare.new.buffer in
    let long : length buffer ≡ d.geometry.peb_size = c.lay_spare.auto.buffer ∙ c.requires.room in
    let piece = λ (i : ℕ) (bytes : List ℕ). spare d.geometry d.image_seq in
    record {
      wrote = both_put NoRead anything (firsts piece (c.loop.counter + 1)) (firsts piece c.loop.counter)
          (piece c.loop.counter) (next piece c.loop.counter) _ _ _ c.args.done c.loop.total (Ok (c.loop.total + length buffer))
          c.loop.invariant.wrote
          (wrote_text (sound 0) anything _ _ (those (λ bytes. spare d.geometry d.image_seq)) buffer
          (length buffer) c.loop.total _
          c.in-Ok.ensures.ok refl refl (λ bytes t holds w. w ∙ sym c.lay_spare.ensures));
      few = (let few = c.loop.invariant.few in let size : ℕ = d.geometry.peb_size in
          let next : (c.loop.counter + 1) * size ≡ c.loop.counter * size + size = omega arith in
          omega (arith, few, next, long));
    }
