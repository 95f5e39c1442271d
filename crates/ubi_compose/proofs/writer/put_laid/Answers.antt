use Rattle.ubi_compose.proofs.Prelude.{◌+◌, ap, ◌∙◌, refl, sym, arith, sound, anything, wrote_cut, wrote_text}
use Rattle.ubi_compose.proofs.writer.put_laid.Goals as goal

pub returns-in-Ok-clause-put : goal.returns-in-Ok-clause-put
returns-in-Ok-clause-put g c =
    wrote_text (sound 0) anything _ _ _ c.lay.new.buffer c.args.device.now.geometry.peb_size c.args.done _ c.in-Ok.ensures.ok
    (c.lay.auto.buffer ∙ c.requires.room) (ap (λ n. c.args.done + n) (c.from.ensures ∙ c.peb_size.ensures.value))
    (λ bytes t holds w. w ∙ sym c.lay.ensures)

pub returns-in-Err-clause-put : goal.returns-in-Err-clause-put
returns-in-Err-clause-put g c =
    wrote_cut (sound 0) anything _ _ _ c.lay.new.buffer c.args.device.now.geometry.peb_size c.in-Err.more c.args.done _
    c.in-Err.ensures.err (c.lay.auto.buffer ∙ c.requires.room)
    (let short = c.in-Err.ensures.short in let long = c.lay.auto.buffer in omega (arith, short, long, c.requires.room)) refl
    (λ bytes t holds w. w ∙ sym c.lay.ensures)
