use Rattle.ubi_compose.proofs.Prelude.{◌==◌, [], sym, ◌∙◌, slice_split, option_map_or}
use Rattle.ubi_compose.proofs.Escapes.{not_read, part_read}
use Rattle.ubi_compose.proofs.shown.shown_bytes.Goals as goal

pub returns-then-not-put_escape : goal.returns-then-not-put_escape
returns-then-not-put_escape c =
    not_read c.args.word.now c.loop-rest.name.items c.cut-in-Some.result.0.now
    (option_map_or (λ text. slice_split (λ b. b == 92) text.now) c.loop-rest.rest [])
    (option_map_or (λ text. slice_split (λ b. b == 92) text.now) c.cut-in-Some.result.1 [])
    c.loop-rest.invariant (cc) (sym c.put_escape.ensures.fits ∙ c.if-not-put_escape.true)

pub loop-rest-preserved : goal.loop-rest-preserved
loop-rest-preserved c =
    part_read c.args.word.now c.loop-rest.name.items c.cut-in-Some.result.0.now c.put_escape.new.name.items
    (option_map_or (λ text. slice_split (λ b. b == 92) text.now) c.loop-rest.rest [])
    (option_map_or (λ text. slice_split (λ b. b == 92) text.now) c.cut-in-Some.result.1 [])
    c.loop-rest.invariant (cc) (sym c.put_escape.ensures.fits ∙ c.if-not-put_escape.false)
    (c.put_escape.ensures.added c.if-not-put_escape.false)
