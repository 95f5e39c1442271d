use Rattle.ubi_writing.proofs.Prelude.{◌≡◌, ◌/◌, blocks_line, wrote_nothing, source_narrowed, refuses}
use Rattle.ubi_writing.specs.Normalise.{refused, wrote}
use Rattle.ubi_writing.proofs.Normalised.{of_streamed}
use Rattle.ubi_writing.proofs.normalise.run_normalise.Goals as goal

pub returns-in-Ok-clause-ok : goal.returns-in-Ok-clause-ok
returns-in-Ok-clause-ok g c =
    let line : c.put_blocks_line.new.text.items ≡ blocks_line (c.in-Ok.count / c.args.geometry.now.peb_size) =
    rw (c.in_ok-line.ensures.items, c.from.ensures, c.peb_size.ensures.value) at
    c.in_ok-put_blocks_line-in-Ok.ensures.line in
    wrote c.in-Ok.count c.in-Ok.ensures.whole c.in-Ok.ensures.written (rw line at c.saying.ensures)

pub returns-in-Ok-clause-image : goal.returns-in-Ok-clause-image
returns-in-Ok-clause-image g c bytes holds =
    let line : c.put_blocks_line.new.text.items ≡ blocks_line (c.in-Ok.count / c.args.geometry.now.peb_size) =
    rw (c.in_ok-line.ensures.items, c.from.ensures, c.peb_size.ensures.value) at
    c.in_ok-put_blocks_line-in-Ok.ensures.line in
    of_streamed c.args.geometry.now bytes _ _ c.in-Ok.count _ c.peb_size.ensures.limits
    (c.in-Ok.ensures.written.held bytes holds)
    (rw line at c.saying.ensures)

pub returns-in-Err-Refused-clause-ok : goal.returns-in-Err-Refused-clause-ok
returns-in-Err-Refused-clause-ok g c =
    let fault = rw c.in-Err-Refused.field-0-is at c.in-Err-Refused.ensures.refused in
    wrote_nothing c.in-Err-Refused.cause fault.1
    (rw c.in_ok-refusal_line-in-Err-Refused.ensures at c.saying-in-Err-Refused.ensures) fault.0

pub returns-in-Err-Refused-clause-image : goal.returns-in-Err-Refused-clause-image
returns-in-Err-Refused-clause-image g c bytes holds =
    let known = g.S.BlockSource.known c.args.source.now in
    let agrees = g.S.BlockSource.agrees c.normalise_to.new.source in
    let fault = rw c.in-Err-Refused.field-0-is at c.in-Err-Refused.ensures.refused in
    refused c.in-Err-Refused.cause
    (refuses c.args.geometry.now known agrees bytes c.in-Err-Refused.cause
    (source_narrowed known _ agrees c.in-Err-Refused.ensures.narrows (g.met.S.BlockSource.sized c.args.source.now)) holds
    fault.1)
    (rw c.in_ok-refusal_line-in-Err-Refused.ensures at c.saying-in-Err-Refused.ensures) fault.0
