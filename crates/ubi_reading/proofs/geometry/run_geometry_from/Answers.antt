use Rattle.ubi_reading.proofs.Prelude.{source_narrowed, detected_from, undetected_from}
use Rattle.ubi_reading.proofs.DetectedLines.{of_cause, of_found}
use Rattle.ubi_reading.proofs.geometry.run_geometry_from.Goals as goal

pub returns-in_ok-text-in-Ok-clause-detected : goal.returns-in_ok-text-in-Ok-clause-detected
returns-in_ok-text-in-Ok-clause-detected g c =
    detected_from c.in-Ok.found.geometries.items c.in-Ok.found.images c.in-Ok.ensures.found c.in-Ok.ensures.some c.in-Ok.ensures.images
    (rw (c.in_ok-text-in-Ok.ensures, c.len-len.ensures) at c.saying.ensures)

pub returns-in_ok-text-in-Ok-clause-detects : goal.returns-in_ok-text-in-Ok-clause-detects
returns-in_ok-text-in-Ok-clause-detects g c = λ bytes holds.
    let known = g.S.BlockSource.known c.args.source.now in
    let agrees = g.S.BlockSource.agrees c.detect_from.new.source in
    let sized = source_narrowed known _ agrees c.in-Ok.ensures.source.narrows (g.met.S.BlockSource.sized c.args.source.now) in
    of_found c.args.format c.args.part known agrees bytes holds c.saying.result sized c.in-Ok.found.geometries.items
    c.in-Ok.found.images c.in-Ok.ensures.found c.in-Ok.ensures.images
    (rw (c.in_ok-text-in-Ok.ensures, c.len-len.ensures) at c.saying.ensures)

pub returns-in_ok-line-in-Err-Undetected-clause-detected : goal.returns-in_ok-line-in-Err-Undetected-clause-detected
returns-in_ok-line-in-Err-Undetected-clause-detected g c =
    undetected_from c.in-Err-Undetected.cause (rw c.in-Err-Undetected.field-0-is at c.in-Err-Undetected.ensures.refused)
    (rw (c.in_ok-line-in-Err-Undetected.ensures, c.in-Err-Undetected.field-0-is) at c.saying-in-Err-Undetected.ensures)

pub returns-in_ok-line-in-Err-Undetected-clause-detects : goal.returns-in_ok-line-in-Err-Undetected-clause-detects
returns-in_ok-line-in-Err-Undetected-clause-detects g c = λ bytes holds.
    let known = g.S.BlockSource.known c.args.source.now in
    let agrees = g.S.BlockSource.agrees c.detect_from.new.source in
    of_cause c.args.format c.args.part known agrees bytes holds c.saying-in-Err-Undetected.result c.in-Err-Undetected.cause
    (rw c.in-Err-Undetected.field-0-is at c.in-Err-Undetected.ensures.refused)
    (rw (c.in_ok-line-in-Err-Undetected.ensures, c.in-Err-Undetected.field-0-is) at c.saying-in-Err-Undetected.ensures)
