use Rattle.ubi_dumps.proofs.Prelude.{IfOk-weaker, answered, no_source, no_geometry, several, Tells-weaker}
use Rattle.ubi_dumps.proofs.Ended.{both}
use Rattle.ubi_dumps.proofs.Found.{told_first, tells_less, tells_why}
use Rattle.ubi_dumps.proofs.dump.first_told.Goals as goal

pub returns-in-Ok-clause-first : goal.returns-in-Ok-clause-first
returns-in-Ok-clause-first g c =
    let found = c.in-Ok.found in
    let is = c.in-Ok.ensures in
    IfOk-weaker c.first_of.result _ _
    (λ told f. told_first c.args.part (g.S.BlockSource.agrees c.detect_from.new.source) found.geometries.items found.images told is.found is.some is.images f.0 f.1)
    (both c.first_of.result _ _ c.first_of.ensures.first c.first_of.ensures.whole)

pub returns-in-Ok-clause-nothing : goal.returns-in-Ok-clause-nothing
returns-in-Ok-clause-nothing g c =
    let found = c.in-Ok.found in
    let is = c.in-Ok.ensures in
    tells_less c.first_of.result _ _
    (λ o f. answered is.source.known (several found.geometries.items found.images is.found is.images f.0 f.1))
    (tells_why c.first_of.result _ _ c.first_of.ensures.split c.first_of.ensures.line)

pub returns-in-Err-Undetected-clause-nothing : goal.returns-in-Err-Undetected-clause-nothing
returns-in-Err-Undetected-clause-nothing g c =
    let known = rw c.in-Err-Undetected.field-0-is at c.in-Err-Undetected.ensures.source.known in
    let refused = rw c.in-Err-Undetected.field-0-is at c.in-Err-Undetected.ensures.refused in
    let line = rw c.in-Err-Undetected.field-0-is at c.undetected.ensures in
    Tells-weaker _ _ (λ o h. answered known (no_geometry c.in-Err-Undetected.cause refused h)) c.undetected.result line

pub returns-in-Err-Read-clause-nothing : goal.returns-in-Err-Read-clause-nothing
returns-in-Err-Read-clause-nothing g c =
    let known = rw c.in-Err-Read.field-0-is at c.in-Err-Read.ensures.source.known in
    Tells-weaker _ _ (λ o h. no_source known h) c.unread_file.result c.unread_file.ensures.line
