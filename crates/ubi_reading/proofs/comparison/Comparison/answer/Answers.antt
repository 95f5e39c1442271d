use Rattle.ubi_reading.proofs.Prelude.{source_narrowed, refuses, compared, compared_from, left_refused, left_refused_from, right_refused, right_refused_from}
use Rattle.ubi_reading.proofs.comparison.Comparison.answer.Goals as goal

pub returns-in-Ok-clause-compared : goal.returns-in-Ok-clause-compared
returns-in-Ok-clause-compared g c = compared_from c.in-Ok.ensures.any

pub returns-in-Ok-clause-compares : goal.returns-in-Ok-clause-compares
returns-in-Ok-clause-compares g c = λ x left y right.
    let is = c.in-Ok.ensures.images x left y right in compared is.0 is.1 is.2 is.3 is.4

pub returns-in_ok-refused-in-Err-Left-Refused-clause-compared : goal.returns-in_ok-refused-in-Err-Left-Refused-clause-compared
returns-in_ok-refused-in-Err-Left-Refused-clause-compared g c =
    let h = c.in-Err-Left-Refused in
    left_refused_from h.cause (rw (h.field-0-is, h.field-0-0-is) at h.ensures.refused)
    c.in_ok-refused-in-Err-Left-Refused.ensures

pub returns-in_ok-refused-in-Err-Left-Refused-clause-compares : goal.returns-in_ok-refused-in-Err-Left-Refused-clause-compares
returns-in_ok-refused-in-Err-Left-Refused-clause-compares g c = λ x left y right.
    let h = c.in-Err-Left-Refused in
    let known = g.L.BlockSource.known c.args.left.now in
    let agrees = g.L.BlockSource.agrees c.compare.new.left in
    left_refused h.cause
    (refuses c.args.geometry.now known agrees x h.cause
    (source_narrowed known _ agrees h.ensures.left_narrows (g.met.L.BlockSource.sized c.args.left.now)) left
    (rw (h.field-0-is, h.field-0-0-is) at h.ensures.refused))
    c.in_ok-refused-in-Err-Left-Refused.ensures

pub returns-in_ok-refused-in-Err-Right-Refused-clause-compared : goal.returns-in_ok-refused-in-Err-Right-Refused-clause-compared
returns-in_ok-refused-in-Err-Right-Refused-clause-compared g c =
    let h = c.in-Err-Right-Refused in
    let refused = rw (h.field-0-is, h.field-0-0-is) at h.ensures.refused in
    right_refused_from h.cause refused.1 c.in_ok-refused-in-Err-Right-Refused.ensures

pub returns-in_ok-refused-in-Err-Right-Refused-clause-compares : goal.returns-in_ok-refused-in-Err-Right-Refused-clause-compares
returns-in_ok-refused-in-Err-Right-Refused-clause-compares g c = λ x left y right.
    let h = c.in-Err-Right-Refused in
    let known = g.R.BlockSource.known c.args.right.now in
    let agrees = g.R.BlockSource.agrees c.compare.new.right in
    let refused = rw (h.field-0-is, h.field-0-0-is) at h.ensures.refused in
    let means = refused.0 x left in
    right_refused means.0 h.cause means.1
    (refuses c.args.geometry.now known agrees y h.cause
    (source_narrowed known _ agrees h.ensures.right_narrows (g.met.R.BlockSource.sized c.args.right.now)) right refused.1)
    c.in_ok-refused-in-Err-Right-Refused.ensures
