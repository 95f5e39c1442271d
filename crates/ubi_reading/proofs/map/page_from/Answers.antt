use Rattle.ubi_reading.proofs.Prelude.{ℕ, List, map, string_bytes, refuses, source_narrowed}
use Rattle.ubi_reading.proofs.MappedLines.{of_no_page, of_page, of_refused_page}
use Rattle.ubi_reading.proofs.map.page_from.Goals as goal

pub returns-in-Err-clause-page : goal.returns-in-Err-clause-page
returns-in-Err-clause-page g c = λ bytes holds.
    of_no_page c.args.geometry.now _ _ (g.met.S.BlockSource.sized c.args.source.now) bytes holds c.in-Err.field-0
    (rw c.len.ensures at c.in-Err.ensures)

pub returns-in-Ok-survey_from-clause-page : goal.returns-in-Ok-survey_from-clause-page
returns-in-Ok-survey_from-clause-page g c = λ bytes holds.
    let s = c.args.geometry.now in
    let h = rw c.len.ensures at c.in-Ok.ensures in
    let known = g.S.BlockSource.known c.args.source.now in
    let agrees = g.S.BlockSource.agrees c.surveyed_page_from.new.source in
    let last = c.in_ok-page-in-Ok-survey_from.ensures.narrows in
    let middle = c.in-Ok-survey_from.ensures.narrows in
    let lettered = c.in_ok-letters.ensures.narrows in
    let first = c.in_ok-texts.ensures.narrows in
    let page = c.in_ok-page-in-Ok-survey_from.page.items in
    let texts = map string_bytes c.in_ok-texts.texts.items in
    let narrows = λ (x : List ℕ) (xs : agrees x). first x (lettered x (middle x (last x xs))) in
    let read = rw (c.as_slice-texts.ensures.value, c.as_str-letters.ensures.value) at (c.in_ok-page-in-Ok-survey_from.ensures.page bytes holds) in
    of_page s known agrees (source_narrowed known _ agrees narrows (g.met.S.BlockSource.sized c.args.source.now)) bytes holds
    c.in-Ok.count h.1 h.0 texts (string_bytes c.in_ok-letters.letters) page c.in-Ok-survey_from.surveyed
    (c.in_ok-texts.ensures.texts bytes (lettered bytes (middle bytes (last bytes holds))))
    (c.in_ok-letters.ensures.letters bytes (middle bytes (last bytes holds)))
    (c.in-Ok-survey_from.ensures.survey.held bytes (last bytes holds)) read

pub returns-in-Err-Refused-clause-page : goal.returns-in-Err-Refused-clause-page
returns-in-Err-Refused-clause-page g c = λ bytes holds.
    let s = c.args.geometry.now in
    let h = rw c.len.ensures at c.in-Ok.ensures in
    let known = g.S.BlockSource.known c.args.source.now in
    let agrees = g.S.BlockSource.agrees c.survey_from.new.source in
    let last = c.in-Err-Refused.ensures.narrows in
    let lettered = c.in_ok-letters.ensures.narrows in
    let first = c.in_ok-texts.ensures.narrows in
    let cause = c.in-Err-Refused.cause in
    let narrows = λ (x : List ℕ) (xs : agrees x). first x (lettered x (last x xs)) in
    let is = source_narrowed known _ agrees narrows (g.met.S.BlockSource.sized c.args.source.now) in
    let error = rw (c.in-Err-Refused.field-0-is, c.in_ok-letters.ensures.known, c.in_ok-texts.ensures.known) at c.in-Err-Refused.ensures.refused in
    of_refused_page s known agrees is bytes holds c.in-Ok.count h.1 h.0 (map string_bytes c.in_ok-texts.texts.items)
    (string_bytes c.in_ok-letters.letters) c.in_ok-page-in-Err-Refused.page.items cause
    (c.in_ok-texts.ensures.texts bytes (lettered bytes (last bytes holds))) (c.in_ok-letters.ensures.letters bytes (last bytes holds))
    (refuses s known agrees bytes cause is holds error)
    (rw (c.as_slice-texts.ensures.value, c.as_str-letters.ensures.value) at c.in_ok-page-in-Err-Refused.ensures)
