use Rattle.ubi_change.proofs.Prelude.{◌*◌, ◌-◌, ap, sym, ◌∙◌, arith, drop, length-drop, length-take-le}
use Rattle.ubi_change.proofs.TrimmedText.{trimmed_is, trimmed_short, within}
use Rattle.ubi_change.proofs.trim.trimmed_text.Goals as goal

pub slice_bounds-result-end : goal.slice_bounds-result-end
slice_bounds-result-end c =
    let s = c.args.geometry.now in
    let xs = drop s.data_offset c.args.buffer.now in
    let behind = length-drop s.data_offset c.args.buffer.now ∙ ap (λ n. n - s.data_offset) c.requires.room in
    sym (length-take-le (c.pages_needed.result * c.page.result) c.whole_text-whole.result.now
    (within s c.page.ensures.limits xs c.args.len c.requires.fits c.whole_text-whole.result.now c.whole_text-whole.ensures.text
    c.pages_needed.result c.page.result c.pages_needed.ensures c.page.ensures.value (let f = c.requires.fits in omega (arith, f, behind))))

pub returns-clause-text : goal.returns-clause-text
returns-clause-text c =
    let s = c.args.geometry.now in
    let xs = drop s.data_offset c.args.buffer.now in
    let behind = length-drop s.data_offset c.args.buffer.now ∙ ap (λ n. n - s.data_offset) c.requires.room in
    trimmed_is s c.page.ensures.limits xs c.args.len c.requires.fits c.whole_text-whole.result.now c.whole_text-whole.ensures.text
    c.pages_needed.result c.page.result c.pages_needed.ensures c.page.ensures.value (let f = c.requires.fits in omega (arith, f, behind))

pub returns-clause-short : goal.returns-clause-short
returns-clause-short c =
    let s = c.args.geometry.now in
    let xs = drop s.data_offset c.args.buffer.now in
    let behind = length-drop s.data_offset c.args.buffer.now ∙ ap (λ n. n - s.data_offset) c.requires.room in
    trimmed_short s c.page.ensures.limits xs c.args.len c.requires.fits c.whole_text-whole.result.now c.whole_text-whole.ensures.text
    c.pages_needed.result c.page.result c.pages_needed.ensures c.page.ensures.value (let f = c.requires.fits in omega (arith, f, behind))
