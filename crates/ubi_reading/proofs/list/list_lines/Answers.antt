use Rattle.ubi_reading.proofs.Prelude.{ap, length, ◌∙◌, Records}
use Rattle.std.specs.FinMap as finite
use Rattle.ubi_reading.proofs.ListedLines.{listing}
use Rattle.ubi_reading.proofs.list.list_lines.Goals as goal

pub returns-clause-text : goal.returns-clause-text
returns-clause-text g c = λ bytes holds h.
    listing c.args.geometry.now c.args.places.now bytes h _ _ _ _ _ _ c.new-text.ensures.items c.in_ok-put_sizes.ensures
    (c.in_ok-put_volumes.ensures.text bytes holds h)
    c.in_ok-put_number.ensures c.in_ok-put_word.ensures
    (ap length (c.entries.ensures.value ∙ ap (λ (x : Records). finite.entries x.of) c.table.ensures))
