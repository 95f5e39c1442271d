use Rattle.ubi_volume.proofs.Prelude.{sym, ap, ◌∙◌, extent_len}
use Rattle.ubi_volume.proofs.Extracted.{len_none, len_some}
use Rattle.ubi_volume.proofs.places.Places.extent.Goals as goal

pub returns-in-Some-clause-meant : goal.returns-in-Some-clause-meant
returns-in-Some-clause-meant c = λ image h.
    ap extent_len c.of.ensures.value
    ∙ len_some image c.args.self.now h c.args.id c.geometry.result c.in-Some.entry.now c.content.result
    (rw (← c.table-in-Some.ensures) (sym c.geometry.ensures.value))
    (rw (← c.table.ensures) (sym c.in-Some.ensures.value)) c.content.ensures

pub returns-in-None-clause-meant : goal.returns-in-None-clause-meant
returns-in-None-clause-meant c = λ image h. len_none image c.args.self.now h c.args.id
    (rw (← c.table.ensures) (sym c.in-None.ensures.value))
