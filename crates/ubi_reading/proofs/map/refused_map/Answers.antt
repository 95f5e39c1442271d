use Rattle.ubi_reading.proofs.Prelude.{◌∙◌, source_narrowed, no_blocks_from, refused_map_from}
use Rattle.ubi_reading.proofs.MappedLines.{error_narrowed, of_no_blocks, of_refused}
use Rattle.ubi_reading.proofs.map.refused_map.Goals as goal

pub returns-in_ok-refused_rows-in-Ok-clause-mapped : goal.returns-in_ok-refused_rows-in-Ok-clause-mapped
returns-in_ok-refused_rows-in-Ok-clause-mapped g c =
    refused_map_from c.args.cause c.as_str.result.now
    (error_narrowed c.args.geometry.now (g.S.BlockSource.known c.args.source.now) (g.S.BlockSource.agrees c.args.source.now)
    (g.S.BlockSource.agrees c.letters_of.new.source) c.args.cause c.in_ok-letters-in-Ok.ensures.narrows c.requires)
    c.in_ok-refused_rows-in-Ok.ensures

pub returns-in_ok-refused_rows-in-Ok-clause-maps : goal.returns-in_ok-refused_rows-in-Ok-clause-maps
returns-in_ok-refused_rows-in-Ok-clause-maps g c = λ bytes holds.
    let h = rw c.len.ensures at c.in-Ok.ensures in
    let known = g.S.BlockSource.known c.args.source.now in
    let agrees = g.S.BlockSource.agrees c.letters_of.new.source in
    let narrows = c.in_ok-letters-in-Ok.ensures.narrows in
    of_refused c.args.geometry.now known agrees (source_narrowed known _ agrees narrows (g.met.S.BlockSource.sized c.args.source.now))
    bytes holds c.in-Ok.count h.1 h.0 c.in_ok-refused_rows-in-Ok.field-0 c.args.cause c.as_str.result.now
    (error_narrowed c.args.geometry.now known (g.S.BlockSource.agrees c.args.source.now) agrees c.args.cause narrows c.requires)
    (c.as_str.ensures.value ∙ c.in_ok-letters-in-Ok.ensures.letters bytes holds) c.in_ok-refused_rows-in-Ok.ensures

pub returns-in_ok-refusal_line-in-Err-clause-mapped : goal.returns-in_ok-refusal_line-in-Err-clause-mapped
returns-in_ok-refusal_line-in-Err-clause-mapped g c =
    no_blocks_from c.in-Err.size (rw c.len.ensures at c.in-Err.ensures) (rw c.in_ok-refusal_line-in-Err.ensures at c.saying.ensures)

pub returns-in_ok-refusal_line-in-Err-clause-maps : goal.returns-in_ok-refusal_line-in-Err-clause-maps
returns-in_ok-refusal_line-in-Err-clause-maps g c = λ bytes holds.
    of_no_blocks c.args.geometry.now _ _ (g.met.S.BlockSource.sized c.args.source.now) bytes holds c.saying.result c.in-Err.size
    (rw c.len.ensures at c.in-Err.ensures) (rw c.in_ok-refusal_line-in-Err.ensures at c.saying.ensures)
