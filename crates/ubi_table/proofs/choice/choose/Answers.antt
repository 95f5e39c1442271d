use Rattle.ubi_table.proofs.Prelude.{Narrows, holds, memory, scan_of_memory, still, IsTableOf, IsTableOfError}
use Rattle.ubi_scan.specs.declared.errors.StreamError.TheVariants as stream
use Rattle.ubi_table.proofs.choice.choose.Goals as goal

pub choose_from-requires : goal.choose_from-requires
choose_from-requires c =
    let image = c.args.blocks.now in
    rw (c.geometry.ensures, c.new-source.ensures, c.bytes.ensures.value)
    (scan_of_memory image c.args.scan.now c.bytes.ensures.whole c.requires)

pub returns-in-Ok-clause-table : goal.returns-in-Ok-clause-table
returns-in-Ok-clause-table c =
    let image = c.args.blocks.now in
    let h : IsTableOf image.sizes (holds c.choose_from.new.source) c.in-Ok.table =
    rw c.geometry.ensures at c.in-Ok.ensures.table in
    let narrows : Narrows (holds image.bytes) (holds c.choose_from.new.source) =
    rw (c.new-source.ensures, c.bytes.ensures.value) at c.in-Ok.ensures.narrows in
    h.held image.bytes (still image.bytes c.choose_from.new.source narrows)

pub returns-in-Err-Refused-clause-refused : goal.returns-in-Err-Refused-clause-refused
returns-in-Err-Refused-clause-refused c =
    let image = c.args.blocks.now in
    let h : IsTableOfError image.sizes (memory image.bytes) (holds c.choose_from.new.source) (stream.Refused c.in-Err-Refused.cause) =
    rw (c.in-Err-Refused.field-0-is, c.geometry.ensures) at c.in-Err-Refused.ensures.refused in
    let narrows : Narrows (holds image.bytes) (holds c.choose_from.new.source) =
    rw (c.new-source.ensures, c.bytes.ensures.value) at c.in-Err-Refused.ensures.narrows in
    h image.bytes (still image.bytes c.choose_from.new.source narrows)
