use Rattle.ubi_compose.proofs.Prelude.{refl, err_from_is_err_and, anything, NoRead, table_block, tables_bytes}
use Rattle.ubi_compose.proofs.Received.{both_put, front_put}
use Rattle.ubi_compose.proofs.writer.put_tables.Goals as goal

pub returns-in_err-first-clause-put : goal.returns-in_err-first-clause-put
returns-in_err-first-clause-put g c =
    let block = table_block c.args.device.now c.args.table.now in
    let from = err_from_is_err_and c.from_residual.result c.from_residual.ensures.1 in
    rw (from.1, from.2)
    (front_put NoRead anything (tables_bytes c.args.device.now c.args.table.now) (block 0) (block 1) (λ bytes. refl) _ _ 0
    c.in_err-first.field-0.0 c.in_err-first.ensures.put)

pub returns-clause-put : goal.returns-clause-put
returns-clause-put g c =
    let block = table_block c.args.device.now c.args.table.now in
    both_put NoRead anything (tables_bytes c.args.device.now c.args.table.now) (block 0) (block 1) (λ bytes. refl) _ _ _ 0
    c.in_ok-first.first c.put_table-2.result c.in_ok-first.ensures.put c.put_table-2.ensures.put
