use Rattle.ubi_compose.proofs.Prelude.{◌∙◌, ◌++◌, List, ℕ, Ok, Err, refl, err_from_is_err_and, slots, anything, All, wrote_narrowed, Device, IsReadIn, Pieces, first_volumes, image_bytes, tables_bytes, spares_bytes}
use Rattle.ubi_compose.proofs.Received.{both_put, front_put, known_kept, put_anyway}
use Rattle.ubi_compose.proofs.writer.put_image.Goals as goal

-- the tables and the volumes
abbrev normal : Device → List ℕ → Pieces → List ℕ → List ℕ
normal d table ps bytes = tables_bytes d table bytes ++ first_volumes d ps (slots d.geometry) bytes

pub returns-in_err-front-clause-known : goal.returns-in_err-front-clause-known
returns-in_err-front-clause-known g c =
    let from = err_from_is_err_and c.from_residual.result c.from_residual.ensures.1 in
    rw (from.1, from.2)
    (known_kept _ _ _ _ 0 (Err c.in_err-front.field-0.0) c.in_err-front.ensures.put
    (g.S.BlockSource.known c.args.source.now))

pub returns-in_err-front-clause-put : goal.returns-in_err-front-clause-put
returns-in_err-front-clause-put g c =
    let d = c.args.device.now in
    let ps = g.C.Contents.pieces c.args.contents.now in
    let read = IsReadIn d.geometry ps (g.S.BlockSource.failed_at c.args.source.now) in
    let agrees = g.S.BlockSource.agrees c.args.source.now in
    let tables = tables_bytes d c.args.table.now in
    let from = err_from_is_err_and c.from_residual.result c.from_residual.ensures.1 in
    rw (from.1, from.2)
    (front_put read agrees (image_bytes d c.args.table.now ps c.args.spares) (normal d c.args.table.now ps)
    (spares_bytes d c.args.spares) (λ bytes. refl) _ _ 0 c.in_err-front.field-0.0
    (front_put read agrees (normal d c.args.table.now ps) tables (first_volumes d ps (slots d.geometry)) (λ bytes. refl) _ _ 0
    c.in_err-front.field-0.0
    (put_anyway read agrees tables _ _ 0 (Err c.in_err-front.field-0.0) c.in_err-front.ensures.put)))

pub returns-in_err-normal-clause-put : goal.returns-in_err-normal-clause-put
returns-in_err-normal-clause-put g c =
    let d = c.args.device.now in
    let ps = g.C.Contents.pieces c.args.contents.now in
    let read = IsReadIn d.geometry ps (g.S.BlockSource.failed_at c.put_volumes.new.source) in
    let agrees = g.S.BlockSource.agrees c.put_volumes.new.source in
    let from = err_from_is_err_and c.from_residual-in_err-normal.result c.from_residual-in_err-normal.ensures.1 in
    rw (from.1, from.2)
    (front_put read agrees (image_bytes d c.args.table.now ps c.args.spares)
    (normal d c.args.table.now ps) (spares_bytes d c.args.spares) (λ bytes. refl) _ _ 0 c.in_err-normal.field-0.0
    (both_put read agrees (normal d c.args.table.now ps) (tables_bytes d c.args.table.now)
    (first_volumes d ps (slots d.geometry)) (λ bytes. refl) _ _ _ 0 c.in_ok-front.front (Err c.in_err-normal.field-0.0)
    (wrote_narrowed anything agrees (λ bytes holds. tt) _ _ _ All 0 c.in_ok-front.front c.in_ok-front.ensures.put)
    c.in_err-normal.ensures.put))

pub returns-clause-known : goal.returns-clause-known
returns-clause-known g c = c.in_ok-normal.ensures.known
    ∙ known_kept _ _ _ _ c.in_ok-normal.normal c.put_spares.result c.put_spares.ensures
    (g.S.BlockSource.known c.args.source.now)

pub returns-clause-put : goal.returns-clause-put
returns-clause-put g c =
    let d = c.args.device.now in
    let ps = g.C.Contents.pieces c.args.contents.now in
    let read = IsReadIn d.geometry ps (g.S.BlockSource.failed_at c.put_volumes.new.source) in
    let agrees = g.S.BlockSource.agrees c.put_volumes.new.source in
    both_put read agrees (image_bytes d c.args.table.now ps c.args.spares) (normal d c.args.table.now ps)
    (spares_bytes d c.args.spares) (λ bytes. refl) _ _ _ 0 c.in_ok-normal.normal c.put_spares.result
    (both_put read agrees (normal d c.args.table.now ps) (tables_bytes d c.args.table.now)
    (first_volumes d ps (slots d.geometry)) (λ bytes. refl) _ _ _ 0 c.in_ok-front.front (Ok c.in_ok-normal.normal)
    (wrote_narrowed anything agrees (λ bytes holds. tt) _ _ _ All 0 c.in_ok-front.front c.in_ok-front.ensures.put)
    c.in_ok-normal.ensures.put)
    (put_anyway read agrees (spares_bytes d c.args.spares) _ _ c.in_ok-normal.normal c.put_spares.result c.put_spares.ensures)
