use Rattle.ubi_writing.proofs.Prelude.{ap, inr, sym, ◌∙◌, extent_len, Keeps-refl, IfOk-weaker, Records, number_in, accepted, unread_from, wrote}
use Rattle.ubi_volume.specs.declared.errors.ReadError.TheVariants as error
use Rattle.ubi_writing.specs.Extract.{unread}
use Rattle.ubi_writing.proofs.Extracted.{error_is, nameless, places_cut, places_first, places_read, received}
use Rattle.ubi_writing.proofs.extract.extract_from_places.Goals as goal

pub returns-in_default-clause-ok : goal.returns-in_default-clause-ok
returns-in_default-clause-ok g c =
    IfOk-weaker c.unread.result _ _ (λ o h. unread_from error.NoVolume c.requires.places.whole h (Keeps-refl _)) c.unread.ensures.ok

pub returns-in_default-clause-image : goal.returns-in_default-clause-image
returns-in_default-clause-image g c =
    IfOk-weaker c.unread.result _ _
    (λ o h bytes holds.
    let p = c.requires.places.held bytes holds in
    accepted p.meaning p.accepted (unread error.NoVolume (nameless p.meaning c.args.key _ p.records (ap (λ (t : Records). number_in t c.args.key) (sym c.table.ensures) ∙ sym c.in_default.ensures)) h (Keeps-refl _)))
    c.unread.ensures.ok

pub returns-in-Err-clause-ok : goal.returns-in-Err-clause-ok
returns-in-Err-clause-ok g c =
    IfOk-weaker c.unread-in-Err.result _ _ (λ o h. unread_from c.in-Err.error c.requires.places.whole h (Keeps-refl _))
    c.unread-in-Err.ensures.ok

pub returns-in-Err-clause-image : goal.returns-in-Err-clause-image
returns-in-Err-clause-image g c =
    IfOk-weaker c.unread-in-Err.result _ _
    (λ o h bytes holds.
    let p = c.requires.places.held bytes holds in
    let e = error_is p.meaning c.args.key _ _ c.in-Err.error p.records (ap (λ (t : Records). number_in t c.args.key) (sym c.table.ensures) ∙ sym c.in-Some.ensures) (ap extent_len (sym c.in-Err.is) ∙ c.extent.ensures.meant _ p) in
    accepted p.meaning p.accepted (unread c.in-Err.error e h (Keeps-refl _)))
    c.unread-in-Err.ensures.ok

pub returns-in-Ok-write_places-clause-ok : goal.returns-in-Ok-write_places-clause-ok
returns-in-Ok-write_places-clause-ok g c =
    let line = rw c.in_ok-line.ensures.items at c.in_ok-put_bytes_line-in-Ok-write_places.ensures.line in
    wrote c.in-Ok-write_places.count c.requires.places.whole
    (received _ _ _ _ _ _ c.in-Ok-write_places.ensures.written) (rw line at c.saying.ensures)

pub returns-in-Ok-write_places-clause-image : goal.returns-in-Ok-write_places-clause-image
returns-in-Ok-write_places-clause-image g c = λ bytes holds.
    let p = c.requires.places.held bytes (c.in-Ok-write_places.ensures.narrows bytes holds) in
    let line = rw c.in_ok-line.ensures.items at c.in_ok-put_bytes_line-in-Ok-write_places.ensures.line in
    places_read c.args.geometry.now _ bytes holds c.args.places.now p c.args.key _ _
    (ap (λ (t : Records). number_in t c.args.key) (sym c.table.ensures) ∙ sym c.in-Some.ensures)
    (ap extent_len (sym c.in-Ok.is) ∙ c.extent.ensures.meant _ p) _ _ _ _
    c.in-Ok-write_places.ensures.written (rw line at c.saying.ensures)

pub returns-in-Err-Write-clause-err : goal.returns-in-Err-Write-clause-err
returns-in-Err-Write-clause-err g c = λ bytes holds.
    let p = c.requires.places.held bytes (c.in-Err-Write.ensures.narrows bytes holds) in
    places_cut c.args.geometry.now _ bytes holds c.args.places.now p c.args.key _ _
    (ap (λ (t : Records). number_in t c.args.key) (sym c.table.ensures) ∙ sym c.in-Some.ensures)
    (ap extent_len (sym c.in-Ok.is) ∙ c.extent.ensures.meant _ p) _ _ _
    (rw c.in-Err-Write.field-0-is at c.in-Err-Write.ensures.failed)

pub returns-in-Err-Read-clause-err : goal.returns-in-Err-Read-clause-err
returns-in-Err-Read-clause-err g c = inr (λ bytes holds.
    let p = c.requires.places.held bytes (c.in-Err-Read.ensures.narrows bytes holds) in
    let failed = rw c.in-Err-Read.field-0-is at c.in-Err-Read.ensures.failed in
    places_first c.args.geometry.now _ bytes holds c.args.places.now p c.args.key _ _
    (ap (λ (t : Records). number_in t c.args.key) (sym c.table.ensures) ∙ sym c.in-Some.ensures)
    (ap extent_len (sym c.in-Ok.is) ∙ c.extent.ensures.meant _ p) _ _ _ failed.1)
