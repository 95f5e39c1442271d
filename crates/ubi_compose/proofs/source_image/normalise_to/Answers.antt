use Rattle.ubi_compose.proofs.Prelude.{◌∙◌, ap, arith, table_bytes, places_narrowed}
use Rattle.ubi_compose.proofs.StoredImage as stored
use Rattle.ubi_compose.proofs.StoredImage.{IsTold}
use Rattle.ubi_compose.proofs.source_image.normalise_to.Given as given
use Rattle.ubi_compose.proofs.source_image.normalise_to.Goals as goal
use Rattle.ubi_compose.proofs.source_image.normalise_to.Goals.{After-put_image}

-- what is answered, by what the writer of the image answered
told : (g : given.Over) (c : After-put_image g)
    → IsTold c.args.geometry.now (g.S.BlockSource.known c.args.source.now) (g.S.BlockSource.agrees c.put_image.new.source)
    (g.W.Write.contents c.args.writer.now) (g.W.Write.contents c.put_image.new.writer)
    (g.S.BlockSource.failed_at c.put_image.new.source) c.put_image.result
told g c =
    let s = c.args.geometry.now in
    let k = g.S.BlockSource.known c.args.source.now in
    let agrees = g.S.BlockSource.agrees c.put_image.new.source in
    let p = c.in_ok-places.places in
    let page = c.peb_size.ensures.limits.page_from in
    let peb = c.peb_size.ensures.limits.peb_from in
    stored.told s k agrees p
    (places_narrowed s k _ agrees p c.put_image.ensures.narrows c.in_ok-places.ensures.places) c.image_seq.result
    c.image_seq.ensures c.as_slice.result.now
    (c.as_slice.ensures.value ∙ c.in_ok-text.ensures.bytes ∙ ap table_bytes c.table.ensures) _ _
    (omega (arith, page, peb)) _ c.put_image.result c.put_image.ensures.put

pub returns-in-Ok-clause-written : goal.returns-in-Ok-clause-written
returns-in-Ok-clause-written g c =
    rw c.in-Ok.is at (told g (goal.at.returns-in-Ok-clause-written g c).After-put_image)

pub returns-in-Err-Read-clause-refused : goal.returns-in-Err-Read-clause-refused
returns-in-Err-Read-clause-refused g c =
    (rw (c.in-Err-Read.is, c.in-Err-Read.field-0-is) at
    (told g (goal.at.returns-in-Err-Read-clause-refused g c).After-put_image)).0

pub returns-in-Err-Read-clause-named : goal.returns-in-Err-Read-clause-named
returns-in-Err-Read-clause-named g c =
    (rw (c.in-Err-Read.is, c.in-Err-Read.field-0-is) at
    (told g (goal.at.returns-in-Err-Read-clause-named g c).After-put_image)).1

pub returns-clause-refused : goal.returns-clause-refused
returns-clause-refused g c =
    rw (c.in-Err-Write.is, c.in-Err-Write.field-0-is) at
    (told g (goal.at.returns-clause-refused g c).After-put_image)
