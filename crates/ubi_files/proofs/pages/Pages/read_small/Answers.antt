use Rattle.ubi_files.proofs.Prelude.{◌%◌, ◌∙◌, ap, arith, take-append-le, pages_from}
use Rattle.ubi_files.proofs.PageBytes.{read_some_pages}
use Rattle.ubi_files.proofs.pages.Pages.read_small.Goals as goal

pub returns-clause-read : goal.returns-clause-read
returns-clause-read g c =
    let pages = c.args.self.now in
    read_some_pages pages.page pages.some (g.F.PlacedFile.bytes pages.file.file) c.args.at pages.oob pages.file.len c.in_ok-count.count
    c.close_gaps-kept.result c.min-kept.result c.read_from.new.out c.close_gaps-kept.new.bytes _ c.copy_from_slice.new.self _ pages.file.sized
    c.requires.inside c.close_gaps-kept.ensures.within
    ((rw c.from-page.ensures at c.close_gaps-kept.ensures.pages)
    ∙ ap (λ bytes. pages_from (c.args.at % pages.page) pages.page pages.oob bytes)
    (take-append-le c.in_ok-count.count c.read_from.new.out _ c.in_ok-count.ensures.bound.0))
    (omega (arith, c.min-kept.ensures)) c.copy_from_slice.ensures.after
    (rw (c.file-file.ensures, c.from-page.ensures, c.from.ensures) at c.in_ok-count.ensures.read)
