use Rattle.ubi_files.proofs.PageBytes.{read_pages, read_without_oob}
use Rattle.ubi_files.proofs.pages.PagesPlacedFile.read_from.Goals as goal

pub returns-then-self-eq0-clause-read : goal.returns-then-self-eq0-clause-read
returns-then-self-eq0-clause-read g c =
    let pages = c.args.self.now in
    read_without_oob pages.page pages.some (g.F.PlacedFile.bytes pages.file.file) c.args.at pages.oob c.read_from.result c.read_from.new.out
    c.if-self-eq0.true (rw c.file-file.ensures at c.read_from.ensures.read)

pub returns-clause-read : goal.returns-clause-read
returns-clause-read g c =
    let pages = c.args.self.now in
    read_pages pages.page pages.some (g.F.PlacedFile.bytes pages.file.file) c.args.at pages.oob pages.file.len c.in_ok-count.count
    c.close_gaps.result c.read_from-2.new.out c.close_gaps.new.bytes _ pages.file.sized
    (rw (c.from-page.ensures, c.from.ensures, c.len.ensures) at c.if-at-page.false)
    c.close_gaps.ensures.within (rw c.from-page.ensures at c.close_gaps.ensures.pages)
    (rw (c.file-file.ensures, c.from-page.ensures, c.from.ensures) at c.in_ok-count.ensures.read)
