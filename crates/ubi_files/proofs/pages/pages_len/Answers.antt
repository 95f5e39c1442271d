use Rattle.ubi_files.proofs.PageBytes.{length-pages_of, length-without_oob}
use Rattle.ubi_files.proofs.pages.pages_len.Goals as goal

pub returns-then-oob-eq0-clause-pages : goal.returns-then-oob-eq0-clause-pages
returns-then-oob-eq0-clause-pages c bytes long =
    length-without_oob c.args.page c.args.oob c.args.len bytes c.requires.some long c.if-oob-eq0.true

pub returns-clause-pages : goal.returns-clause-pages
returns-clause-pages c bytes long =
    rw (c.from-page.ensures, c.from.ensures)
    (length-pages_of c.args.page c.args.oob c.args.len bytes c.requires.some long (c.requires.whole c.if-oob-eq0.false))
