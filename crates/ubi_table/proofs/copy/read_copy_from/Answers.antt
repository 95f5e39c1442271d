use Rattle.ubi_table.proofs.Prelude.{◌∙◌, ap, slice_range, sym, subst, MatchOption, block, leb, Leb, NoMember, Wins, layout, IsScan, blocks_of, leb_of_read, HasSizes, copy_of}
use Rattle.ubi_table.proofs.OneTable.{copy_held}
use Rattle.ubi_table.proofs.Streamed.{copy_sizes}
use Rattle.ubi_table.proofs.copy.read_copy_from.Goals as goal

pub returns-in_ok-copy_in-in-Some-clause-copy : goal.returns-in_ok-copy_in-in-Some-clause-copy
returns-in_ok-copy_in-in-Some-clause-copy g c = λ bytes holds.
    let s = c.args.geometry.now in
    let bs = blocks_of s bytes in
    let p = c.in-Some.p in
    let of : Leb = (layout, c.args.c) in
    let scan : IsScan s bs c.args.scan.now = c.requires.scan.held bytes (c.in_ok-read_leb-in-Some.ensures.narrows bytes holds) in
    let w : Wins s bs of p = subst (λ o. MatchOption o (NoMember s bs of) (Wins s bs of)) (sym c.in-Some.ensures)
    (scan.winners of) in
    let read = leb_of_read s bytes c.read_leb.new.out p w.member.inside
    (c.in_ok-read_leb-in-Some.ensures.bytes bytes holds
    ∙ ap (slice_range (leb s (block bs p)) 0) c.requires.room) in
    copy_held s bs c.args.c p c.in_ok-copy_in-in-Some.field-0 w (c.in_ok-copy_in-in-Some.ensures ∙ ap (copy_of s) read)

pub returns-in_ok-copy_in-in-Some-clause-sizes : goal.returns-in_ok-copy_in-in-Some-clause-sizes
returns-in_ok-copy_in-in-Some-clause-sizes g c = subst (HasSizes c.args.geometry.now)
    (sym c.in_ok-copy_in-in-Some.ensures) (copy_sizes c.args.geometry.now c.read_leb.new.out)
