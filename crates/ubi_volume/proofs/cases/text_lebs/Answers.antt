use Rattle.ubi_volume.proofs.Prelude.{◌∙◌, sym, blocks_of}
use Rattle.ubi_volume.proofs.Static.{damaged_behind, damaged_large}
use Rattle.ubi_volume.proofs.Winners.{found_wins, next_none, next_some, none_found}
use Rattle.ubi_volume.proofs.cases.text_lebs.Goals as goal

pub returns-then-used-entry-clause-lebs : goal.returns-then-used-entry-clause-lebs
returns-then-used-entry-clause-lebs g c = λ bytes holds.
    let s = c.args.geometry.now in
    let bs = blocks_of s bytes in
    damaged_large s bs (c.requires.scan.held bytes (c.in_ok-used.ensures.narrows bytes holds)).clean c.args.id c.in_ok-used.used
    (c.in_ok-used.ensures.used bytes holds) c.args.entry.now c.if-used-entry.true

pub returns-then-is_some-clause-lebs : goal.returns-then-is_some-clause-lebs
returns-then-is_some-clause-lebs g c = λ bytes holds.
    let s = c.args.geometry.now in
    let bs = blocks_of s bytes in
    let scan = c.requires.scan.held bytes (c.in_ok-used.ensures.narrows bytes holds) in
    let next = next_some c.args.scan.now c.args.id c.in_ok-used.used c.next_winner.result
    (sym c.is_some.ensures ∙ c.if-is_some.true) c.next_winner.ensures in
    damaged_behind s bs scan.clean c.args.id c.in_ok-used.used (c.in_ok-used.ensures.used bytes holds) c.args.entry.now
    next.0 next.1 next.2 (found_wins s bs c.args.scan.now scan (c.args.id, next.0) next.1 next.3)

pub returns-clause-lebs : goal.returns-clause-lebs
returns-clause-lebs g c = λ bytes holds.
    let s = c.args.geometry.now in
    let bs = blocks_of s bytes in
    let scan = c.requires.scan.held bytes (c.in_ok-used.ensures.narrows bytes holds) in
    let none = next_none c.args.scan.now c.args.id c.in_ok-used.used c.next_winner.result
    (sym c.is_some.ensures ∙ c.if-is_some.false) c.next_winner.ensures in (
      c.in_ok-used.ensures.used bytes holds,
      c.if-used-entry.false,
      λ lnum from. none_found s bs c.args.scan.now scan (c.args.id, lnum) (none lnum from),
    )
