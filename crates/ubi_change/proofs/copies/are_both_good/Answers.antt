use Rattle.ubi_change.proofs.Prelude.{◌≡◌, subst, blocks_of, Records, CopyIs, copy_unique}
use Rattle.ubi_table.specs.declared.copy.CopyRead.TheVariants as copy
use Rattle.ubi_change.proofs.SameTables.{good_sizes, same_records}
use Rattle.ubi_change.proofs.copies.are_both_good.Goals as goal

pub returns-clause-good : goal.returns-clause-good
returns-clause-good g c = λ e bytes holds.
    let s = c.args.geometry.now in
    let bs = blocks_of s bytes in
    let h = c.are_same.ensures.good e in
    let first = c.in_ok-first.ensures.copy bytes (c.in_ok-second.ensures.narrows bytes holds) in
    let one : CopyIs s bs 0 (copy.Good h.0) = subst (CopyIs s bs 0) h.2 first in
    let two : CopyIs s bs 1 (copy.Good h.1) = subst (CopyIs s bs 1) h.3 (c.in_ok-second.ensures.copy bytes holds) in
    let same : h.1 ≡ h.0 = same_records s h.0 h.1 (good_sizes s bs 0 h.0 one) (good_sizes s bs 1 h.1 two) h.4 in
    (h.0, (one, subst (λ (t : Records). CopyIs s bs 1 (copy.Good t)) same two))

pub returns-clause-bad : goal.returns-clause-bad
returns-clause-bad g c = λ e bytes holds t both.
    let s = c.args.geometry.now in
    let bs = blocks_of s bytes in
    let before = c.in_ok-second.ensures.narrows bytes holds in
    let clean = (c.requires.scan.held bytes (c.in_ok-first.ensures.narrows bytes before)).clean in
    let first = c.in_ok-first.ensures.copy bytes before in
    let second = c.in_ok-second.ensures.copy bytes holds in
    c.are_same.ensures.bad e t
    (copy_unique s bs clean 0 c.in_ok-first.first (copy.Good t) first both.0)
    (copy_unique s bs clean 1 c.in_ok-second.second (copy.Good t) second both.1)
