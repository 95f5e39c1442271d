use Rattle.ubi_change.proofs.Prelude.{◌≡◌, true, ap, sym, ◌∙◌, same_entries_map, Records}
use Rattle.std.specs.FinMap as finite
use Rattle.ubi_change.proofs.SameTables.{entries_Decides}
use Rattle.ubi_change.proofs.copies.are_same.Goals as goal

pub returns-in-Good-Good-clause-good : goal.returns-in-Good-Good-clause-good
returns-in-Good-Good-clause-good c = λ e.
    let t = c.in-Good-Good.first in
    let u = c.in-Good-Good.second in
    let a = c.entries.result.now in
    let b = c.entries-in-Good-Good.result.now in
    let same : a ≡ b = (entries_Decides a b).0 (sym c.eq.ensures ∙ e) in (
      t,
      u,
      c.in-Good-Good.is-0,
      c.in-Good-Good.is-1,
      same_entries_map t.of u.of (sym c.entries.ensures.value ∙ same ∙ c.entries-in-Good-Good.ensures.value),
    )

pub returns-in-Good-Good-clause-bad : goal.returns-in-Good-Good-clause-bad
returns-in-Good-Good-clause-bad c = λ e t f g.
    let a = c.entries.result.now in
    let b = c.entries-in-Good-Good.result.now in
    let x : c.in-Good-Good.first ≡ t = (let k = c.in-Good-Good.is-0 in cc) in
    let y : c.in-Good-Good.second ≡ t = (let k = c.in-Good-Good.is-1 in cc) in
    let same : a ≡ b = c.entries.ensures.value ∙ ap (λ (r : Records). finite.entries r.of) (x ∙ sym y)
    ∙ sym c.entries-in-Good-Good.ensures.value in
    let told : c.eq.result ≡ true = c.eq.ensures ∙ (entries_Decides a b).1 same in
    cc
