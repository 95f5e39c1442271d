use Rattle.ubi_volume.proofs.Prelude.{sym}
use Rattle.ubi_volume.proofs.places.Places.next_place.Goals as goal

pub returns-then-is_within : goal.returns-then-is_within
returns-then-is_within c =
    let h = c.in_ok-lnum.ensures in
    rw (← c.self.view_is) (
      h.0,
      (
        c.in_ok-entry.entry.now,
        sym c.in_ok-entry.ensures.value,
        c.is_within.ensures.0 c.if-is_within.true,
        h.1,
      ),
      λ lnum at l m k. (let none = h.2 lnum l m in let some = k.3 in absurd cc),
    )
