use Rattle.ubi_volume.proofs.Prelude.{◌*◌, ◌≤◌, arith, length, mul-le, usable}
use Rattle.ubi_volume.proofs.ContentAt.{case_fits, damaged_reads, static_reads}
use Rattle.ubi_volume.proofs.attached.content_from.Goals as goal

pub returns-in-Updating-clause-content : goal.returns-in-Updating-clause-content
returns-in-Updating-clause-content g c =
    let marked = case_fits _ c.args.id c.args.places.now c.args.entry.now _ c.requires.places.within c.requires.recorded
    c.in-Updating.ensures in
    record { fits = marked; kept = tt; reads = λ bytes holds. marked }

pub returns-in-Damaged-clause-content : goal.returns-in-Damaged-clause-content
returns-in-Damaged-clause-content g c = record {
  fits = case_fits _ c.args.id c.args.places.now c.args.entry.now _ c.requires.places.within c.requires.recorded
      c.in-Damaged.ensures;
  kept = tt;
  reads = λ bytes holds. damaged_reads c.args.geometry.now c.args.places.now bytes (c.requires.places.held bytes holds)
      c.args.id c.args.entry.now c.requires.recorded c.in-Damaged.ensures;
}

pub returns-in_ok-text-in-Static-clause-content : goal.returns-in_ok-text-in-Static-clause-content
returns-in_ok-text-in-Static-clause-content g c =
    let s = c.args.geometry.now in
    let r = c.args.entry.now in
    let lebs = c.in-Static.lebs in
    let text = c.in_ok-text-in-Static.text in
    let f = case_fits _ c.args.id c.args.places.now r _ c.requires.places.within c.requires.recorded c.in-Static.ensures in
    let most : length text ≤ lebs * usable s r = rw c.usable-size.ensures.value at c.in_ok-text-in-Static.ensures.most in
    let room = mul-le lebs (usable s r) r.reserved (usable s r) f.2 (omega arith) in
    record {
      fits = (f.0, f.1, omega (arith, most, room));
      kept = tt;
      reads = λ bytes holds.
          let before = c.in_ok-text-in-Static.ensures.narrows bytes holds in
          static_reads s c.args.places.now bytes (c.requires.places.held bytes before) c.args.id r c.requires.recorded
          lebs c.in-Static.bytes c.in-Static.ensures text (c.in_ok-text-in-Static.ensures.read bytes holds);
    }
