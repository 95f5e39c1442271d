use Rattle.ubi_compose.proofs.Prelude.{◌∙◌, ap, sym, arith, option_map, reserved_within, static_piece, case_fits}
use Rattle.ubi_volume.specs.declared.places.PlaceContent.TheVariants as place
use Rattle.ubi_compose.proofs.StoredNext.{first_dynamic, first_stored, none_dynamic}
use Rattle.ubi_compose.proofs.source_image.next_piece.Goals as goal

pub returns-in_ok-p-in-Static : goal.returns-in_ok-p-in-Static
returns-in_ok-p-in-Static c =
    let p = c.args.places.now in
    let id = c.args.id in
    let r = c.args.entry.now in
    let lebs = c.in-Static.lebs in
    let bytes = c.in-Static.bytes in
    let fits = case_fits c.requires.within.0 id p r _ c.requires.within.1 c.requires.recorded c.in-Static.ensures in
    let few = fits.2 in
    let wide = reserved_within c.args.geometry.now r c.requires.sound in
    rw (c.static_piece.ensures, ← c.requires.sizes)
    (first_stored p id r c.requires.recorded (place.Static lebs bytes) c.in-Static.ensures c.args.from
    (static_piece p.records.sizes id r lebs bytes c.args.from c.in_ok-p-in-Static.p) (omega (arith, few, wide)) (omega arith)
    c.if-from-lebs.true (ap (option_map (static_piece p.records.sizes id r lebs bytes c.args.from))
    (sym c.place.ensures ∙ c.in_ok-p-in-Static.was))
    (λ i low high. absurd (omega (arith, low, high))))

pub returns-in-Some : goal.returns-in-Some
returns-in-Some c =
    let p = c.args.places.now in
    let fits = case_fits c.requires.within.0 c.args.id p c.args.entry.now _ c.requires.within.1 c.requires.recorded
    c.in-Dynamic.ensures in
    let wide = reserved_within c.args.geometry.now c.args.entry.now c.requires.sound in
    rw (c.dynamic_piece.ensures, ← c.requires.sizes)
    (first_dynamic p c.args.id c.args.entry.now c.requires.recorded c.in-Dynamic.ensures fits.1 (omega (arith, wide))
    c.args.from c.in-Some.lnum c.in-Some.p c.in-Some.ensures)

pub returns-in-None : goal.returns-in-None
returns-in-None c =
    let p = c.args.places.now in
    let fits = case_fits c.requires.within.0 c.args.id p c.args.entry.now _ c.requires.within.1 c.requires.recorded
    c.in-Dynamic.ensures in
    let wide = reserved_within c.args.geometry.now c.args.entry.now c.requires.sound in
    none_dynamic p c.args.id c.args.entry.now c.requires.recorded c.in-Dynamic.ensures fits.1 (omega (arith, wide))
    c.args.from c.in-None.ensures
