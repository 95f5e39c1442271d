use Rattle.ubi_writing.proofs.Prelude.{◌≡◌, ◌≤◌, ◌∷◌, [], List, ap, arith, get_or, length, map, refl, subst, sym, vec_items, err_from_is_err_and, take_all, Section, all_append, Part, AreBesideOut, no_image, no_record, AreSoFar, Tells-weaker}
use Rattle.ubi_writing.proofs.GatheredParts.{has_second, next_apart, next_gathered, next_total, none_gathered, sized_found, some_found, stops_at, unread_file, unread_named}
use Rattle.ubi_writing.proofs.gathered.gather.Goals as goal

pub loop-section-init : goal.loop-section-init
loop-section-init g c =
    rw (c.new-gathered.ensures.parts, c.new-gathered.ensures.files, c.new-gathered.ensures.total, c.new-gathered.ensures.unread)
    (record { gathered = none_gathered _ _ _; total = refl; apart = tt; lines = tt })

pub returns-in_err-found-clause-unread : goal.returns-in_err-found-clause-unread
returns-in_err-found-clause-unread g c =
    let p = err_from_is_err_and c.from_residual.result c.from_residual.ensures.1 in
    rw (p.1, p.2) (Tells-weaker _ _
    (λ o none. stops_at (g.D.Disk.files c.args.disk.now) c.args.geometry.now c.args.paths.config.now c.args.sections.now c.loop-section.section-index
    c.section-item.result (vec_items c.loop-section.gathered.parts) (map (λ f. g.D.Placed.PlacedFile.bytes f.file) (vec_items c.loop-section.gathered.files))
    c.loop-section.gathered.total o c.loop-section-test.true (sym c.section-item.is) c.loop-section.invariant.gathered none)
    _ (c.in_err-found.ensures.unread c.args.geometry.now))

pub returns-in-Err-clause-unread : goal.returns-in-Err-clause-unread
returns-in-Err-clause-unread g c =
    let d = g.D.Disk.files c.args.disk.now in
    let config = c.args.paths.config.now in
    let found = c.in_ok-found.found in
    stops_at d c.args.geometry.now config c.args.sections.now c.loop-section.section-index c.section-item.result
    (vec_items c.loop-section.gathered.parts) (map (λ f. g.D.Placed.PlacedFile.bytes f.file) (vec_items c.loop-section.gathered.files))
    c.loop-section.gathered.total _ c.loop-section-test.true (sym c.section-item.is) c.loop-section.invariant.gathered
    (no_record _ c.in-Err.cause
    (sized_found (λ f. g.D.Placed.PlacedFile.bytes f.file) (λ f. f.len) d config c.section-item.result found.unread found.file c.in_ok-found.ensures.found)
    c.in-Err.ensures.refused c.in_ok-config_line-in-Err.ensures)

pub returns-in_default-clause-unread : goal.returns-in_default-clause-unread
returns-in_default-clause-unread g c =
    let d = g.D.Disk.files c.args.disk.now in
    let config = c.args.paths.config.now in
    let len : c.in-Ok.part.len ≡ _ = ap (λ (p : Part). p.len) c.in-Ok.ensures.part.2 in
    let second = has_second c.loop-section.gathered.total c.in-Ok.part.len c.in_default.ensures c.in-Ok.ensures.place in
    let some = unread_file d config c.section-item.result c.in_ok-found.found.unread _ c.in_ok-found.ensures.found
    (some_found (λ f. g.D.Placed.PlacedFile.bytes f.file) (λ f. f.len) c.in-Ok.part.len c.in_ok-found.found.file len second) in
    stops_at d c.args.geometry.now config c.args.sections.now c.loop-section.section-index c.section-item.result
    (vec_items c.loop-section.gathered.parts) (map (λ f. g.D.Placed.PlacedFile.bytes f.file) (vec_items c.loop-section.gathered.files))
    c.loop-section.gathered.total _ c.loop-section-test.true (sym c.section-item.is) c.loop-section.invariant.gathered
    (no_image some.0 some.1 some.2)

pub loop-section-preserved : goal.loop-section-preserved
loop-section-preserved g c =
    let x = c.section-item.result in
    let i = c.loop-section.section-index in
    let xs = c.args.sections.now in
    let d = g.D.Disk.files c.args.disk.now in
    let config = c.args.paths.config.now in
    let found = c.in_ok-found.found in
    let before = c.loop-section.gathered in
    let here : get_or xs i x ≡ x = sym c.section-item.is in
    let len : c.in-Ok.part.len ≡ _ = ap (λ (p : Part). p.len) c.in-Ok.ensures.part.2 in
    let unread = unread_named d config xs i x found.unread _ c.loop-section-test.true here c.in_ok-found.ensures.found in
    rw (c.in_ok-add.ensures.parts, c.in_ok-add.ensures.files, c.in_ok-add.ensures.total, c.in_ok-add.ensures.unread, c.in-Some.ensures.1)
    (record {
      gathered =
          next_gathered (λ f. g.D.Placed.PlacedFile.bytes f.file) (λ f. f.len) d c.args.geometry.now config xs i x (vec_items before.parts)
          (vec_items before.files) before.total c.in-Ok.part found.unread found.file c.loop-section-test.true here
          c.loop-section.invariant.gathered c.in_ok-found.ensures.found c.in-Ok.ensures.part;
      total = next_total (λ f. g.D.Placed.PlacedFile.bytes f.file) (λ f. f.len) (vec_items before.files) before.total c.in-Ok.part.len found.file
          c.loop-section.invariant.total len;
      apart = next_apart config c.args.paths.out.now xs i x c.loop-section-test.true here c.loop-section.invariant.apart
          c.in_ok-found.ensures.apart;
      lines = all_append _ (vec_items before.unread) (found.unread ∷ []) c.loop-section.invariant.lines (unread, tt);
    })

pub returns-clause-gathered : goal.returns-clause-gathered
returns-clause-gathered g c =
    let xs = c.args.sections.now in
    let i = c.loop-section.section-index in
    let all : length xs ≤ i = (let end = c.loop-section.auto.section-index-end in let test = c.loop-section-test.false in omega (arith, end, test)) in
    (subst (λ (ys : List Section). AreSoFar (g.D.Disk.files c.args.disk.now) c.args.geometry.now c.args.paths.config.now ys
    (vec_items c.loop-section.gathered.parts) (map (λ f. g.D.Placed.PlacedFile.bytes f.file) (vec_items c.loop-section.gathered.files))
    c.loop-section.gathered.total) (take_all i xs all) c.loop-section.invariant.gathered).gathered

pub returns-clause-apart : goal.returns-clause-apart
returns-clause-apart g c =
    let xs = c.args.sections.now in
    let i = c.loop-section.section-index in
    let all : length xs ≤ i = (let end = c.loop-section.auto.section-index-end in let test = c.loop-section-test.false in omega (arith, end, test)) in
    subst (AreBesideOut c.args.paths.config.now c.args.paths.out.now) (take_all i xs all) c.loop-section.invariant.apart
