use Rattle.ubi_writing.proofs.Prelude.{ℕ, Sizes, config_in, ◌<◌, ◌∙◌, List, ap, arith, length, refl, subst, sym, IfSome, Option, Records, places_narrowed, IsNewFile, OutsideStay, Listed, no_folder, AreFilesOf}
use Rattle.std.specs.FinMap as finite
use Rattle.ubi_writing.specs.Unpack.{told}
use Rattle.ubi_writing.proofs.Unpacked.{all_done, config_failed, files_count, outside_config, some_line, stopped_at}
use Rattle.ubi_writing.proofs.unpack.unpack_places.Goals as goal

pub returns-then-is_err-clause-ok : goal.returns-then-is_err-clause-ok
returns-then-is_err-clause-ok g c = told c.args.places.now _ 1 c.requires.places c.in_ok-unmade.ensures

pub returns-then-is_err-clause-image : goal.returns-then-is_err-clause-image
returns-then-is_err-clause-image g c = λ bytes holds.
    let p = c.requires.places.held bytes holds in
    no_folder p.meaning p.accepted c.in_ok-unmade.ensures (λ path. refl)

pub swap_remove-requires : goal.swap_remove-requires
swap_remove-requires g c =
    let folder = c.in_ok-folder.folder in
    let entries = c.entries.ensures.value ∙ ap (λ (x : Records). finite.entries x.of) c.table.ensures in
    let count = files_count c.args.dir.now c.entries.result.now folder.files.items c.in_ok-folder.ensures.files in
    let len = folder.files.ok.0 in
    let place = subst (λ (x : Option ℕ). IfSome x (λ i. i < length (finite.entries c.args.places.now.records.of))) c.in-Some.is
    c.in_ok-unpack_volumes.ensures.place in
    omega (arith, count, len, place, ap length entries)

pub returns-in-Ok-clause-ok : goal.returns-in-Ok-clause-ok
returns-in-Ok-clause-ok g c =
    told c.args.places.now _ _
    (places_narrowed c.args.geometry.now _ _ _ c.args.places.now c.in_ok-unpack_volumes.ensures.narrows c.requires.places)
    c.in_ok-outcome.ensures

pub returns-in-Ok-clause-image : goal.returns-in-Ok-clause-image
returns-in-Ok-clause-image g c = λ bytes holds.
    let s = c.args.geometry.now in
    let p = c.requires.places.held bytes (c.in_ok-unpack_volumes.ensures.narrows bytes holds) in
    let config = c.in_ok-config.ensures in
    let old = g.D.Disk.files c.unpack_volumes.new.disk in
    let new = g.D.Disk.files c.write_new.new.disk in
    let text = c.as_slice.ensures.value ∙ config.text_is
    ∙ ap (λ (z : Sizes). config_in z c.args.places.now) c.requires.places.sizes in
    all_done _ c.args.places.now p _ c.requires.places.within c.args.dir.now c.in_ok-folder.folder.path.now _ old c.in_ok-outcome.outcome
    c.in_ok-folder.ensures.path new s c.as_str.result.now c.requires.places.sizes (c.as_str.ensures.value ∙ config.path)
    (rw c.in-None.is at (c.in_ok-unpack_volumes.ensures.ends bytes holds p))
    (subst (λ (t : List ℕ). IsNewFile t c.as_str.result.now old new) text c.in-Ok.ensures.written) c.in_ok-outcome.ensures

pub returns-in-Ok-clause-outside : goal.returns-in-Ok-clause-outside
returns-in-Ok-clause-outside g c =
    let old = g.D.Disk.files c.args.disk.now in
    let between = g.D.Disk.files c.unpack_volumes.new.disk in
    outside_config c.args.dir.now c.as_str.result.now old between (g.D.Disk.files c.write_new.new.disk)
    (c.as_str.ensures.value ∙ c.in_ok-config.ensures.path)
    (subst (λ (dir : List ℕ). OutsideStay old between dir) c.in_ok-folder.ensures.path c.in_ok-unpack_volumes.ensures.outside)
    c.in-Ok.ensures.others

pub returns-in-Err-clause-ok : goal.returns-in-Err-clause-ok
returns-in-Err-clause-ok g c =
    told c.args.places.now _ 1
    (places_narrowed c.args.geometry.now _ _ _ c.args.places.now c.in_ok-unpack_volumes.ensures.narrows c.requires.places)
    c.in_ok-config.ensures.unwritten

pub returns-in-Err-clause-image : goal.returns-in-Err-clause-image
returns-in-Err-clause-image g c = λ bytes holds.
    let p = c.requires.places.held bytes (c.in_ok-unpack_volumes.ensures.narrows bytes holds) in
    let config = c.in_ok-config.ensures in
    let old = g.D.Disk.files c.unpack_volumes.new.disk in
    config_failed _ c.args.places.now p _ c.requires.places.within c.args.dir.now c.in_ok-folder.folder.path.now _ old
    c.in_ok-config.config.unwritten c.in_ok-folder.ensures.path (g.D.Disk.files c.write_new.new.disk) c.as_str.result.now
    (c.as_str.ensures.value ∙ config.path) (rw c.in-None.is at (c.in_ok-unpack_volumes.ensures.ends bytes holds p))
    c.in-Err.ensures.others config.unwritten

pub returns-in-Err-clause-outside : goal.returns-in-Err-clause-outside
returns-in-Err-clause-outside g c =
    let old = g.D.Disk.files c.args.disk.now in
    let between = g.D.Disk.files c.unpack_volumes.new.disk in
    outside_config c.args.dir.now c.as_str.result.now old between (g.D.Disk.files c.write_new.new.disk)
    (c.as_str.ensures.value ∙ c.in_ok-config.ensures.path)
    (subst (λ (dir : List ℕ). OutsideStay old between dir) c.in_ok-folder.ensures.path c.in_ok-unpack_volumes.ensures.outside)
    c.in-Err.ensures.others

pub returns-in-Some-clause-ok : goal.returns-in-Some-clause-ok
returns-in-Some-clause-ok g c =
    let folder = c.in_ok-folder.folder in
    let entries = c.entries.ensures.value ∙ ap (λ (x : Records). finite.entries x.of) c.table.ensures in
    let place = subst (λ (x : Option ℕ). IfSome x (λ i. i < length (finite.entries c.args.places.now.records.of))) c.in-Some.is
    c.in_ok-unpack_volumes.ensures.place in
    let line = some_line c.args.dir.now c.entries.result.now folder.files.items c.in_ok-folder.ensures.files c.in-Some.i c.swap_remove.result
    (omega (arith, place, ap length entries)) (sym c.swap_remove.ensures.value) in
    told c.args.places.now line.0 1
    (places_narrowed c.args.geometry.now _ _ _ c.args.places.now c.in_ok-unpack_volumes.ensures.narrows c.requires.places) line.1

pub returns-in-Some-clause-image : goal.returns-in-Some-clause-image
returns-in-Some-clause-image g c = λ bytes holds.
    let p = c.requires.places.held bytes (c.in_ok-unpack_volumes.ensures.narrows bytes holds) in
    let folder = c.in_ok-folder.folder in
    let entries = c.entries.ensures.value ∙ ap (λ (x : Records). finite.entries x.of) c.table.ensures in
    stopped_at _ c.args.places.now p _ c.requires.places.within c.args.dir.now folder.path.now _ _ c.swap_remove.result.unwritten
    c.in_ok-folder.ensures.path c.in-Some.i folder.files.items c.swap_remove.result
    (subst (λ (es : List Listed). AreFilesOf c.args.dir.now es folder.files.items) entries c.in_ok-folder.ensures.files)
    (sym c.swap_remove.ensures.value) (rw c.in-Some.is at (c.in_ok-unpack_volumes.ensures.ends bytes holds p)) refl

pub returns-in-Some-clause-outside : goal.returns-in-Some-clause-outside
returns-in-Some-clause-outside g c =
    subst (λ (dir : List ℕ). OutsideStay (g.D.Disk.files c.args.disk.now) (g.D.Disk.files c.unpack_volumes.new.disk) dir)
    c.in_ok-folder.ensures.path c.in_ok-unpack_volumes.ensures.outside
