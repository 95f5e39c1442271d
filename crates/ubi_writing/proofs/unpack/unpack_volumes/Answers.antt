use Rattle.ubi_writing.proofs.Prelude.{◌≡◌, ◌<◌, ◌≤◌, ◌∙◌, List, ap, arith, get_or, length, subst, sym, Err, take_all, Source, Records, ArePlacesOf, read_volume, places_narrowed, AreUnpacked, Listed}
use Rattle.std.specs.FinMap as finite
use Rattle.ubi_writing.proofs.Unpacked.{file_at, files_count, next_unpacked, next_unwritten, outside_more}
use Rattle.ubi_writing.proofs.unpack.unpack_volumes.Goals as goal

pub unpack_volume-requires-clause-places : goal.unpack_volume-requires-clause-places
unpack_volume-requires-clause-places g c =
    let s = c.args.geometry.now in
    let agrees = g.S.BlockSource.agrees c.loop-i.source in
    subst (λ (k : Source). ArePlacesOf s k agrees c.args.places.now) (sym c.loop-i.invariant.source)
    (places_narrowed s _ _ agrees c.args.places.now c.loop-i.invariant.narrows c.requires.places)

pub index-requires : goal.index-requires
index-requires g c =
    let i = c.loop-i.i in
    let es = finite.entries c.args.places.now.records.of in
    let entries = c.entries-listed-items.ensures.value ∙ ap (λ (x : Records). finite.entries x.of) c.table.ensures in
    let count = files_count c.args.folder.now.path.now es c.args.folder.now.files.items c.requires.files in
    let len = c.args.folder.now.files.ok.0 in
    let test = c.loop-i-test.true in
    omega (arith, count, len, test, ap length entries)

pub returns-in-Err-Read-clause-outside : goal.returns-in-Err-Read-clause-outside
returns-in-Err-Read-clause-outside g c =
    let e = c.listed-item.result in
    let i = c.loop-i.i in
    let es = finite.entries c.args.places.now.records.of in
    let dir = c.args.folder.now.path.now in
    let old = g.D.Disk.files c.args.disk.now in
    let between = g.D.Disk.files c.loop-i.disk in
    let new = g.D.Disk.files c.unpack_volume.new.disk in
    let entries = c.entries-listed-items.ensures.value ∙ ap (λ (x : Records). finite.entries x.of) c.table.ensures in
    let here : get_or es i e ≡ e = sym (c.listed-item.is ∙ ap (λ xs. get_or xs i e) entries) in
    let inside : i < length es = omega (arith, ap length entries) in
    let file = file_at dir es c.args.folder.now.files.items c.requires.files i e c.index.result.now inside here (sym c.index.ensures) in
    let named = c.as_str-path.ensures.value ∙ file.path in
    outside_more dir e c.as_str-path.result.now old between new named c.loop-i.invariant.outside c.in-Err-Read.ensures.others

pub returns-in-Err-Write : goal.returns-in-Err-Write
returns-in-Err-Write g c =
    let e = c.listed-item.result in
    let i = c.loop-i.i in
    let es = finite.entries c.args.places.now.records.of in
    let dir = c.args.folder.now.path.now in
    let old = g.D.Disk.files c.args.disk.now in
    let between = g.D.Disk.files c.loop-i.disk in
    let new = g.D.Disk.files c.unpack_volume.new.disk in
    let entries = c.entries-listed-items.ensures.value ∙ ap (λ (x : Records). finite.entries x.of) c.table.ensures in
    let here : get_or es i e ≡ e = sym (c.listed-item.is ∙ ap (λ xs. get_or xs i e) entries) in
    let inside : i < length es = omega (arith, ap length entries) in
    let file = file_at dir es c.args.folder.now.files.items c.requires.files i e c.index.result.now inside here (sym c.index.ensures) in
    let named = c.as_str-path.ensures.value ∙ file.path in
    let path = c.as_str-path.result.now in
    record {
      known = (rw c.in-Err-Write.field-0-is at c.in-Err-Write.ensures.known) ∙ c.loop-i.invariant.source;
      narrows = λ bytes holds. c.loop-i.invariant.narrows bytes (c.in-Err-Write.ensures.narrows bytes holds);
      ends = λ bytes holds h.
          next_unwritten (read_volume h.meaning) dir es i e path old between new inside here named
          (c.loop-i.invariant.unpacked bytes (c.in-Err-Write.ensures.narrows bytes holds) h)
          (c.in-Err-Write.ensures.readable (ap Err c.in-Err-Write.field-0-is) bytes holds h) c.in-Err-Write.ensures.others;
      place = inside;
      outside = outside_more dir e path old between new named c.loop-i.invariant.outside c.in-Err-Write.ensures.others;
      failed = tt;
    }

pub loop-i-preserved : goal.loop-i-preserved
loop-i-preserved g c =
    let e = c.listed-item.result in
    let i = c.loop-i.i in
    let es = finite.entries c.args.places.now.records.of in
    let dir = c.args.folder.now.path.now in
    let old = g.D.Disk.files c.args.disk.now in
    let between = g.D.Disk.files c.loop-i.disk in
    let new = g.D.Disk.files c.unpack_volume.new.disk in
    let entries = c.entries-listed-items.ensures.value ∙ ap (λ (x : Records). finite.entries x.of) c.table.ensures in
    let here : get_or es i e ≡ e = sym (c.listed-item.is ∙ ap (λ xs. get_or xs i e) entries) in
    let inside : i < length es = omega (arith, ap length entries) in
    let file = file_at dir es c.args.folder.now.files.items c.requires.files i e c.index.result.now inside here (sym c.index.ensures) in
    let named = c.as_str-path.ensures.value ∙ file.path in
    let path = c.as_str-path.result.now in
    record {
      source = c.in-Ok.ensures.known ∙ c.loop-i.invariant.source;
      narrows = λ bytes holds. c.loop-i.invariant.narrows bytes (c.in-Ok.ensures.narrows bytes holds);
      unpacked = λ bytes holds h.
          next_unpacked (read_volume h.meaning) dir es i e path old between new inside here named
          (c.loop-i.invariant.unpacked bytes (c.in-Ok.ensures.narrows bytes holds) h) (c.in-Ok.ensures.unpacked bytes holds h);
      outside = outside_more dir e path old between new named c.loop-i.invariant.outside c.in-Ok.ensures.others;
    }

pub returns-clause-ends : goal.returns-clause-ends
returns-clause-ends g c = λ bytes holds h.
    let i = c.loop-i.i in
    let es = finite.entries c.args.places.now.records.of in
    let entries = c.entries-listed-items.ensures.value ∙ ap (λ (x : Records). finite.entries x.of) c.table.ensures in
    let all : length es ≤ i =
    (let end = c.loop-i.auto.i-end in let test = c.loop-i-test.false in omega (arith, end, test, ap length entries)) in
    subst (λ (xs : List Listed). AreUnpacked (read_volume h.meaning) c.args.folder.now.path.now xs (g.D.Disk.files c.args.disk.now)
    (g.D.Disk.files c.loop-i.disk)) (take_all i es all) (c.loop-i.invariant.unpacked bytes holds h)
