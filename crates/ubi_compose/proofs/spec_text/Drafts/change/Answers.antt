use Rattle.ubi_compose.proofs.Prelude.{◌≡◌, ◌<◌, length, get_or, refl, ap, sym, ◌∙◌, arith, None, Some, slice_get, slice_set, All-get_or, slice_get_read, rec_fault, changed, place_of, with_line, volume_of}
use Rattle.ubi_compose.proofs.Changes.{change_answer, changed_is, drafts_kept, within_place}
use Rattle.ubi_compose.proofs.spec_text.Drafts.change.Goals as goal

pub index_mut-requires : goal.index_mut-requires
index_mut-requires c =
    let h : c.in-Some.place < length c.args.self.now =
    within_place c.args.self.now c.volume.result c.in-Some.place (sym c.in-Some.ensures) in
    let same = ap length c.self.view_is in
    let long = c.self.inside.volumes.ok.0 in omega arith

pub take_content-requires : goal.take_content-requires
take_content-requires c =
    let h : c.in-Some.place < length c.args.self.now =
    within_place c.args.self.now c.volume.result c.in-Some.place (sym c.in-Some.ensures) in
    let read : c.index_mut.result.now ≡ get_or c.args.self.now c.in-Some.place c.index_mut.result.now =
    c.index_mut.ensures.value ∙ ap (λ items. get_or items c.in-Some.place c.index_mut.result.now) c.self.view_is in
    rw read (All-get_or (λ e. rec_fault c.args.geometry.now e.1.entry ≡ None) c.args.self.now c.in-Some.place
    c.index_mut.result.now h c.requires)

pub invariant_of-self : goal.invariant_of-self
invariant_of-self c =
    drafts_kept c.self.inside.places c.self.inside.volumes.items c.in-Some.place c.index_mut.result.now
    c.take_content.new.volume c.self.invariant
    c.index_mut.ensures.value

pub returns-in-Some : goal.returns-in-Some
returns-in-Some c =
    let h : c.in-Some.place < length c.args.self.now =
    within_place c.args.self.now c.volume.result c.in-Some.place (sym c.in-Some.ensures) in
    let same = ap length c.self.view_is in
    let place : place_of (volume_of c.args.line) c.self.inside.volumes.items ≡ Some c.in-Some.place =
    ap (place_of (volume_of c.args.line)) c.self.view_is ∙ ap (λ id. place_of id c.args.self.now) (sym c.volume.ensures)
    ∙ sym c.in-Some.ensures in
    let read : slice_get c.self.inside.volumes.items c.in-Some.place ≡ Some c.index_mut.result.now =
    slice_get_read c.self.inside.volumes.items
    (length c.self.inside.volumes.items) c.in-Some.place c.index_mut.result.now refl
    (omega arith) c.index_mut.ensures.value in
    change_answer c.take_content.result
    (with_line c.args.geometry.now c.index_mut.result.now.1 c.args.line) c.take_content.new.volume
    (λ v. slice_set c.self.inside.volumes.items c.in-Some.place (c.index_mut.result.now.0, v))
    (changed c.args.geometry.now c.args.self.now c.args.line)
    (ap (λ items. changed c.args.geometry.now items c.args.line) (sym c.self.view_is)
    ∙ changed_is c.args.geometry.now c.self.inside.volumes.items c.args.line c.in-Some.place c.index_mut.result.now
    place read) c.take_content.ensures
