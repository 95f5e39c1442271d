use Rattle.ubi_reading.proofs.Prelude.{◌≡◌, ◌∙◌, ap, refl, sym, err_from_is_err_and, IfOk-weaker, keeps_promise, sizes_of, OfFile, no_file, unreadable, ComparesOf, Tells-weaker, Works-weaker, at_places, by_bytes, dumps_at_places, dumps_by_bytes, tells_less}
use Rattle.ubi_reading.proofs.comparison.compare_dumps.Goals as goal

pub returns-in_err-frame-clause-unread : goal.returns-in_err-frame-clause-unread
returns-in_err-frame-clause-unread g c =
    let p = err_from_is_err_and c.from_residual.result c.from_residual.ensures.1 in
    rw (p.1, p.2) (Tells-weaker _ _ (λ o h. no_file (unreadable h)) _ (c.in_err-frame.ensures.broken c.args.left.path.now))

pub returns-in_err-file-clause-unread : goal.returns-in_err-file-clause-unread
returns-in_err-file-clause-unread g c =
    let p = err_from_is_err_and c.from_residual-in_err-file.result c.from_residual-in_err-file.ensures.1 in
    rw (p.1, p.2) (Tells-weaker _ _ (λ o h. no_file h) _ (rw c.in_ok-frame.ensures.dump at c.in_err-file.ensures.unread))

pub returns-in-AtPlaces-clause-answer : goal.returns-in-AtPlaces-clause-answer
returns-in-AtPlaces-clause-answer g c =
    let dump = c.args.left.known.dump in
    let right = c.args.right in
    let d = g.D.Disk.files c.args.disk.now in
    let h = rw (c.in_ok-frame.ensures.dump, c.in-AtPlaces.is) at c.in_ok-file.ensures.opened in
    let alike : sizes_of right.known.dump.numbers ≡ sizes_of dump.numbers = ap sizes_of (sym c.requires.alike) in
    IfOk-weaker c.compare_beside-work.result _ _
    (λ o work. dumps_at_places d dump right.known.dump c.args.left.path.now right.path.now (ComparesOf c.args.how) alike _ _ _ o h.1 h.2 h.3
    (keeps_promise _ _ _ c.compare_beside-work.new.source.told) work)
    c.compare_beside-work.ensures.answer

pub returns-in-AtPlaces-clause-unread : goal.returns-in-AtPlaces-clause-unread
returns-in-AtPlaces-clause-unread g c =
    let dump = c.args.left.known.dump in
    let right = c.args.right in
    let d = g.D.Disk.files c.args.disk.now in
    let h = rw (c.in_ok-frame.ensures.dump, c.in-AtPlaces.is) at c.in_ok-file.ensures.opened in
    tells_less c.compare_beside-work.result _ _
    (λ o works. at_places d dump c.args.left.path.now (λ _ _ _. OfFile d right.known.dump right.path.now (λ _ _ _ _. ⊥))
    (sizes_of dump.numbers) refl _ _ _ o h.1 h.2 h.3 (keeps_promise _ _ _ c.compare_beside-work.new.source.told)
    (Works-weaker _ _ _ _ _ (λ e is. no_file is) o works))
    c.compare_beside-work.ensures.unread

pub returns-clause-answer : goal.returns-clause-answer
returns-clause-answer g c =
    let dump = c.args.left.known.dump in
    let right = c.args.right in
    let d = g.D.Disk.files c.args.disk.now in
    let h = rw (c.in_ok-frame.ensures.dump, c.in-Whole.is) at c.in_ok-file.ensures.opened in
    let alike : sizes_of right.known.dump.numbers ≡ sizes_of dump.numbers = ap sizes_of (sym c.requires.alike) in
    IfOk-weaker c.compare_beside-work-in-Whole.result _ _
    (λ o work. dumps_by_bytes d dump right.known.dump c.args.left.path.now right.path.now (ComparesOf c.args.how) alike
    c.in-Whole.file.bytes.items _ _ o h.1 h.2 h.3 (c.new-source.ensures ∙ c.as_slice.ensures.value)
    c.compare_beside-work-in-Whole.ensures.narrows work.1)
    c.compare_beside-work-in-Whole.ensures.answer

pub returns-clause-unread : goal.returns-clause-unread
returns-clause-unread g c =
    let dump = c.args.left.known.dump in
    let right = c.args.right in
    let d = g.D.Disk.files c.args.disk.now in
    let h = rw (c.in_ok-frame.ensures.dump, c.in-Whole.is) at c.in_ok-file.ensures.opened in
    tells_less c.compare_beside-work-in-Whole.result _ _
    (λ o works. by_bytes d dump c.args.left.path.now (λ _ _ _. OfFile d right.known.dump right.path.now (λ _ _ _ _. ⊥))
    (sizes_of dump.numbers) refl c.in-Whole.file.bytes.items _ _ o h.1 h.2 h.3 (c.new-source.ensures ∙ c.as_slice.ensures.value)
    c.compare_beside-work-in-Whole.ensures.narrows (Works-weaker _ _ _ _ _ (λ e is. no_file is) o works))
    c.compare_beside-work-in-Whole.ensures.unread
