use Rattle.ubi_dumps.proofs.Prelude.{◌∙◌, inl, inr, refl, subst, sym, IfOk-weaker, err_from_is_err_and, keeps_promise, greatest_dump, sizes_of, IsDump, IsToldFirst, TellsNothing, file, no_file, told, unreadable, whole, Dump, never_opened, Tells-weaker}
use Rattle.ubi_dumps.specs.declared.asked.Asked.TheVariants as asked
use Rattle.ubi_dumps.proofs.Ended.{at_places, both, read_at_places}
use Rattle.ubi_dumps.proofs.Found.{is_there, no_read, tells_less}
use Rattle.ubi_dumps.proofs.KeptPart.{kept_of_told}
use Rattle.ubi_dumps.proofs.dump.seek_dump.Goals as goal

pub returns-in_err-frame-clause-untold : goal.returns-in_err-frame-clause-untold
returns-in_err-frame-clause-untold g c =
    let p = err_from_is_err_and c.from_residual.result c.from_residual.ensures.1 in
    rw (p.1, p.2) (Tells-weaker _ _ (λ o h. no_file (unreadable h)) _ (rw c.greatest.ensures at c.in_err-frame.ensures.broken c.args.path.now))

pub returns-in_err-file-clause-untold : goal.returns-in_err-file-clause-untold
returns-in_err-file-clause-untold g c =
    let p = err_from_is_err_and c.from_residual-in_err-file.result c.from_residual-in_err-file.ensures.1 in
    let is = c.in_ok-frame.ensures.dump ∙ c.greatest.ensures in
    rw (p.1, p.2) (Tells-weaker _ _ (λ o h. no_file h) _ (rw is at c.in_err-file.ensures.unread))

pub returns-in-AtPlaces-clause-dump : goal.returns-in-AtPlaces-clause-dump
returns-in-AtPlaces-clause-dump g c =
    let d = g.D.Disk.files c.args.disk.now in
    let sought = c.args.sought.now in
    let is = c.in_ok-frame.ensures.dump ∙ c.greatest.ensures in
    let h = rw (is, c.in-AtPlaces.is) at c.in_ok-file.ensures.opened in
    let work = c.seek_at_places-found.ensures in
    IfOk-weaker c.seek_at_places-found.result _ _
    (λ known f. subst (λ (dump : Dump). IsDump d c.args.path.now (asked.Sought sought) dump) (sym f.0.2)
    (told f.0.0 (read_at_places d (greatest_dump sought.part) c.args.path.now (λ _ agrees. IsToldFirst sought.part agrees f.0.0) _ _ _ h.1 h.2 h.3
    (keeps_promise _ _ _ c.seek_at_places-found.new.source.told) f.1 f.0.1)))
    (both c.seek_at_places-found.result _ _ work.told work.known)

pub returns-in-AtPlaces-clause-untold : goal.returns-in-AtPlaces-clause-untold
returns-in-AtPlaces-clause-untold g c =
    let d = g.D.Disk.files c.args.disk.now in
    let dump = greatest_dump c.args.sought.now.part in
    let is = c.in_ok-frame.ensures.dump ∙ c.greatest.ensures in
    let h = rw (is, c.in-AtPlaces.is) at c.in_ok-file.ensures.opened in
    tells_less c.seek_at_places-found.result _ _
    (λ o e. elim e [
      | inl works ↦ at_places d dump c.args.path.now (λ _. TellsNothing c.args.sought.now.part c.args.side.now) (sizes_of dump.numbers) refl _ _ _ o h.1 h.2 h.3
          (keeps_promise _ _ _ c.seek_at_places-found.new.source.told) works
      | inr line ↦ no_file (no_read d dump c.args.path.now o h.1 line)
    ])
    c.seek_at_places-found.ensures.nothing

pub returns-clause-dump : goal.returns-clause-dump
returns-clause-dump g c =
    let d = g.D.Disk.files c.args.disk.now in
    let sought = c.args.sought.now in
    let is = c.in_ok-frame.ensures.dump ∙ c.greatest.ensures in
    let h = rw (is, c.in-Whole.is) at c.in_ok-file.ensures.opened in
    IfOk-weaker c.seek_whole-found.result _ _
    (λ known f. subst (λ (dump : Dump). IsDump d c.args.path.now (asked.Sought sought) dump) (sym f.2)
    (told f.0 (whole c.in-Whole.file.bytes.items h.1 h.2 h.3 f.1)))
    c.seek_whole-found.ensures.told

pub returns-clause-kept : goal.returns-clause-kept
returns-clause-kept g c =
    let d = g.D.Disk.files c.args.disk.now in
    let sought = c.args.sought.now in
    let is = c.in_ok-frame.ensures.dump ∙ c.greatest.ensures in
    let h = rw (is, c.in-Whole.is) at c.in_ok-file.ensures.opened in
    IfOk-weaker c.seek_whole-found.result _ _
    (λ known f. is_there known.kept _ _ f.3 (λ bytes are. rw f.2
    (kept_of_told sought f.0 c.in-Whole.file.bytes.items bytes.items f.1 are d c.args.path.now h.2 h.3)))
    c.seek_whole-found.ensures.told

pub returns-clause-opens : goal.returns-clause-opens
returns-clause-opens g c = λ known.
    let is = c.in_ok-frame.ensures.dump ∙ c.greatest.ensures in
    let never = rw (is, c.in-Whole.is) at c.in_ok-file.ensures.opens known in
    never_opened _ _ _ never

pub returns-clause-untold : goal.returns-clause-untold
returns-clause-untold g c =
    let d = g.D.Disk.files c.args.disk.now in
    let dump = greatest_dump c.args.sought.now.part in
    let is = c.in_ok-frame.ensures.dump ∙ c.greatest.ensures in
    let h = rw (is, c.in-Whole.is) at c.in_ok-file.ensures.opened in
    tells_less c.seek_whole-found.result _ _
    (λ o e. elim e [
      | inl nothing ↦ file (whole c.in-Whole.file.bytes.items h.1 h.2 h.3 nothing)
      | inr line ↦ no_file (no_read d dump c.args.path.now o h.1.limits line)
    ])
    c.seek_whole-found.ensures.nothing
