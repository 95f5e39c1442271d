use Rattle.ubi_media.proofs.Prelude.{List, ℕ, ◌∙◌, ap, replicate, refl, subst, sym, option_copied, RecIs, rec_bytes, rec_front, slot_reading}
use Rattle.ubi_media.proofs.RecordBytes.{length-rec_front, slot_read_back}
use Rattle.ubi_media.proofs.Writes.{sealed_is}
use Rattle.ubi_media.proofs.record.write_rec.Goals as goal

pub returns-in-None-clause-bytes : goal.returns-in-None-clause-bytes
unfolding rec_bytes
returns-in-None-clause-bytes c =
    c.empty_record.ensures ∙ sym (ap (λ o. rec_bytes c.args.geometry.now (option_copied o)) c.in-None.is)

pub returns-in-Some-clause-bytes : goal.returns-in-Some-clause-bytes
unfolding rec_bytes
returns-in-Some-clause-bytes c =
    let sound = c.requires c.in-Some.volume.now (ap option_copied c.in-Some.is) in
    let front = rec_front c.args.geometry.now c.in-Some.volume.now in
    rw (c.seal.ensures, c.front_of-bytes.ensures)
    (sealed_is 168 front (replicate 4 0) (length-rec_front c.args.geometry.now c.in-Some.volume.now sound) refl)
    ∙ sym (ap (λ o. rec_bytes c.args.geometry.now (option_copied o)) c.in-Some.is)

pub returns-in-Some-clause-read_back : goal.returns-in-Some-clause-read_back
returns-in-Some-clause-read_back c =
    subst (λ (bytes : List ℕ). RecIs c.args.geometry.now bytes (slot_reading (option_copied c.args.volume)))
    (sym (returns-in-Some-clause-bytes c))
    (slot_read_back c.args.geometry.now (option_copied c.args.volume) c.requires)
