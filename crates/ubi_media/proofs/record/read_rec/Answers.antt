use Rattle.ubi_media.proofs.Prelude.{◌≡◌, ◌∙◌, ap, sym, true, false, same_bytes, empty_record, judged}
use Rattle.ubi_media.proofs.Records.{reads_bad, reads_empty, reads_judged, rec_is_of}
use Rattle.ubi_media.proofs.SoundRecords.{valid_sound}
use Rattle.ubi_media.proofs.record.read_rec.Goals as goal

pub returns-then-not-is_sealed-clause-value : goal.returns-then-not-is_sealed-clause-value
returns-then-not-is_sealed-clause-value c = reads_bad _ _ (sym c.is_sealed.ensures ∙ c.if-not-is_sealed.true)

pub returns-then-not-is_sealed-clause-is : goal.returns-then-not-is_sealed-clause-is
returns-then-not-is_sealed-clause-is c = rec_is_of _ _ _ (returns-then-not-is_sealed-clause-value c)

pub returns-then-eq-clause-value : goal.returns-then-eq-clause-value
returns-then-eq-clause-value c =
    let same : same_bytes c.args.bytes.now empty_record ≡ true =
    sym (ap (same_bytes c.args.bytes.now) c.empty_record.ensures) ∙ sym c.eq.ensures ∙ c.if-eq.true in
    reads_empty _ _ (sym c.is_sealed.ensures ∙ c.if-not-is_sealed.false) same

pub returns-then-eq-clause-is : goal.returns-then-eq-clause-is
returns-then-eq-clause-is c = rec_is_of _ _ _ (returns-then-eq-clause-value c)

pub returns-clause-value : goal.returns-clause-value
returns-clause-value c =
    let other : same_bytes c.args.bytes.now empty_record ≡ false =
    sym (ap (same_bytes c.args.bytes.now) c.empty_record.ensures) ∙ sym c.eq.ensures ∙ c.if-eq.false in
    c.judged.ensures
    ∙ ap (judged c.args.geometry.now) c.fields_of.ensures
    ∙ reads_judged _ _ (sym c.is_sealed.ensures ∙ c.if-not-is_sealed.false) other

pub returns-clause-is : goal.returns-clause-is
returns-clause-is c = rec_is_of _ _ _ (returns-clause-value c)

pub returns-then-not-is_sealed-clause-sound : goal.returns-then-not-is_sealed-clause-sound
returns-then-not-is_sealed-clause-sound c r e = valid_sound _ _ r (sym (returns-then-not-is_sealed-clause-value c) ∙ e)

pub returns-then-eq-clause-sound : goal.returns-then-eq-clause-sound
returns-then-eq-clause-sound c r e = valid_sound _ _ r (sym (returns-then-eq-clause-value c) ∙ e)

pub returns-clause-sound : goal.returns-clause-sound
returns-clause-sound c r e = valid_sound _ _ r (sym (returns-clause-value c) ∙ e)
