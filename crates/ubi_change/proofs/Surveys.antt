-- What a survey of an image shows of its meaning.
use Rattle.ubi_change.proofs.Prelude.{◌≡◌, ℕ, refl, ap, sym, ◌∙◌, None, Option, Some, option_map, get, same_Some, VolumeRecord, Image, Records, AttachValue, IsSurvey, Seen, Content, Volume, record_of, no_some}

with_entry : (o : Option Volume) (r : VolumeRecord) → option_map (λ (v : Volume). v.entry) o ≡ Some r
    → (c : Content) × (o ≡ Some (record { entry = r; content = c }))
with_entry None r e = absurd (no_some r e)
with_entry (Some v) r e =
    (v.content, ap (λ (x : VolumeRecord). Some (record { entry = x; content = v.content })) (same_Some v.entry r e))

without_entry : (o : Option Volume) → option_map (λ (v : Volume). v.entry) o ≡ None → o ≡ None
without_entry None e = refl
without_entry (Some v) e = absurd (no_some v.entry (sym e))

module _ (image : Image) (seen : Seen) (is : IsSurvey image seen) where
  -- what an attach gives
  abbrev pub whole : AttachValue
  whole = record { meaning = is.meaning; scan = seen.scan; states = seen.states }

  recorded : (id : ℕ) → get seen.records.of id ≡ option_map (λ (v : Volume). v.entry) (get is.meaning.volumes id)
  recorded id = ap (λ (t : Records). get t.of id) is.records ∙ record_of is.meaning id

  -- a record is that of a volume
  pub has_volume : (id : ℕ) (r : VolumeRecord) → get seen.records.of id ≡ Some r
      → (c : Content) × (get is.meaning.volumes id ≡ Some (record { entry = r; content = c }))
  has_volume id r e = with_entry (get is.meaning.volumes id) r (sym (recorded id) ∙ e)

  -- and without a record there is none
  pub has_none : (id : ℕ) → get seen.records.of id ≡ None → get is.meaning.volumes id ≡ None
  has_none id e = without_entry (get is.meaning.volumes id) (sym (recorded id) ∙ e)
