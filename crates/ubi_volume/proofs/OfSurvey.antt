-- The places of a surveyed image, by the meaning that was surveyed.
use Rattle.ubi_volume.proofs.Prelude.{◌≡◌, ◌∙◌, ℕ, List, map, ap, sym, subst, refl, None, Option, Some, SlotMeans, Records, nat_cmp_total, from_entries, Sizes, VolumeRecord, image_of, blocks_of, NoMismatch, CaseIs, case_in, Agreed, Narrows, Source, scan_narrowed, Meant, ArePlaces, Placed, case_of, Volume, PlaceContent, IsSurvey, IsSurveyOf, Seen}
use Rattle.std.specs.FinMap as finite
use Rattle.ubi_volume.proofs.OneMeaning.{reads_unique}
use Rattle.ubi_volume.proofs.PlacesOf.{find_case}
use Rattle.ubi_volume.proofs.VolumeAt.{content_has, has_volume, reads_of, same_records}

-- what is known of all that a source may hold is known of what is left of it
pub survey_narrowed : (s : Sizes) (k : Source) (old new : Agreed) (v : Seen) → Narrows old new → IsSurveyOf s k old v
    → IsSurveyOf s k new v
survey_narrowed s k old new v narrows h = record {
  scan = scan_narrowed s k old new v.scan narrows h.scan;
  sizes = h.sizes;
  mean = h.mean;
  count = h.count;
  held = λ bytes agrees. h.held bytes (narrows bytes agrees);
}

abbrev pub placed_of : Sizes → Seen → Meant → Placed
placed_of s v m = record {
  records = v.records;
  winners = v.scan.winners;
  contents = from_entries (map (case_in s) (finite.entries m.volumes));
  image_seq = v.scan.image_seq;
}

module _ (s : Sizes) (bytes : List ℕ) (v : Seen) (h : IsSurvey (image_of s bytes) v) where
  abbrev pub places_of : ArePlaces (image_of s bytes) (placed_of s v h.meaning)
  places_of = record {
    meaning = h.meaning;
    accepted = h.attached.accepted;
    records = h.records;
    image_seq = h.attached.scan.image_seq ∙ sym h.attached.accepted.accepted.means.image_seq;
    winners = h.attached.scan.winners;
    contents = λ id w e. finite.get-from_entries nat_cmp_total (map (case_in s) (finite.entries h.meaning.volumes)) id
        ∙ find_case s id (finite.entries h.meaning.volumes) w (sym (finite.get-entries h.meaning.volumes id) ∙ e);
  }

  -- what a volume with a record reads has one case
  pub tells_case : (id : ℕ) (r : VolumeRecord) (case : PlaceContent) → finite.get v.records.of id ≡ Some r
      → CaseIs s (blocks_of s bytes) id r case
      → (w : Volume) → finite.get h.meaning.volumes id ≡ Some w → case ≡ case_of s w.entry w.content
  tells_case id r case recorded is w at =
      let p = placed_of s v h.meaning in
      let has = content_has s p bytes places_of id r recorded w at in
      let reads = reads_of s p bytes places_of id r recorded w at in
      is.2 ∙ ap (case_of s r) (reads_unique s (blocks_of s bytes) h.attached.accepted.accepted.clean id r is.0 w.content
      is.1.reads has.reads is.1.fits has.fits is.1.kept has.kept)
      ∙ ap (λ (e : VolumeRecord). case_of s e w.content) (sym reads.0)

  -- no winner is unlike its record
  pub survey_alike : NoMismatch s (blocks_of s bytes) v.records
  survey_alike = subst (NoMismatch s (blocks_of s bytes)) (same_records s (placed_of s v h.meaning) bytes places_of)
      h.attached.accepted.accepted.alike

  -- a number without a record has no volume
  pub no_volume : (id : ℕ) → finite.get v.records.of id ≡ None → finite.get h.meaning.volumes id ≡ None
  no_volume id none = by_volume (finite.get h.meaning.volumes id)
      (subst (λ (o : Option VolumeRecord). SlotMeans s (blocks_of s bytes) id o (finite.get h.meaning.volumes id))
      (ap (λ (t : Records). finite.get t.of id) (same_records s (placed_of s v h.meaning) bytes places_of) ∙ none)
      (h.attached.accepted.accepted.means.slots id))
    where
      by_volume : (o : Option Volume) → SlotMeans s (blocks_of s bytes) id None o → o ≡ None
      by_volume None is = refl
      by_volume (Some w) is = absurd is

  -- one with a record has one, with that record
  pub has_entry : (id : ℕ) (r : VolumeRecord) → finite.get v.records.of id ≡ Some r
      → (w : Volume) × (finite.get h.meaning.volumes id ≡ Some w) × (w.entry ≡ r)
  has_entry id r recorded =
      let w = has_volume s (placed_of s v h.meaning) bytes places_of id r recorded in
      (w.0, w.1, (reads_of s (placed_of s v h.meaning) bytes places_of id r recorded w.0 w.1).0)

  pub entry_of : (id : ℕ) (r : VolumeRecord) → finite.get v.records.of id ≡ Some r → (w : Volume)
      → finite.get h.meaning.volumes id ≡ Some w → w.entry ≡ r
  entry_of id r recorded w at = (reads_of s (placed_of s v h.meaning) bytes places_of id r recorded w at).0
