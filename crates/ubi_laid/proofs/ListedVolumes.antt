-- The volumes of an image whose places are known, as its table lists them.
use Rattle.ubi_laid.proofs.Prelude.{◌≡◌, ℕ, ◌<◌, List, length, map, get_or, ap, sym, ◌∙◌, subst, arith, Some, nat_cmp_total, get_or-map, length-map, Sizes, VolumeRecord, image_of, entries_revalued, find_at, Records, Meant, records_of, ArePlaces, Placed, Volume, record_at}
use Rattle.std.specs.FinMap as finite

-- the entries of the records of a meaning are those of its volumes
abbrev entry_in : ℕ × Volume → ℕ × VolumeRecord
entry_in e = (e.0, e.1.entry)

records_listed : (m : Meant) → finite.entries (records_of m).of ≡ map entry_in (finite.entries m.volumes)
records_listed m = entries_revalued record_at m.volumes

module _ (s : Sizes) (p : Placed) where
  listed : (image : List ℕ) (h : ArePlaces (image_of s image) p)
      → finite.entries p.records.of ≡ map entry_in (finite.entries h.meaning.volumes)
  listed image h = ap (λ (t : Records). finite.entries t.of) h.records ∙ records_listed h.meaning

  pub count : (image : List ℕ) (h : ArePlaces (image_of s image) p)
      → length (finite.entries p.records.of) ≡ length (finite.entries h.meaning.volumes)
  count image h = ap length (listed image h) ∙ length-map (finite.entries h.meaning.volumes) entry_in

  -- the volume of an entry, at its place among the volumes
  pub volume_at : (image : List ℕ) (h : ArePlaces (image_of s image) p) (n : ℕ) (e : ℕ × VolumeRecord) (d : ℕ × Volume)
      → n < length (finite.entries p.records.of) → e ≡ get_or (finite.entries p.records.of) n e
      → (v : Volume) × (n < length (finite.entries h.meaning.volumes))
      × (get_or (finite.entries h.meaning.volumes) n d ≡ (e.0, v)) × (v.entry ≡ e.1)
      × (finite.get h.meaning.volumes e.0 ≡ Some v)
  volume_at image h n e d inside is =
      let es = finite.entries h.meaning.volumes in
      let x : ℕ × Volume = get_or es n d in
      let here : n < length es = omega (arith, count image h) in
      let same : e ≡ entry_in x = is ∙ ap (λ es. get_or es n e) (listed image h) ∙ get_or-map entry_in es n d e here in
      let number : x.0 ≡ e.0 = sym (ap (λ (e : ℕ × VolumeRecord). e.0) same) in
      let found : finite.get h.meaning.volumes x.0 ≡ Some x.1 = finite.get-entries h.meaning.volumes x.0
      ∙ find_at nat_cmp_total es n d (finite.entries_sorted h.meaning.volumes) here in (
        x.1,
        here,
        λ i. (number i, x.1),
        sym (ap (λ (e : ℕ × VolumeRecord). e.1) same),
        subst (λ id. finite.get h.meaning.volumes id ≡ Some x.1) number found,
      )
