-- What the image of a source means, by what its volumes were read to be.
use Rattle.ubi_volume.proofs.Prelude.{◌≡◌, ℕ, ◌^◌, ◌<◌, ◌≤◌, ◌∙◌, List, length, take, sym, subst, from_entries, take_all, Sizes, VolumeRecord, image_of, Agreed, Source, blocks_of, AreRecords, HasSpace, Records, Accepts, AreContents, IsContentOf, Means, Meant, AreVolumes, ArePlacesOf, Placed, Volume}
use Rattle.std.specs.FinMap as finite
use Rattle.ubi_volume.proofs.Gathered.{are_volumes, volumes_mean}
use Rattle.ubi_volume.proofs.VolumeAt.{same_records}

module _ (s : Sizes) (k : Source) (old agrees : Agreed) (p : Placed) (places : ArePlacesOf s k old p)
    (t : Records) (same : t ≡ p.records) (records : AreRecords t) (es : List (ℕ × VolumeRecord))
    (listed : es ≡ finite.entries t.of) (i : ℕ) (end : length es ≤ i) (vs : List (ℕ × Volume))
    (read : AreContents (IsContentOf s agrees) (take i es) vs) (seq : ℕ) (named : seq ≡ p.image_seq)
    (narrow : seq < 2 ^ 32) where
  sizes : t.sizes ≡ s
  sizes = subst (λ (x : Records). x.sizes ≡ s) (sym same) places.sizes

  room : HasSpace s t
  room = subst (λ (z : Sizes). HasSpace z t) sizes
      (subst (λ (x : Records). HasSpace x.sizes x) (sym same) places.within.space)

  all : AreContents (IsContentOf s agrees) (finite.entries t.of) vs
  all = subst (λ (x : List (ℕ × VolumeRecord)). AreContents (IsContentOf s agrees) x vs) (take_all i es end ∙ listed)
      read

  -- they are the volumes of a meaning, whatever the source holds
  pub volumes_are : AreVolumes s seq vs
  volumes_are = are_volumes (IsContentOf s agrees) s t vs all sizes records room (λ id r c h. (h.fits, h.kept)) seq narrow

  -- and of whatever it may hold it is the meaning
  pub meaning_is : (bytes : List ℕ) → old bytes → agrees bytes
      → Accepts (image_of s bytes) (record { sizes = s; image_seq = seq; volumes = from_entries vs })
  meaning_is bytes before holds =
      let h = places.held bytes before in
      let a = h.accepted.accepted in
      let m : Meant = record { sizes = s; image_seq = seq; volumes = from_entries vs } in
      let means : Means s (blocks_of s bytes) t m = volumes_mean (IsContentOf s agrees) s t vs all sizes records room
      (λ id r c h. (h.fits, h.kept)) (blocks_of s bytes) (λ id r c h. h.reads bytes holds) seq
      (named ∙ h.image_seq ∙ a.means.image_seq) narrow in
      record {
        whole = h.accepted.whole;
        accepted = record {
          clean = a.clean;
          records = a.records;
          table = a.table;
          alike = a.alike;
          means = subst (λ (x : Records). Means s (blocks_of s bytes) x m) (same ∙ sym (same_records s p bytes h)) means;
        };
      }
