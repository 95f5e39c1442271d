-- The lines of the volumes of an image, by their places.
use Rattle.ubi_reading.proofs.Prelude.{◌≡◌, ℕ, ◌+◌, ◌<◌, List, [], ◌∷◌, ◌++◌, length, take, get_or, append-nil, append_assoc, ap, sym, ◌∙◌, arith, decimal, flat_map, flat_map-append, take_all, take_more, Sizes, VolumeRecord, image_of, AmountIs, ArePlaces, Placed, Amount, Volume, count, volume_at, list_lines, record_line, sizes_line, volume_line, map, subst, suc, zero, map-append, All-append, rec_fault, json_line, list_data, listed_data, listed_volume, ListedVolume, None, All}
use Rattle.std.specs.Prelude.{codes}
use Rattle.std.specs.FinMap as finite
use Rattle.ubi_volume.specs.declared.content.Content.TheVariants as content

just_one : (P : ListedVolume → Type 0) (v : ListedVolume) → P v → All P (v ∷ [])
just_one P v here zero d inside = here
just_one P v here (suc k) d inside = absurd (omega (arith, inside))

-- the record of one volume more is sound
pub sound_more : (s : Sizes) (old new : List ListedVolume) (v : ListedVolume) → All (λ w. rec_fault s w.entry ≡ None) old
    → rec_fault s v.entry ≡ None → new ≡ old ++ v ∷ [] → All (λ w. rec_fault s w.entry ≡ None) new
sound_more s old new v before here is =
    let sound : ListedVolume → Type 0 = λ w. rec_fault s w.entry ≡ None in
    subst (All sound) (sym is) (All-append sound old (v ∷ []) before (just_one sound v here))

module _ (s : Sizes) (p : Placed) (image : List ℕ) (h : ArePlaces (image_of s image) p) where
  abbrev volumes : List (ℕ × Volume)
  volumes = finite.entries h.meaning.volumes

  -- the line of one volume more
  pub lines_more : (n : ℕ) (e : ℕ × VolumeRecord) (amount : Amount) (old before text : List ℕ)
      → n < length (finite.entries p.records.of) → e ≡ get_or (finite.entries p.records.of) n e
      → AmountIs s p e.0 image amount → before ≡ old ++ flat_map (volume_line s) (take n volumes)
      → text ≡ before ++ record_line s e.0 e.1 amount
      → text ≡ old ++ flat_map (volume_line s) (take (n + 1) volumes)
  lines_more n e amount old before text inside is tells front back =
      let d : ℕ × Volume = (e.0, record { entry = e.1; content = content.Updating }) in
      let v = volume_at s p image h n e d inside is in
      let f = volume_line s in
      let line : record_line s e.0 e.1 amount ≡ f (e.0, v.0) =
      ap (λ (r : VolumeRecord). record_line s e.0 r amount) (sym v.3)
      ∙ ap (record_line s e.0 v.0.entry) (tells h v.0 v.4) in
      let next : flat_map f (take (n + 1) volumes) ≡ flat_map f (take n volumes) ++ f (e.0, v.0) =
      ap (flat_map f) (take_more volumes n d v.1) ∙ flat_map-append f (take n volumes) (get_or volumes n d ∷ [])
      ∙ ap (λ x. flat_map f (take n volumes) ++ x) (append-nil (f (get_or volumes n d)))
      ∙ ap (λ (x : ℕ × Volume). flat_map f (take n volumes) ++ f x) v.2 in
      back ∙ ap (λ x. x ++ record_line s e.0 e.1 amount) front
      ∙ append_assoc old (flat_map f (take n volumes)) (record_line s e.0 e.1 amount)
      ∙ ap (λ x. old ++ (flat_map f (take n volumes) ++ x)) line ∙ ap (λ x. old ++ x) (sym next)

  -- one volume more as it is listed
  pub volumes_more : (n : ℕ) (e : ℕ × VolumeRecord) (amount : Amount) (before after : List ListedVolume)
      → n < length (finite.entries p.records.of) → e ≡ get_or (finite.entries p.records.of) n e
      → AmountIs s p e.0 image amount → before ≡ map listed_volume (take n volumes)
      → after ≡ before ++ record { id = e.0; entry = e.1; amount = amount } ∷ []
      → after ≡ map listed_volume (take (n + 1) volumes)
  volumes_more n e amount before after inside is tells front back =
      let d : ℕ × Volume = (e.0, record { entry = e.1; content = content.Updating }) in
      let v = volume_at s p image h n e d inside is in
      let one : ◌≡◌ {A = ListedVolume} (record { id = e.0; entry = e.1; amount = amount }) (listed_volume (e.0, v.0)) =
      ap (λ (r : VolumeRecord). record { id = e.0; entry = r; amount = amount }) (sym v.3)
      ∙ ap (λ (a : Amount). record { id = e.0; entry = v.0.entry; amount = a }) (tells h v.0 v.4) in
      let next : map listed_volume (take (n + 1) volumes) ≡ map listed_volume (take n volumes) ++ listed_volume (e.0, v.0) ∷ [] =
      ap (map listed_volume) (take_more volumes n d v.1) ∙ map-append listed_volume (take n volumes) (get_or volumes n d ∷ [])
      ∙ ap (λ (x : ℕ × Volume). map listed_volume (take n volumes) ++ listed_volume x ∷ []) v.2 in
      back ∙ ap (λ x. x ++ record { id = e.0; entry = e.1; amount = amount } ∷ []) front
      ∙ ap (λ (x : ListedVolume). map listed_volume (take n volumes) ++ x ∷ []) one ∙ sym next

  pub lines_all : (n : ℕ) → n ≡ length (finite.entries p.records.of) → take n volumes ≡ volumes
  lines_all n all = take_all n volumes (let same = count s p image h in omega (arith, all, same))

  -- all lines
  pub listing : (old sizes lines counted all : List ℕ) (n : ℕ) → old ≡ [] → sizes ≡ old ++ sizes_line s
      → lines ≡ sizes ++ flat_map (volume_line s) volumes
      → counted ≡ lines ++ (codes "volumes " ++ decimal n) → all ≡ counted ++ codes "\n" → n ≡ length (finite.entries p.records.of) → all ≡ list_lines h.meaning
  listing old sizes lines counted all n none one two three four many =
      let a = sizes_line s in
      let b = flat_map (volume_line s) volumes in
      let c = codes "volumes " in
      let d = decimal (length volumes) in
      let e = codes "\n" in
      let same : h.meaning.sizes ≡ s = h.accepted.accepted.means.sizes in
      let start : sizes ≡ a = one ∙ ap (λ x. x ++ a) none in
      let total : n ≡ length volumes = many ∙ count s p image h in
      four
      ∙ ap (λ x. x ++ e) (three ∙ ap (λ x. x ++ (c ++ decimal n)) (two ∙ ap (λ x. x ++ b) start)
      ∙ ap (λ k. a ++ b ++ (c ++ decimal k)) total ∙ sym (append_assoc (a ++ b) c d))
      ∙ ap (λ (z : Sizes). sizes_line z ++ flat_map (volume_line z) volumes ++ c ++ d ++ e) (sym same)

  -- and as one object
  pub listing_object : (listed : List ListedVolume) (line : List ℕ) → listed ≡ map listed_volume volumes
      → line ≡ json_line (listed_data s listed) → line ≡ json_line (list_data h.meaning)
  listing_object listed line are is =
      let same : h.meaning.sizes ≡ s = h.accepted.accepted.means.sizes in
      is ∙ ap (λ (vs : List ListedVolume). json_line (listed_data s vs)) are
      ∙ ap (λ (z : Sizes). json_line (listed_data z (map listed_volume volumes))) (sym same)
