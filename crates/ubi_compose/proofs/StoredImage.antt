-- The normal image of an image whose places are known, by their pieces; and what a writer received of it.
use Rattle.ubi_compose.proofs.Prelude.{◌≡◌, ℕ, ◌*◌, ◌/◌, ◌<◌, inr, Result, Ok, Err, List, [], ◌++◌, length, take, refl, ap, sym, ◌∙◌, subst, arith, IfSome, Option, Some, None, flat_map, option_map, option_map_or, range_with_len, Appends, append_assoc, append-nil, take_all, Sizes, slots, VolumeRecord, image_of, same_range, Agreed, Source, blocks_in, Records, table_bytes, Meant, ArePlaces, AreWithin, ArePlacesOf, CaseFits, Placed, case_of, PlaceContent, Volume, same_Some, laid_blocks, laid_bytes, layout_block, new_ec, normal_bytes, volume_blocks, IsNormaliseToError, IsNormalisedTo, All, First, NotAll, Wrote, those, mul-div_cancel, PutError, HasPut, IsReadIn, first_volumes, image_bytes, tables_bytes, volume_bytes, stored_count, stored_piece, stored_pieces, HasGot, record_of, entries_by_number, flat_map-flat_map}
use Rattle.ubi_compose.specs.declared.errors.PutError.TheVariants as put
use Rattle.std.specs.FinMap as finite
use Rattle.ubi_scan.specs.declared.errors.StreamError.TheVariants as stream
use Rattle.ubi_compose.proofs.StoredNext.{read_place}
use Rattle.ubi_compose.proofs.StoredPieces.{d, s, volume, volume_written, written}

module _ (p : Placed) (n : ℕ) (within : AreWithin n p) (image : List ℕ) (places : ArePlaces (image_of (s p image) image) p) where
  abbrev m : Meant
  m = places.meaning

  abbrev laid_of : ℕ × Volume → List ℕ
  laid_of e = flat_map (laid_bytes (s p image) (new_ec p.image_seq))
      (volume_blocks (s p image) e.0 e.1.entry e.1.content)

  recorded : (id : ℕ) → finite.get p.records.of id ≡ option_map (λ (v : Volume). v.entry) (finite.get m.volumes id)
  recorded id = ap (λ (t : Records). finite.get t.of id) places.records ∙ record_of m id

  recorded_in : (id : ℕ) (v : Volume) → finite.get m.volumes id ≡ Some v → finite.get p.records.of id ≡ Some v.entry
  recorded_in id v at = recorded id ∙ ap (option_map (λ (v : Volume). v.entry)) at

  below : (id : ℕ) (v : Volume) → finite.get m.volumes id ≡ Some v → id < slots (s p image)
  below id v at = (volume p image places id v at (recorded_in id v at)).slot

  -- what is written of a volume, by its record and what it reads
  abbrev of : ℕ → Option VolumeRecord → Option PlaceContent → List ℕ
  of id r c = flat_map
      (λ l. written p image (option_map_or (λ r. option_map_or (stored_piece p id l r) c None) r None))
      (range_with_len 0 (option_map_or (λ r. option_map_or (stored_count r) c 0) r 0))

  volume_is_written : (id : ℕ) (o : Option Volume) → finite.get m.volumes id ≡ o
      → option_map_or (λ v. laid_of (id, v)) o [] ≡ volume_bytes (d p image) (stored_pieces p) id image
  volume_is_written id None e =
      ap (λ r. of id r (finite.get p.contents id)) (sym (recorded id ∙ ap (option_map (λ (v : Volume). v.entry)) e))
  volume_is_written id (Some v) e =
      let is = recorded_in id v e in
      let case = places.contents id v e in
      let fits = within.contents id v.entry is in
      let same : fits.0 ≡ case_of (s p image) v.entry v.content = same_Some _ _ (sym fits.1 ∙ case) in
      volume_written p image places id v e is v.content refl (subst (CaseFits p.winners id v.entry) same fits.2)
      ∙ ap (λ r. of id r (Some (case_of (s p image) v.entry v.content))) (sym is)
      ∙ ap (of id (finite.get p.records.of id)) (sym case)

  volumes_are : flat_map (laid_bytes (s p image) (new_ec p.image_seq)) (laid_blocks (s p image) (finite.entries m.volumes))
      ≡ first_volumes (d p image) (stored_pieces p) (slots (s p image)) image
  volumes_are =
      flat_map-flat_map (laid_bytes (s p image) (new_ec p.image_seq))
      (λ (v : ℕ × Volume). volume_blocks (s p image) v.0 v.1.entry v.1.content) (finite.entries m.volumes)
      ∙ entries_by_number laid_of m.volumes (slots (s p image)) below
      ∙ same_range _ _ 0 (slots (s p image)) (λ id low high. volume_is_written id (finite.get m.volumes id) refl)

  whole : (z : Sizes) (seq : ℕ) → m.sizes ≡ z → m.image_seq ≡ seq
      → normal_bytes m ≡ tables_bytes (record { geometry = z; image_seq = seq }) (table_bytes p.records) image
      ++ flat_map (laid_bytes z (new_ec seq)) (laid_blocks z (finite.entries m.volumes))
  unfolding normal_bytes
  whole z seq sizes named =
      let f = λ (z : Sizes) (seq copy : ℕ). laid_bytes z (new_ec seq) (layout_block m copy) in
      let g = λ (z : Sizes) (seq : ℕ). flat_map (laid_bytes z (new_ec seq)) (laid_blocks z (finite.entries m.volumes)) in
      ap (λ z. f z m.image_seq 0 ++ (f z m.image_seq 1 ++ g z m.image_seq)) sizes
      ∙ ap (λ q. f z q 0 ++ (f z q 1 ++ g z q)) named ∙ sym (append_assoc (f z seq 0) (f z seq 1) (g z seq))
      ∙ ap (λ (t : Records). tables_bytes (record { geometry = z; image_seq = seq }) (table_bytes t) image ++ g z seq)
      (sym places.records)

  pub image_is : normal_bytes m ≡ image_bytes (d p image) (table_bytes p.records) (stored_pieces p) 0 image
  image_is = whole (s p image) p.image_seq places.accepted.accepted.means.sizes (sym places.image_seq)
      ∙ ap (λ vs. tables_bytes (d p image) (table_bytes p.records) image ++ vs) volumes_are
      ∙ sym (append-nil (tables_bytes (d p image) (table_bytes p.records) image
      ++ first_volumes (d p image) (stored_pieces p) (slots (s p image)) image))

-- what is answered then of a source, where the last read that failed began at a place
abbrev pub IsTold : Sizes → Source → Agreed → Option (List ℕ) → Option (List ℕ) → ℕ → Result ℕ PutError → Type 0
IsTold z k agrees a b at (Ok n) = IsNormalisedTo z agrees a b n
IsTold z k agrees a b at (Err (put.Read number n)) =
    IsNormaliseToError z k agrees a b (stream.Read number n) × (number ≡ at / z.peb_size)
IsTold z k agrees a b at (Err (put.Write n)) = IsNormaliseToError z k agrees a b (stream.Write n)

-- what was written over a source
module _ (z : Sizes) (k : Source) (agrees : Agreed) (p : Placed) (of : ArePlacesOf z k agrees p) (seq : ℕ)
    (seq_is : seq ≡ p.image_seq) (table : List ℕ) (table_is : table ≡ table_bytes p.records) (a b : Option (List ℕ)) where
  abbrev pub normal : List ℕ → List ℕ
  normal = image_bytes (record { geometry = z; image_seq = seq }) table (stored_pieces p) 0

  normal_is : (image : List ℕ) (holds : agrees image) → normal_bytes (of.held image holds).meaning ≡ normal image
  normal_is image holds =
      let f = λ (z : Sizes) (n : ℕ) (t : List ℕ).
      image_bytes (record { geometry = z; image_seq = n }) t (stored_pieces p) 0 image in
      subst (λ (z : Sizes). (h : ArePlaces (image_of z image) p)
      → normal_bytes h.meaning ≡ f z p.image_seq (table_bytes p.records))
      of.sizes (image_is p (blocks_in z k) of.within image) (of.held image holds)
      ∙ ap (λ n. f z n (table_bytes p.records)) (sym seq_is) ∙ ap (f z seq) (sym table_is)

  -- a read that failed was one of an eraseblock of the source, and is told of it
  place_of : (at number : ℕ) → IsReadIn z (stored_pieces p) at number
      → (number < blocks_in z k) × (at ≡ number * z.peb_size)
  place_of at number is =
      let b = read_place p is.0 is.1 is.2 is.4 z at number is.5 in
      (subst (λ (o : Option ℕ). IfSome o (λ at. at < blocks_in z k)) b.0 (of.within.winners (is.0, is.1)), b.1)

  got : (many : ℕ → ℕ → Type 0) (n : ℕ) → Wrote agrees a b (those normal) many 0 n → HasGot a b n
  got many n h = (h.bytes, (let c = h.count in omega (arith, c)), h.got)

  -- they are the first n bytes of the normal image
  first : (many : ℕ → ℕ → Type 0) (n : ℕ) (h : Wrote agrees a b (those normal) many 0 n) (image : List ℕ)
      (is : agrees image) → many n (length (normal_bytes (of.held image is).meaning))
      × Appends a b (take n (normal_bytes (of.held image is).meaning))
  first many n h image is =
      let x : List ℕ = normal_bytes (of.held image is).meaning in
      let all = h.held image is x (normal_is image is) in
      let long : length h.bytes ≡ n = (let c = h.count in omega (arith, c)) in
      (subst (λ l. many l (length x)) long all.0, subst (Appends a b) (all.1 ∙ ap (λ l. take l x) long) h.got)

  pub told : 0 < z.peb_size → (at : ℕ) (r : Result ℕ PutError)
      → HasPut (IsReadIn z (stored_pieces p) at) agrees a b normal 0 r → IsTold z k agrees a b at r
  told some at (Ok n) h = record {
    got = got All n h;
    held = λ image is.
        let m = of.held image is in
        let w = first All n h image is in
        record {
          meaning = m.meaning;
          accepted = m.accepted;
          count = w.0;
          written = subst (Appends a b) (take_all n (normal_bytes m.meaning) (let e = w.0 in omega (arith, e))) w.1;
        };
  }
  told some at (Err (put.Read number n)) h = (
    (
      of.whole,
      (place_of at number h.0).0,
      got First n h.1,
      inr (λ image is.
          let m = of.held image is in
          let w = first First n h.1 image is in
          record { meaning = m.meaning; accepted = m.accepted; within = w.0; written = w.1 }),
    ),
    sym (ap (λ n. n / z.peb_size) (place_of at number h.0).1 ∙ mul-div_cancel number some),
  )
  told some at (Err (put.Write n)) h = (
    got NotAll n h,
    λ image is.
        let m = of.held image is in
        let w = first NotAll n h image is in
        record { meaning = m.meaning; accepted = m.accepted; short = w.0; written = w.1 },
  )
