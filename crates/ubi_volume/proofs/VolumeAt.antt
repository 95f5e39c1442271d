-- A volume of an image whose places are known.
use Rattle.ubi_volume.proofs.Prelude.{◌≡◌, ℕ, ◌⊎◌, inl, inr, List, length, refl, ap, sym, ◌∙◌, subst, IfSome, None, Option, Some, MatchOption, FinMap, nat_cmp, same_Some, Sizes, usable, VolumeRecord, image_of, Leb, NoMember, Wins, blocks_of, Records, leb_bytes, ContentIs, LebReads, SlotMeans, VolumeReads, Fits, IsVolume, KeepsNoBlank, pieces, ArePlaces, Placed, case_of, Content, Volume, PlaceContent}
use Rattle.std.specs.FinMap as finite
use Rattle.ubi_volume.specs.declared.content.Content.TheVariants as content
use Rattle.ubi_volume.specs.declared.places.PlaceContent.TheVariants as place
use Rattle.ubi_volume.proofs.Recorded.{records_meant}

-- a content has a case
abbrev pub HasCase : Sizes → VolumeRecord → PlaceContent → Content → Type 0
HasCase s r place.Updating c = c ≡ content.Updating
HasCase s r place.Damaged c = c ≡ content.Damaged
HasCase s r (place.Static lebs bytes) c =
    (t : List ℕ) × (c ≡ content.Static t) × (pieces (usable s r) (length t) ≡ lebs) × (length t ≡ bytes)
HasCase s r place.Dynamic c = (l : FinMap nat_cmp (List ℕ)) × (c ≡ content.Dynamic l)

own_case : (s : Sizes) (r : VolumeRecord) (c : Content) → HasCase s r (case_of s r c) c
own_case s r content.Updating = refl
own_case s r content.Damaged = refl
own_case s r (content.Static t) = (t, refl, refl, refl)
own_case s r (content.Dynamic l) = (l, refl)

module _ (s : Sizes) (p : Placed) (image : List ℕ) (places : ArePlaces (image_of s image) p) where
  abbrev pub table : Records
  table = places.accepted.accepted.records

  pub same_records : table ≡ p.records
  same_records = sym (records_meant s (blocks_of s image) table places.meaning places.accepted.accepted.table
      places.accepted.accepted.means) ∙ sym places.records

  -- the winner of a LEB that is found, or there is none
  pub found_or_none : (of : Leb) → ((q : ℕ) × (finite.get p.winners of ≡ Some q) × Wins s (blocks_of s image) of q)
      ⊎ NoMember s (blocks_of s image) of
  found_or_none of = by_found (finite.get p.winners of) refl (places.winners of)
    where
      by_found : (o : Option ℕ) → finite.get p.winners of ≡ o
          → MatchOption o (NoMember s (blocks_of s image) of) (Wins s (blocks_of s image) of)
          → ((q : ℕ) × (finite.get p.winners of ≡ Some q) × Wins s (blocks_of s image) of q)
          ⊎ NoMember s (blocks_of s image) of
      by_found None e h = inr h
      by_found (Some q) e h = inl (q, e, h)

  pub found_wins : (of : Leb) (q : ℕ) → finite.get p.winners of ≡ Some q → Wins s (blocks_of s image) of q
  found_wins of q e =
      subst (λ (o : Option ℕ). MatchOption o (NoMember s (blocks_of s image) of) (Wins s (blocks_of s image) of)) e
      (places.winners of)

  -- a LEB of a dynamic volume reads the bytes at its place
  pub leb_reads : (id : ℕ) (r : VolumeRecord) (lnum n : ℕ) (at : Option ℕ) (text : List ℕ) → n ≡ usable s r
      → at ≡ finite.get p.winners (id, lnum) → leb_bytes s n at image ≡ text
      → LebReads s (blocks_of s image) id r lnum text
  leb_reads id r lnum n at text size is read =
      subst (LebReads s (blocks_of s image) id r lnum)
      (ap (λ (k : ℕ). leb_bytes s k (finite.get p.winners (id, lnum)) image) (sym size)
      ∙ ap (λ (o : Option ℕ). leb_bytes s n o image) (sym is) ∙ read)
      (by_place (finite.get p.winners (id, lnum)) (places.winners (id, lnum)))
    where
      by_place : (o : Option ℕ)
          → MatchOption o (NoMember s (blocks_of s image) (id, lnum)) (Wins s (blocks_of s image) (id, lnum))
          → LebReads s (blocks_of s image) id r lnum (leb_bytes s (usable s r) o image)
      by_place None none = inr (none, refl)
      by_place (Some q) wins = inl (q, wins, refl)

  module _ (id : ℕ) (r : VolumeRecord) (recorded : finite.get p.records.of id ≡ Some r) where
    pub in_table : finite.get table.of id ≡ Some r
    in_table = ap (λ (x : Records). finite.get x.of id) same_records ∙ recorded

    -- what the volume reads
    pub reads_of : (v : Volume) → finite.get places.meaning.volumes id ≡ Some v
        → (v.entry ≡ r) × VolumeReads s (blocks_of s image) id r v.content
    reads_of v at = subst (SlotMeans s (blocks_of s image) id (Some r)) at
        (subst (λ (o : Option VolumeRecord). SlotMeans s (blocks_of s image) id o
        (finite.get places.meaning.volumes id)) in_table (places.accepted.accepted.means.slots id))

    -- the meaning has the volume
    pub has_volume : (v : Volume) × (finite.get places.meaning.volumes id ≡ Some v)
    has_volume = by_volume (finite.get places.meaning.volumes id) refl
        (subst (λ (o : Option VolumeRecord). SlotMeans s (blocks_of s image) id o
        (finite.get places.meaning.volumes id)) in_table (places.accepted.accepted.means.slots id))
      where
        by_volume : (o : Option Volume) → finite.get places.meaning.volumes id ≡ o
            → SlotMeans s (blocks_of s image) id (Some r) o
            → (v : Volume) × (finite.get places.meaning.volumes id ≡ Some v)
        by_volume None e is = absurd is
        by_volume (Some v) e is = (v, e)

    -- and its case
    pub case_is : (v : Volume) → finite.get places.meaning.volumes id ≡ Some v → (c : PlaceContent)
        → finite.get p.contents id ≡ Some c → case_of s r v.content ≡ c
    case_is v at c e =
        same_Some (case_of s r v.content) c
        (ap (λ (x : VolumeRecord). Some (case_of s x v.content)) (sym (reads_of v at).0) ∙ sym (places.contents id v at)
        ∙ e)

    pub content_is : (v : Volume) → finite.get places.meaning.volumes id ≡ Some v → (c : PlaceContent)
        → finite.get p.contents id ≡ Some c → HasCase s r c v.content
    content_is v at c e = subst (λ (x : PlaceContent). HasCase s r x v.content) (case_is v at c e)
        (own_case s r v.content)

    -- it is as a meaning keeps it
    pub content_has : (v : Volume) → finite.get places.meaning.volumes id ≡ Some v
        → ContentIs s (blocks_of s image) id r v.content
    content_has v at =
        let of = reads_of v at in
        let m = places.accepted.accepted.means in
        let volume : IsVolume s id v = subst (λ (z : Sizes). IsVolume z id v) m.sizes
        (subst (λ (o : Option Volume). IfSome o (IsVolume places.meaning.sizes id)) at (m.meaning.each id)) in
        record {
          reads = of.1;
          fits = subst (λ (x : VolumeRecord). Fits s x v.content) of.0 volume.fits;
          kept = subst (λ (x : VolumeRecord). KeepsNoBlank s x v.content) of.0 volume.kept;
        }
