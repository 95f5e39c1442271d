-- The pieces of a volume of an image whose places are known: which is the next, and where it lies.
use Rattle.ubi_compose.proofs.Prelude.{◌≡◌, ◌⊎◌, inl, inr, ℕ, ◌*◌, ◌/◌, ◌<◌, ◌≤◌, ◌^◌, refl, ap, sym, ◌∙◌, subst, arith, IfSome, None, Option, Some, option_map, option_map_or, same_Some, leb_size, Sizes, VolumeRecord, IsWithin, IsCountedPlace, IsNextPlace, Placed, PlaceContent, AreWithin, Piece, Origin, IsFirstFrom, IsNext, IsReadOf, IsReadable, LiesIn, dynamic_piece, static_piece, stored_count, stored_piece, stored_pieces}
use Rattle.std.specs.FinMap as finite
use Rattle.ubi_media.specs.declared.vid.VolKind.TheVariants as kind
use Rattle.ubi_volume.specs.declared.places.PlaceContent.TheVariants as place
use Rattle.ubi_laid.specs.declared.pieces.Origin.TheVariants as origin

module _ (p : Placed) (id : ℕ) (r : VolumeRecord) (recorded : finite.get p.records.of id ≡ Some r) (c : PlaceContent)
    (listed : finite.get p.contents id ≡ Some c) where
  at_is : (n : ℕ) → (stored_pieces p).at id n ≡ stored_piece p id n r c
  at_is n = ap (λ o. option_map_or (λ r. option_map_or (stored_piece p id n r) (finite.get p.contents id) None) o None)
      recorded ∙ ap (λ o. option_map_or (stored_piece p id n r) o None) listed

  count_is : (stored_pieces p).count id ≡ stored_count r c
  count_is = ap (λ o. option_map_or (λ r. option_map_or (stored_count r) (finite.get p.contents id) 0) o 0) recorded
      ∙ ap (λ o. option_map_or (stored_count r) o 0) listed

  pub first_stored : (n : ℕ) (q : Piece) → stored_count r c ≤ 2 ^ 31 → n ≤ q.header.lnum
      → q.header.lnum < stored_count r c → stored_piece p id q.header.lnum r c ≡ Some q
      → ((i : ℕ) → n ≤ i → i < q.header.lnum → stored_piece p id i r c ≡ None) → IsFirstFrom (stored_pieces p) id n q
  first_stored n q few low inside there none = record {
    low = low;
    inside = omega (arith, inside, count_is);
    few = omega (arith, few, count_is);
    there = at_is q.header.lnum ∙ there;
    none = λ i a b. at_is i ∙ none i a b;
  }

  pub none_stored : (n : ℕ) → ((i : ℕ) → n ≤ i → i < stored_count r c → stored_piece p id i r c ≡ None)
      → IsNext (stored_pieces p) id n None
  none_stored n none = λ i low high. at_is i ∙ none i low (omega (arith, high, count_is))

-- a place that counts for a dynamic volume is below what it reserves
counted_below : (p : Placed) (id : ℕ) (r : VolumeRecord) → finite.get p.records.of id ≡ Some r
    → r.kind ≡ kind.Dynamic → (l q : ℕ) → IsCountedPlace p id l q → l < r.reserved
counted_below p id r recorded dynamic l q is =
    let same : r ≡ is.0 = same_Some r is.0 (sym recorded ∙ is.1) in
    subst (λ (x : VolumeRecord). IsWithin x l) (sym same) is.2 dynamic

-- where no place counts, it has no piece
module _ (p : Placed) (id : ℕ) (r : VolumeRecord) (recorded : finite.get p.records.of id ≡ Some r)
    (listed : finite.get p.contents id ≡ Some place.Dynamic) (dynamic : r.kind ≡ kind.Dynamic)
    (few : r.reserved ≤ 2 ^ 31) (n : ℕ) where
  none_at : (i : ℕ) → i < r.reserved → ((q : ℕ) → IsCountedPlace p id i q → ⊥) → stored_piece p id i r place.Dynamic ≡ None
  none_at i below none = by (finite.get p.winners (id, i)) refl
    where
      by : (o : Option ℕ) → finite.get p.winners (id, i) ≡ o → stored_piece p id i r place.Dynamic ≡ None
      by None e = ap (option_map (dynamic_piece p.records.sizes id r i)) e
      by (Some q) e = absurd (none q (r, recorded, λ d. below, e))

  pub none_dynamic : IsNextPlace p id n None → IsNext (stored_pieces p) id n None
  none_dynamic next = none_stored p id r recorded place.Dynamic listed n
      (λ i low high. none_at i high (λ q is. next i q low is))

  pub first_dynamic : (l q : ℕ) → IsNextPlace p id n (Some (l, q))
      → IsFirstFrom (stored_pieces p) id n (dynamic_piece p.records.sizes id r l q)
  first_dynamic l q next =
      let below = counted_below p id r recorded dynamic l q next.1 in
      first_stored p id r recorded place.Dynamic listed n (dynamic_piece p.records.sizes id r l q) few next.0 below
      (ap (option_map (dynamic_piece p.records.sizes id r l)) next.1.3)
      (λ i low high. none_at i (omega (arith, high, below)) (λ k is. next.2 i k low high is))

-- a piece is that of a damaged volume, or its bytes stand at the winner of its LEB
module _ (p : Placed) (id lnum : ℕ) (q : Piece) where
  abbrev pub StandsWell : Type 0
  StandsWell = ((q.origin ≡ origin.Nowhere) × (q.len ≡ 0))
      ⊎ ((b : ℕ) × (finite.get p.winners (id, lnum) ≡ Some b) × (q.origin ≡ origin.Block b) × (q.len ≤ leb_size p.records.sizes))

  of_winner : (f : ℕ → Piece)
      → ((b : ℕ) → ((f b).origin ≡ origin.Block b) × ((f b).len ≤ leb_size p.records.sizes)) → (o : Option ℕ)
      → finite.get p.winners (id, lnum) ≡ o → option_map f (finite.get p.winners (id, lnum)) ≡ Some q → StandsWell
  of_winner f is None e k = absurd (let g = sym (ap (option_map f) e) ∙ k in cc)
  of_winner f is (Some b) e k =
      let same : f b ≡ q = same_Some (f b) q (sym (ap (option_map f) e) ∙ k) in
      inr (subst (λ (x : Piece). (b : ℕ) × (finite.get p.winners (id, lnum) ≡ Some b) × (x.origin ≡ origin.Block b)
      × (x.len ≤ leb_size p.records.sizes)) same (b, e, (is b).0, (is b).1))

  by_content : (r : VolumeRecord) (c : PlaceContent) → stored_piece p id lnum r c ≡ Some q → StandsWell
  by_content r place.Updating e = absurd (cc)
  by_content r place.Damaged e = subst (λ (x : Piece). ((x.origin ≡ origin.Nowhere) × (x.len ≡ 0))
      ⊎ ((b : ℕ) × (finite.get p.winners (id, lnum) ≡ Some b) × (x.origin ≡ origin.Block b)
      × (x.len ≤ leb_size p.records.sizes))) (same_Some _ q e) (inl (refl, refl))
  by_content r (place.Static lebs bytes) e = of_winner (static_piece p.records.sizes id r lebs bytes lnum)
      (λ b. (refl, omega arith)) (finite.get p.winners (id, lnum)) refl e
  by_content r place.Dynamic e = of_winner (dynamic_piece p.records.sizes id r lnum) (λ b. (refl, omega arith))
      (finite.get p.winners (id, lnum)) refl e

  by_case : (r : VolumeRecord) (c : Option PlaceContent) → option_map_or (stored_piece p id lnum r) c None ≡ Some q
      → StandsWell
  by_case r None e = absurd (cc)
  by_case r (Some c) e = by_content r c e

  by_record : (r : Option VolumeRecord) → option_map_or (λ r. option_map_or (stored_piece p id lnum r)
      (finite.get p.contents id) None) r None ≡ Some q → StandsWell
  by_record None e = absurd (cc)
  by_record (Some r) e = by_case r (finite.get p.contents id) e

  pub stands : (stored_pieces p).at id lnum ≡ Some q → StandsWell
  stands e = by_record (finite.get p.records.of id) e

  -- so it lies in a source that has the winners
  pub stored_lies : (stored_pieces p).at id lnum ≡ Some q → (size : ℕ)
      → AreWithin (size / p.records.sizes.peb_size) p → LiesIn p.records.sizes size q
  stored_lies e size within = elim (stands e) [
    | inl none ↦ record {
      fits = (let len = none.1 in omega (arith, len));
      within = subst (λ (o : Origin). IsReadable p.records.sizes size o q.len) (sym none.0) none.1;
    }
    | inr b ↦ record {
      fits = b.3;
      within = subst (λ (o : Origin). IsReadable p.records.sizes size o q.len) (sym b.2)
          (subst (λ (o : Option ℕ). IfSome o (λ at. at < size / p.records.sizes.peb_size)) b.1
          (within.winners (id, lnum)));
    }
  ]

  -- and a read of it that failed was one of its winner
  pub read_place : (stored_pieces p).at id lnum ≡ Some q → (z : Sizes) (at number : ℕ)
      → IsReadOf z q.origin q.header at number
      → (finite.get p.winners (id, lnum) ≡ Some number) × (at ≡ number * z.peb_size)
  read_place e z at number read = elim (stands e) [
    | inl none ↦ absurd (subst (λ (o : Origin). IsReadOf z o q.header at number) none.0 read)
    | inr b ↦ (let is = subst (λ (o : Origin). IsReadOf z o q.header at number) b.2 read in
        (b.1 ∙ ap Some (sym is.0), is.1 ∙ ap (λ n. n * z.peb_size) (sym is.0)))
  ]
