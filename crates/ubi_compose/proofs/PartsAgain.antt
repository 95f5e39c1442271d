-- The volumes of an accepted image can be built again.
use Rattle.ubi_compose.proofs.Prelude.{◌≡◌, ℕ, suc, ◌+◌, ◌*◌, ◌<◌, ◌≤◌, false, List, [], ◌∷◌, get_or, length, map, refl, ap, sym, ◌∙◌, subst, arith, Contains, Err, None, Ok, Option, Some, IfSome, fold, slice_get, sum_by, sum_by-cons, get_or_from_slice_get, slice_get-map, slice_get-get_or, slice_get_within, option_map, option_map_or, nat_cmp_total, IsGeometry, Sizes, slots, rec_fault, usable, usable_some, VolumeRecord, IsItem, NoCause, Content, Fits, IsMeaning, IsVolume, Meant, records_of, Volume, pieces_few, volume_read, records_are, records_fit, volume_is, meant_by, record_of, same_Some, HaveMeaning, Parts, Reaches, item_of, items_of, most_blocks, pieces_of, text_of, Part, lebs_text, ranked, rising_at, nat_cmp-IsAntisymmetric, AreRecords, Records, length-lebs, AreItsParts, AreVolumesOf, PartsBuildAgain, mul-le, Less, content_fits, text_size}
use Rattle.std.specs.FinMap as finite
use Rattle.ubi_scan.proofs.Finite.{place_of}
use Rattle.ubi_volume.proofs.Gathered.{listed_at as entry_at_place}
use Rattle.ubi_media.specs.declared.vid.VolKind.TheVariants as kind
use Rattle.ubi_volume.specs.declared.content.Content.TheVariants as content
use Rattle.ubi_volume.specs.declared.errors.MeaningCause.TheVariants as cause
use Rattle.ubi_volume.specs.declared.errors.ReadError.TheVariants as error
use Rattle.ubi_compose.proofs.BuiltAgain.{again}
use Rattle.ubi_compose.proofs.ListedParts.{item_from, listed_at, reached}

-- what a volume reads has room in what it reserves, and its record has no marker
module _ (s : Sizes) (id : ℕ) (v : Volume) (is : IsVolume s id v) (text : List ℕ) where
  sized_by : (reserved size lnum : ℕ) (o : Option (List ℕ)) → IfSome o (λ x. (lnum < reserved) × (length x ≡ size))
      → IfSome o (λ x. length x ≡ size)
  sized_by reserved size lnum None h = tt
  sized_by reserved size lnum (Some x) h = h.1

  fits_by : (c : Content) → Fits s v.entry c → volume_read s v.entry c ≡ Ok text
      → (v.entry.marker ≡ false) × (length text ≤ v.entry.reserved * usable s v.entry)
  fits_by content.Updating fits read = absurd (cc)
  fits_by content.Damaged fits read = absurd (cc)
  fits_by (content.Static t) fits read =
      let same : t ≡ text = (let e = read in cc) in
      (fits.0, subst (λ (x : List ℕ). length x ≤ v.entry.reserved * usable s v.entry) same fits.2)
  fits_by (content.Dynamic lebs) fits read =
      let size = usable s v.entry in
      let same : lebs_text size lebs v.entry.reserved ≡ text = (let e = read in cc) in
      let long = length-lebs size lebs
      (λ lnum. sized_by v.entry.reserved size lnum (finite.get lebs lnum) (fits.2 lnum)) v.entry.reserved in
      (fits.0, omega (arith, long, ap length same))

  pub read_fits : volume_read s v.entry v.content ≡ Ok text
      → (v.entry.marker ≡ false) × (length text ≤ v.entry.reserved * usable s v.entry)
  read_fits = fits_by v.content is.fits

  some_by : 1 ≤ v.entry.reserved → (c : Content) → Fits s v.entry c → volume_read s v.entry c ≡ Ok text
      → v.entry.kind ≡ kind.Dynamic → 1 ≤ length text
  some_by one content.Updating fits read dynamic = absurd (cc)
  some_by one content.Damaged fits read dynamic = absurd (cc)
  some_by one (content.Static t) fits read dynamic = let static = fits.1 in absurd (cc)
  some_by one (content.Dynamic lebs) fits read dynamic =
      let size = usable s v.entry in
      let same : lebs_text size lebs v.entry.reserved ≡ text = (let e = read in cc) in
      let long = length-lebs size lebs
      (λ lnum. sized_by v.entry.reserved size lnum (finite.get lebs lnum) (fits.2 lnum)) v.entry.reserved in
      let room = mul-le 1 1 v.entry.reserved size one (usable_some s v.entry is.sound) in
      omega (arith, long, ap length same, room)

  -- a dynamic volume reads some bytes
  pub read_some : 1 ≤ v.entry.reserved → volume_read s v.entry v.content ≡ Ok text → v.entry.kind ≡ kind.Dynamic → 1 ≤ length text
  read_some one = some_by one v.content is.fits

abbrev listing : Part → ℕ × VolumeRecord
listing p = (p.id, p.entry)

module _ (m : Meant) (is : IsMeaning m) (g : IsGeometry m.sizes) (ps : Parts) (bytes : List ℕ) (are : AreItsParts m ps bytes) where
  abbrev t : Records
  t = records_of m

  abbrev es : List (ℕ × VolumeRecord)
  es = finite.entries (records_of m).of

  table : AreRecords (records_of m)
  table = records_are m is

  at_place : (i : ℕ) (p : Part) → slice_get ps.of i ≡ Some p → slice_get es i ≡ Some (listing p)
  at_place i p at =
      ap (λ xs. slice_get xs i) (sym are.listed) ∙ slice_get-map listing ps.of i ∙ ap (option_map listing) at

  is_there : (i : ℕ) (p : Part) → slice_get ps.of i ≡ Some p → get_or es i (listing p) ≡ listing p
  is_there i p at = get_or_from_slice_get es i (listing p) (listing p) (at_place i p at)

  inside : (i : ℕ) (p : Part) → slice_get ps.of i ≡ Some p → i < length es
  inside i p at = slice_get_within es i (listing p) (at_place i p at)

  recorded : (i : ℕ) (p : Part) → slice_get ps.of i ≡ Some p → finite.get t.of p.id ≡ Some p.entry
  recorded i p at =
      subst (λ (e : ℕ × VolumeRecord). finite.get t.of e.0 ≡ Some e.1) (is_there i p at)
      (entry_at_place t i (listing p) (inside i p at))

  -- the numbers rise
  rise : (i j : ℕ) (p q : Part) → slice_get ps.of i ≡ Some p → slice_get ps.of j ≡ Some q → j < i → q.id < p.id
  rise i j p q at other below =
      let less = rising_at nat_cmp_total es j i (listing p) (finite.entries_sorted t.of) below (inside i p at) in
      let first = get_or_from_slice_get es j (listing q) (listing p) (at_place j q other) in
      let second = is_there i p at in
      let numbers = ranked (get_or es j (listing p)).0 (get_or es i (listing p)).0 Less (sym less) in
      omega (arith, numbers, ap (λ (e : ℕ × VolumeRecord). e.0) first, ap (λ (e : ℕ × VolumeRecord). e.0) second)

  sound : (i : ℕ) (p : Part) → slice_get ps.of i ≡ Some p → rec_fault ps.sizes p.entry ≡ None
  sound i p at =
      subst (λ (s : Sizes). rec_fault s p.entry ≡ None) (sym are.sizes) (table.sound p.id p.entry (recorded i p at))

  contained : (i : ℕ) (p : Part) → slice_get ps.of i ≡ Some p → Contains ps.of p
  contained i p at = (i, slice_get_within ps.of i p at, get_or_from_slice_get ps.of i p p at)

  long_as : (p : Part) (i : ℕ) → slice_get ps.of i ≡ Some p → (other : List ℕ) → Reaches (length other) ps.of
      → length (text_of other p) ≡ p.len
  long_as p i at other reach = text_size other p (reached (length other) ps.of i p reach at)

  -- what a part reads fits
  room : (i : ℕ) (p : Part) → slice_get ps.of i ≡ Some p
      → (p.entry.marker ≡ false) × (p.len ≤ p.entry.reserved * usable ps.sizes p.entry)
  room i p at =
      let of = meant_by m p.id p.entry (recorded i p at) in
      let v = of.0 in
      let read = sym (ap (λ (o : Option Volume). option_map_or (λ (v : Volume). volume_read m.sizes v.entry v.content) o (Err error.NoVolume)) of.1)
      ∙ are.read p (contained i p at) in
      let fits = read_fits m.sizes p.id v (volume_is m is p.id v of.1) (text_of bytes p) read in
      let here : (p.entry.marker ≡ false) × (length (text_of bytes p) ≤ p.entry.reserved * usable m.sizes p.entry) =
      subst (λ (r : VolumeRecord). (r.marker ≡ false) × (length (text_of bytes p) ≤ r.reserved * usable m.sizes r)) of.2 fits in
      let long = long_as p i at bytes are.reaches in (
        here.0,
        subst (λ (s : Sizes). p.len ≤ p.entry.reserved * usable s p.entry) (sym are.sizes) (omega (arith, here.1, long)),
      )

  -- the sums of what is reserved
  of_items : (other : List ℕ) (parts : List Part) (n : ℕ)
      → fold (λ k (e : ℕ × Volume). k + e.1.entry.reserved) n (items_of ps.sizes other parts)
      ≡ fold (λ k (e : ℕ × VolumeRecord). k + e.1.reserved) n (map listing parts)
  of_items other [] n = refl
  of_items other (p ∷ parts) n = of_items other parts (n + p.entry.reserved)

  of_parts : (parts : List Part) (n : ℕ)
      → fold (λ k (p : Part). k + p.entry.reserved) n parts
      ≡ fold (λ k (e : ℕ × VolumeRecord). k + e.1.reserved) n (map listing parts)
  of_parts [] n = refl
  of_parts (p ∷ parts) n = of_parts parts (n + p.entry.reserved)

  of_values : (xs : List (ℕ × VolumeRecord)) (n : ℕ)
      → fold (λ k (r : VolumeRecord). k + r.reserved) n (map (λ (e : ℕ × VolumeRecord). e.1) xs)
      ≡ fold (λ k (e : ℕ × VolumeRecord). k + e.1.reserved) n xs
  of_values [] n = refl
  of_values (e ∷ xs) n = of_values xs (n + e.1.reserved)

  abbrev all : ℕ
  all = fold (λ k (e : ℕ × VolumeRecord). k + e.1.reserved) 0 es

  device : 2 + all ≤ ps.sizes.pebs
  device =
      let fit = records_fit m is in
      subst (λ (s : Sizes). 2 + all ≤ s.pebs) (sym are.sizes) (omega (arith, fit, of_values es 0))

  items_sum : (other : List ℕ) → sum_by (λ (e : ℕ × Volume). e.1.entry.reserved) (items_of ps.sizes other ps.of) ≡ all
  items_sum other = of_items other ps.of 0 ∙ ap (fold (λ k (e : ℕ × VolumeRecord). k + e.1.reserved) 0) are.listed

  parts_sum : sum_by (λ (p : Part). p.entry.reserved) ps.of ≡ all
  parts_sum = of_parts ps.of 0 ∙ ap (fold (λ k (e : ℕ × VolumeRecord). k + e.1.reserved) 0) are.listed

  module _ (other : List ℕ) (reach : Reaches (length other) ps.of) where
    from : (i : ℕ) (e : ℕ × Volume) → IsItem (items_of ps.sizes other ps.of) i e
        → (p : Part) × (slice_get ps.of i ≡ Some p) × (item_of ps.sizes other p ≡ e)
    from i e at = item_from (item_of ps.sizes other) ps.of i e at

    none : NoCause ps.sizes (items_of ps.sizes other ps.of)
    none (cause.IdRange i) (e, at, past) =
        let p = from i e at in
        let below = table.slot p.0.id p.0.entry (recorded i p.0 p.1) in
        let far : slots m.sizes ≤ e.0 = subst (λ (s : Sizes). slots s ≤ e.0) are.sizes past in
        omega (arith, below, far, ap (λ (e : ℕ × Volume). e.0) p.2)
    none (cause.SameId i) (j, e, d, at, before, below, same) =
        let p = from i e at in
        let q = from j d before in
        let less = rise i j p.0 q.0 p.1 q.1 below in
        omega (arith, less, same, ap (λ (e : ℕ × Volume). e.0) p.2, ap (λ (e : ℕ × Volume). e.0) q.2)
    none (cause.Record i f) (e, at, broken) =
        let p = from i e at in
        let wrong = sym (ap (λ (e : ℕ × Volume). rec_fault ps.sizes e.1.entry) p.2 ∙ broken) ∙ sound i p.0 p.1 in
        absurd (cc)
    none (cause.SameName i j) (e, d, at, before, below, same) =
        let p = from i e at in
        let q = from j d before in
        let less = rise i j p.0 q.0 p.1 q.1 below in
        let names : q.0.entry.name ≡ p.0.entry.name = ap (λ (e : ℕ × Volume). e.1.entry.name) q.2 ∙ same
        ∙ sym (ap (λ (e : ℕ × Volume). e.1.entry.name) p.2) in
        let one = table.apart q.0.id p.0.id q.0.entry p.0.entry (recorded j q.0 q.1) (recorded i p.0 p.1) names in
        omega (arith, less, one)
    none cause.NoSpace small = omega (arith, small, items_sum other, device)
    none (cause.ContentRange i) (e, at, misfits) =
        let p = from i e at in
        let r = p.0.entry in
        let fits = room i p.0 p.1 in
        let long = long_as p.0 i p.1 other reach in
        misfits
        (subst (λ (e : ℕ × Volume). Fits ps.sizes e.1.entry e.1.content) p.2
        (content_fits ps.sizes r (usable_some ps.sizes r (sound i p.0 p.1)) (text_of other p.0) r.kind refl fits.0
        (omega (arith, fits.1, long))))

  has_meaning : HaveMeaning ps
  has_meaning = record {
    sizes = subst IsGeometry (sym are.sizes) g;
    image_seq = (let seq = is.image_seq in omega (arith, seq, are.image_seq));
    none = none;
  }

  few : (parts : List Part) → ((p : Part) → Contains parts p → pieces_of ps.sizes p ≤ p.entry.reserved)
      → sum_by (pieces_of ps.sizes) parts ≤ sum_by (λ (p : Part). p.entry.reserved) parts
  few [] h = omega arith
  few (p ∷ parts) h =
      let one = h p (0, omega arith, refl) in
      let rest = few parts (λ q at. h q (suc at.0, (let b = at.1 in omega arith), at.2)) in
      omega (arith, one, rest, sum_by-cons (pieces_of ps.sizes) p parts, sum_by-cons (λ (p : Part). p.entry.reserved) p parts)

  enough_room : most_blocks ps ≤ ps.sizes.pebs
  enough_room =
      let pieces = few ps.of
      (λ p listed. let at = listed_at ps.of p listed in
      pieces_few (usable ps.sizes p.entry) (usable_some ps.sizes p.entry (sound at.0 p at.1)) p.len p.entry.reserved
      (room at.0 p at.1).1) in
      omega (arith, pieces, parts_sum, device)

  -- each volume has a part
  has_part : (id : ℕ) (v : Volume) → finite.get m.volumes id ≡ Some v → (p : Part) × Contains ps.of p × (p.id ≡ id)
  has_part id v e =
      let there : finite.get t.of id ≡ Some v.entry = record_of m id ∙ ap (option_map (λ (v : Volume). v.entry)) e in
      let place = place_of nat_cmp_total nat_cmp-IsAntisymmetric id v.entry (id, v.entry) es (sym (finite.get-entries t.of id) ∙ there) in
      let at : slice_get (map listing ps.of) place.0 ≡ Some (id, v.entry) =
      ap (λ xs. slice_get xs place.0) are.listed ∙ slice_get-get_or es place.0 (id, v.entry) place.1
      ∙ ap (λ (e : ℕ × VolumeRecord). Some e) place.2 in
      by_part place.0 (slice_get ps.of place.0) refl at
    where
      by_part : (i : ℕ) (o : Option Part) → slice_get ps.of i ≡ o → slice_get (map listing ps.of) i ≡ Some (id, v.entry)
          → (p : Part) × Contains ps.of p × (p.id ≡ id)
      by_part i None lacks at = absurd (let wrong = sym (slice_get-map listing ps.of i ∙ ap (option_map listing) lacks) ∙ at in cc)
      by_part i (Some p) some at =
          let same = same_Some (listing p) (id, v.entry) (sym (slice_get-map listing ps.of i ∙ ap (option_map listing) some) ∙ at) in
          (p, contained i p some, ap (λ (e : ℕ × VolumeRecord). e.0) same)

  are_volumes : AreVolumesOf m ps bytes
  are_volumes = record {
    sizes = are.sizes;
    image_seq = are.image_seq;
    each = has_part;
    read = λ p listed.
        (let at = listed_at ps.of p listed in
        let of = meant_by m p.id p.entry (recorded at.0 p at.1) in
        (of.0, of.1, sym of.2, are.read p listed));
  }

pub parts_build_again : PartsBuildAgain
parts_build_again image m ps bytes g accepts are =
    let is = accepts.accepted.means.meaning in (
      has_meaning m is g ps bytes are,
      enough_room m is g ps bytes are,
      again m is ps bytes (are_volumes m is g ps bytes are),
    )
