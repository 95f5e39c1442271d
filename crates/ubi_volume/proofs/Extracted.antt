-- What is extracted from a volume by the places of its LEBs.
use Rattle.ubi_volume.proofs.Prelude.{◌≡◌, ℕ, zero, suc, ◌+◌, ◌-◌, ◌*◌, ◌<◌, ◌≤◌, inl, inr, false, List, ◌++◌, length, take, refl, ap, sym, ◌∙◌, subst, arith, zero-add, Err, None, Ok, Option, Result, Some, MatchOption, flat_map, slice_index, unwrap_or, FinMap, range_with_len, option_map_or, nat_cmp, result_map_both, flat_map-append, mul-le, IfSome_then, blank, Sizes, rec_fault, usable, VolumeRecord, usable_some, Image, block, image_of, leb, NoMember, Wins, Agreed, Source, blocks_of, StreamError, Wins-unique, Records, table_records, pieces_more, extent_in, extent_len, extent_of, leb_bytes, read_text, share_len, leb_at, lebs_at, lebs_bytes, SlotMeans, HoldContents, LebReads, StaticReads, VolumeReads, piece, Fits, pieces, share, ArePlaces, Placed, case_of, leb_text, lebs_text, volume_len, volume_read, All, IsWroteError, Wrote, Content, Volume, ReadError, Extent, PlaceContent}
use Rattle.std.specs.FinMap as finite
use Rattle.ubi_media.specs.declared.vid.VolKind.TheVariants as kind
use Rattle.ubi_volume.specs.declared.content.Content.TheVariants as content
use Rattle.ubi_volume.specs.declared.errors.ReadError.TheVariants as error
use Rattle.ubi_volume.specs.declared.places.PlaceContent.TheVariants as place
use Rattle.ubi_volume.proofs.Alike.{short_piece}
use Rattle.ubi_volume.proofs.AcceptedOrRefused.{are_lebs}
use Rattle.ubi_volume.proofs.LebsText.{length-lebs, range_append}
use Rattle.ubi_volume.proofs.Pieces.{length-share, most_pieces, pieces_few, share_more, share_none, shares_all}
use Rattle.ubi_volume.proofs.Received.{Splits, error_behind, error_front, wrote_more}
use Rattle.ubi_volume.proofs.Shares.{share_at, share_piece}
use Rattle.ubi_volume.proofs.VolumeAt.{case_is, content_has, content_is, in_table, reads_of, same_records, table}

-- the first n of n + k
pub front_of : (f : ℕ → List ℕ) (a n k : ℕ) → flat_map f (range_with_len a (n + k)) ≡ flat_map f (range_with_len a n)
    ++ flat_map f (range_with_len (a + n) k)
front_of f a n k = ap (flat_map f) (range_append a n k)
    ∙ flat_map-append f (range_with_len a n) (range_with_len (a + n) k)

-- what is the same at each number
pub same_range : (f g : ℕ → List ℕ) (a n : ℕ) → ((i : ℕ) → a ≤ i → i < a + n → f i ≡ g i)
    → flat_map f (range_with_len a n) ≡ flat_map g (range_with_len a n)
same_range f g a zero h = refl
same_range f g a (suc n) h =
    ap (λ x. x ++ flat_map f (range_with_len (a + 1) n)) (h a (omega arith) (omega arith))
    ∙ ap (λ x. g a ++ x) (same_range f g (a + 1) n (λ i low high. h i (omega arith) (omega arith)))

module _ (s : Sizes) (p : Placed) (id size bytes : ℕ) where
  leb_of : List ℕ → ℕ → List ℕ
  leb_of image lnum = leb_bytes s (share_len size bytes lnum) (finite.get p.winners (id, lnum)) image

  -- the first LEBs
  pub lebs_front : (n m : ℕ) → n ≤ m → Splits (lebs_at s p id size bytes m) (lebs_at s p id size bytes n)
      (λ image text. Unit {0})
  unfolding leb_of
  lebs_front n m few image text w =
      let total : n + (m - n) ≡ m = omega arith in (
        lebs_bytes s p id size bytes image n,
        flat_map (leb_of image) (range_with_len (0 + n) (m - n)),
        w
            ∙ ap (λ k. flat_map (leb_of image) (range_with_len 0 k)) (sym total)
            ∙ front_of (leb_of image) 0 n (m - n),
        refl,
        tt,
      )

  -- one LEB more
  module _ (n m : ℕ) (at : Option ℕ) (long : m ≡ share_len size bytes n) (is : at ≡ finite.get p.winners (id, n)) where
    lebs_step : Splits (lebs_at s p id size bytes (n + 1)) (lebs_at s p id size bytes n) (leb_at s m at)
    unfolding leb_of
    lebs_step image text w = (
      lebs_bytes s p id size bytes image n,
      leb_of image n,
      w ∙ pieces_more (leb_of image) 0 n n (zero-add n),
      refl,
      ap (λ (k : ℕ). leb_bytes s k (finite.get p.winners (id, n)) image) (sym long)
          ∙ ap (λ (o : Option ℕ). leb_bytes s m o image) (sym is),
    )

    module _ (k : Source) (agrees : Agreed) (a b c : Option (List ℕ)) (done : ℕ)
        (front : Wrote agrees a b (lebs_at s p id size bytes n) All 0 done) where
      pub lebs_wrote : (more : ℕ) → Wrote agrees b c (leb_at s m at) All done more
          → Wrote agrees a c (lebs_at s p id size bytes (n + 1)) All 0 more
      lebs_wrote more back = wrote_more k agrees a b c (lebs_at s p id size bytes (n + 1)) (lebs_at s p id size bytes n)
          (leb_at s m at) 0 done more lebs_step front back

      pub lebs_failed : (l : ℕ) (e : StreamError) → n < l → IsWroteError s k agrees b c (leb_at s m at) done e
          → IsWroteError s k agrees a c (lebs_at s p id size bytes l) 0 e
      lebs_failed l e below back =
          error_front k agrees s a c (lebs_at s p id size bytes l) (lebs_at s p id size bytes (n + 1))
          (λ image text. Unit {0}) 0 e (lebs_front (n + 1) l (omega arith))
          (error_behind k agrees s a b c (lebs_at s p id size bytes (n + 1)) (lebs_at s p id size bytes n) (leb_at s m at) 0
          done e lebs_step front back)

module _ (s : Sizes) (p : Placed) (image : List ℕ) (places : ArePlaces (image_of s image) p) (id : ℕ) (r : VolumeRecord)
    (recorded : finite.get p.records.of id ≡ Some r) (v : Volume)
    (at : finite.get places.meaning.volumes id ≡ Some v) where
  abbrev bs : List (List ℕ)
  bs = blocks_of s image

  abbrev size : ℕ
  size = usable s r

  recorded_sound : rec_fault s r ≡ None
  recorded_sound =
      let table = places.accepted.accepted.table in
      let records = table_records s bs _ table in
      subst (λ (z : Sizes). rec_fault z r ≡ None) records.0
      (records.1.sound id r (in_table s p image places id r recorded))

  entry : v.entry ≡ r
  entry = (reads_of s p image places id r recorded v at).0

  module _ (lebs bytes : ℕ) (t : List ℕ) (is : v.content ≡ content.Static t) (count : pieces size (length t) ≡ lebs)
      (long : length t ≡ bytes) where
    static_reads : (r.marker ≡ false) × (r.kind ≡ kind.Static) × StaticReads s bs id r t
    static_reads = subst (VolumeReads s bs id r) is (reads_of s p image places id r recorded v at).1

    module _ (n : ℕ) (inside : n < lebs) where
      pub static_whole : (ps : List ℕ) × HoldContents s bs id r ps × (t ≡ flat_map (piece s bs) ps) × (n < length ps)
      static_whole = elim static_reads.2 [
        | inl none ↦
            let few = pieces_few size (usable_some s r recorded_sound) (length t) 0 (omega (arith, ap length none.1)) in
            absurd (omega (arith, few, count, inside))
        | inr w ↦
            let short = short_piece s bs (table s p image places) places.accepted.accepted.alike id r
            (in_table s p image places id r recorded) static_reads.0 static_reads.1 in
            let most = most_pieces (piece s bs) size w.0 (λ i b. short i (slice_index w.0 i) (w.1.win i b)) in
            let few = pieces_few size (usable_some s r recorded_sound) (length t) (length w.0)
            (omega (arith, ap length w.2, most)) in
            (w.0, w.1, w.2, omega (arith, few, count, inside))
      ]

      pub piece_is : leb_bytes s (share_len size bytes n) (finite.get p.winners (id, n)) image ≡ share size t n
      piece_is = by_place (finite.get p.winners (id, n)) (places.winners (id, n))
        where
          share_is : (q : ℕ) → Wins s bs (id, n) q → share size t n ≡ take (share_len size bytes n) (leb s (block bs q))
          share_is q won =
              let here =
              share_at s bs places.accepted.accepted.clean (are_lebs (image_of s image))
              (table s p image places) places.accepted.accepted.alike id r (in_table s p image places id r recorded)
              static_reads.0 static_reads.1 static_whole.0 static_whole.1 n q static_whole.3 won in
              let there : share size t n ≡ take (length (share size t n)) (leb s (block bs q)) =
              subst (λ (x : List ℕ). share size x n ≡ take (length (share size x n)) (leb s (block bs q)))
              (sym static_whole.2) here in
              let some : length (share size t n) ≡ share_len size bytes n =
              length-share size (usable_some s r recorded_sound) t n ∙ ap (λ k. share_len size k n) long in
              there ∙ ap (λ k. take k (leb s (block bs q))) some

          by_place : (o : Option ℕ) → MatchOption o (NoMember s bs (id, n)) (Wins s bs (id, n))
              → leb_bytes s (share_len size bytes n) o image ≡ share size t n
          by_place None none = absurd (none _ (static_whole.1.win n static_whole.3).member)
          by_place (Some q) won = sym (share_is q won)

      -- and the share is the piece of the winner
      pub piece_share : (q : ℕ) → Wins s bs (id, n) q → share size t n ≡ piece s bs q
      piece_share q won =
          subst (λ (x : List ℕ). share size x n ≡ piece s bs q) (sym static_whole.2)
          (share_piece s bs places.accepted.accepted.clean (are_lebs (image_of s image)) (table s p image places)
          places.accepted.accepted.alike id r (in_table s p image places id r recorded) static_reads.0 static_reads.1
          static_whole.0 static_whole.1 n q static_whole.3 won)

    static_so_far : (n : ℕ) → n ≤ lebs → lebs_bytes s p id size bytes image n ≡ take (n * size) t
    static_so_far zero few = sym (share_none size t)
    static_so_far (suc n) few =
        let f : ℕ → List ℕ = λ lnum. leb_bytes s (share_len size bytes lnum) (finite.get p.winners (id, lnum)) image in
        let next : suc n ≡ n + 1 = omega arith in
        ap (λ k. flat_map f (range_with_len 0 k)) next ∙ pieces_more f 0 n n (zero-add n)
        ∙ ap (λ x. x ++ f n) (static_so_far n (omega arith))
        ∙ ap (λ x. take (n * size) t ++ x) (piece_is n (omega arith))
        ∙ share_more size t n ∙ ap (λ k. take (k * size) t) (sym next)

    pub static_is : lebs_bytes s p id size bytes image lebs ≡ t
    static_is = static_so_far lebs (omega arith) ∙ ap (λ k. take (k * size) t) (sym count)
        ∙ shares_all size (usable_some s r recorded_sound) t

  module _ (l : FinMap nat_cmp (List ℕ)) (is : v.content ≡ content.Dynamic l) where
    dynamic_reads : (r.marker ≡ false) × (r.kind ≡ kind.Dynamic)
        × ((lnum : ℕ) → lnum < r.reserved → LebReads s bs id r lnum (unwrap_or (finite.get l lnum) (blank size)))
    dynamic_reads = subst (VolumeReads s bs id r) is (reads_of s p image places id r recorded v at).1

    pub leb_is : (n : ℕ) → n < r.reserved
        → leb_bytes s (share_len size (r.reserved * size) n) (finite.get p.winners (id, n)) image
        ≡ leb_text size (finite.get l n)
    leb_is n inside =
        let room : (n + 1) * size ≤ r.reserved * size = mul-le (n + 1) size r.reserved size (omega arith)
        (omega arith) in
        let next : (n + 1) * size ≡ n * size + size = omega arith in
        let full : share_len size (r.reserved * size) n ≡ size = omega (arith, room, next) in
        ap (λ k. leb_bytes s k (finite.get p.winners (id, n)) image) full
        ∙ by_place (finite.get p.winners (id, n)) (places.winners (id, n))
      where
        by_place : (o : Option ℕ) → MatchOption o (NoMember s bs (id, n)) (Wins s bs (id, n))
            → leb_bytes s size o image ≡ leb_text size (finite.get l n)
        by_place None none = elim (dynamic_reads.2 n inside) [
          | inl w ↦ absurd (none w.0 w.1.member)
          | inr w ↦ sym w.1
        ]
        by_place (Some q) won = elim (dynamic_reads.2 n inside) [
          | inl w ↦ ap (λ (k : ℕ). take size (leb s (block bs k)))
              (Wins-unique s bs (id, n) q w.0 places.accepted.accepted.clean won w.1) ∙ sym w.2
          | inr w ↦ absurd (w.0 q won.member)
        ]

    dynamic_is : lebs_bytes s p id size (r.reserved * size) image r.reserved ≡ lebs_text size l r.reserved
    dynamic_is = same_range
        (λ lnum. leb_bytes s (share_len size (r.reserved * size) lnum) (finite.get p.winners (id, lnum)) image)
        (λ lnum. leb_text size (finite.get l lnum)) 0 r.reserved
        (λ i low high. leb_is i (omega arith))

  -- what the volume reads, by its case
  module _ (text : List ℕ) where
    -- under its own record
    read_is : volume_read places.meaning.sizes v.entry v.content ≡ Ok text → volume_read s r v.content ≡ Ok text
    read_is h = ap (λ (x : VolumeRecord). volume_read s x v.content) (sym entry)
        ∙ ap (λ (z : Sizes). volume_read z v.entry v.content) (sym places.accepted.accepted.means.sizes) ∙ h

    pub static_at : (lebs bytes : ℕ) → finite.get p.contents id ≡ Some (place.Static lebs bytes)
        → volume_read places.meaning.sizes v.entry v.content ≡ Ok text
        → text ≡ lebs_bytes s p id size bytes image lebs
    static_at lebs bytes listed h =
        let t = content_is s p image places id r recorded v at (place.Static lebs bytes) listed in
        let same : t.0 ≡ text = (let e = sym (ap (volume_read s r) t.1) ∙ read_is h in cc) in
        sym (static_is lebs bytes t.0 t.1 t.2 t.3 ∙ same)

    pub dynamic_at : finite.get p.contents id ≡ Some place.Dynamic
        → volume_read places.meaning.sizes v.entry v.content ≡ Ok text
        → text ≡ lebs_bytes s p id size (r.reserved * size) image r.reserved
    dynamic_at listed h =
        let l = content_is s p image places id r recorded v at place.Dynamic listed in
        let same : lebs_text size l.0 r.reserved ≡ text = (let e = sym (ap (volume_read s r) l.1) ∙ read_is h in cc) in
        sym (dynamic_is l.0 l.1 ∙ same)

-- a volume that is read is one of the meaning
read_of : (s : Sizes) (id : ℕ) (text : List ℕ) (o : Option Volume)
    → option_map_or (λ v. volume_read s v.entry v.content) o (Err error.NoVolume) ≡ Ok text
    → (v : Volume) × (o ≡ Some v) × (volume_read s v.entry v.content ≡ Ok text)
read_of s id text None h = absurd (cc)
read_of s id text (Some v) h = (v, refl, h)

abbrev pub read_with : Extent → Result Extent ReadError
read_with e = Ok e

pub same_Ok : (a b : Extent) → read_with a ≡ read_with b → a ≡ b
same_Ok a b e = cc

-- what the volume reads, by its extent
module _ (s : Sizes) (p : Placed) (id : ℕ) (e : Extent) (image text : List ℕ) (w : read_text s p id image text) where
  reads_at : (r : VolumeRecord) → finite.get p.records.of id ≡ Some r → (c : PlaceContent)
      → finite.get p.contents id ≡ Some c → extent_of s r c ≡ Ok e
      → (v : Volume) → finite.get w.0.meaning.volumes id ≡ Some v
      → volume_read w.0.meaning.sizes v.entry v.content ≡ Ok text → lebs_at s p id e.size e.bytes e.lebs image text
  reads_at r recorded place.Updating listed is v at reads = absurd (cc)
  reads_at r recorded place.Damaged listed is v at reads = absurd (cc)
  reads_at r recorded (place.Static lebs bytes) listed is v at reads =
      static_at s p image w.0 id r recorded v at text lebs bytes listed reads
      ∙ ap (λ (x : Extent). lebs_bytes s p id x.size x.bytes image x.lebs) (same_Ok _ e is)
  reads_at r recorded place.Dynamic listed is v at reads =
      dynamic_at s p image w.0 id r recorded v at text listed reads
      ∙ ap (λ (x : Extent). lebs_bytes s p id x.size x.bytes image x.lebs) (same_Ok _ e is)

  pub wanted : p.records.sizes ≡ s → extent_in p id ≡ Ok e → lebs_at s p id e.size e.bytes e.lebs image text
  wanted sizes is = by_record (finite.get p.records.of id) refl is
    where
      by_case : (r : VolumeRecord) → finite.get p.records.of id ≡ Some r → (c : Option PlaceContent)
          → finite.get p.contents id ≡ c → option_map_or (extent_of p.records.sizes r) c (Err error.NoVolume) ≡ Ok e
          → lebs_at s p id e.size e.bytes e.lebs image text
      by_case r recorded None listed is = absurd (cc)
      by_case r recorded (Some c) listed is =
          let of = read_of w.0.meaning.sizes id text (finite.get w.0.meaning.volumes id) w.1 in
          reads_at r recorded c listed (subst (λ (z : Sizes). extent_of z r c ≡ Ok e) sizes is) of.0 of.1 of.2

      by_record : (o : Option VolumeRecord) → finite.get p.records.of id ≡ o
          → option_map_or (λ r. option_map_or (extent_of p.records.sizes r) (finite.get p.contents id)
          (Err error.NoVolume)) o (Err error.NoVolume) ≡ Ok e → lebs_at s p id e.size e.bytes e.lebs image text
      by_record None recorded is = absurd (cc)
      by_record (Some r) recorded is = by_case r recorded (finite.get p.contents id) refl is

-- how many bytes it reads, by the case
case_len : Sizes → VolumeRecord → PlaceContent → Result ℕ ReadError
case_len s r c = extent_len (extent_of s r c)

case_len_is : (s : Sizes) (r : VolumeRecord) (c : Content) → Fits s r c
    → case_len s r (case_of s r c) ≡ result_map_both length (λ (e : ReadError). e) (volume_read s r c)
unfolding case_len
case_len_is s r content.Updating fits = refl
case_len_is s r content.Damaged fits = refl
case_len_is s r (content.Static t) fits = refl
case_len_is s r (content.Dynamic l) fits =
    ap Ok (sym (length-lebs (usable s r) l (λ n. IfSome_then (finite.get l n) (fits.2 n) (λ text h. h.1)) r.reserved))

len_in : Sizes → Option Volume → Result ℕ ReadError
len_in s o = result_map_both length (λ (e : ReadError). e)
    (option_map_or (λ v. volume_read s v.entry v.content) o (Err error.NoVolume))

module _ (image : Image) (p : Placed) (h : ArePlaces image p) (id : ℕ) where
  pub len_none : finite.get p.records.of id ≡ None → Err error.NoVolume ≡ volume_len h.meaning id
  unfolding len_in
  len_none e = by_volume (finite.get h.meaning.volumes id) refl
      (subst (λ (o : Option VolumeRecord). SlotMeans image.sizes (blocks_of image.sizes image.bytes) id o
      (finite.get h.meaning.volumes id))
      (ap (λ (x : Records). finite.get x.of id) (same_records image.sizes p image.bytes h) ∙ e)
      (h.accepted.accepted.means.slots id))
    where
      by_volume : (o : Option Volume) → finite.get h.meaning.volumes id ≡ o
          → SlotMeans image.sizes (blocks_of image.sizes image.bytes) id None o
          → Err error.NoVolume ≡ volume_len h.meaning id
      by_volume None at is = ap (len_in h.meaning.sizes) (sym at)
      by_volume (Some v) at is = absurd is

  pub len_some : (s : Sizes) (r : VolumeRecord) (c : PlaceContent) → p.records.sizes ≡ s
      → finite.get p.records.of id ≡ Some r → finite.get p.contents id ≡ Some c
      → extent_len (extent_of s r c) ≡ volume_len h.meaning id
  unfolding case_len len_in
  len_some s r c sizes recorded listed = by_volume (finite.get h.meaning.volumes id) refl
      (subst (λ (o : Option VolumeRecord). SlotMeans image.sizes (blocks_of image.sizes image.bytes) id o
      (finite.get h.meaning.volumes id))
      (in_table image.sizes p image.bytes h id r recorded) (h.accepted.accepted.means.slots id))
    where
      by_volume : (o : Option Volume) → finite.get h.meaning.volumes id ≡ o
          → SlotMeans image.sizes (blocks_of image.sizes image.bytes) id (Some r) o
          → case_len s r c ≡ volume_len h.meaning id
      by_volume None at is = absurd is
      by_volume (Some v) at is =
          let z : Sizes = image.sizes in
          let same : s ≡ z = sym sizes ∙ ap (λ (x : Records). x.sizes) h.records ∙ h.accepted.accepted.means.sizes in
          let case = case_is z p image.bytes h id r recorded v at c listed in
          ap (λ (x : Sizes). case_len x r c) same ∙ ap (case_len z r) (sym case)
          ∙ case_len_is z r v.content (content_has z p image.bytes h id r recorded v at).fits
          ∙ ap (λ (x : VolumeRecord). result_map_both length (λ (e : ReadError). e) (volume_read z x v.content))
          (sym is.0)
          ∙ ap (λ (x : Sizes). result_map_both length (λ (e : ReadError). e) (volume_read x v.entry v.content))
          (sym h.accepted.accepted.means.sizes)
          ∙ ap (len_in h.meaning.sizes) (sym at)
