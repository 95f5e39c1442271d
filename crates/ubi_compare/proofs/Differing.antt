-- Where two volumes differ, by their cases.
use Rattle.ubi_compare.proofs.Prelude.{◌≡◌, ◌≢◌, ℕ, ◌+◌, Bool, true, false, List, [], ◌∷◌, ◌++◌, refl, ap, ap₂, sym, ◌∙◌, subst, arith, append-nil, append_assoc, ◌==◌, unsigned_Decides, flat_map-append, range_with_len, Err, None, Ok, Some, flat_map, if◌then◌else◌, Sizes, slots, usable, VolumeRecord, image_of, same_Ok, entry_of, has_entry, no_volume, places_of, extent_of, Meant, case_of, leb_read, IsSurvey, Seen, Content, Volume, ReadError, Extent, PlaceContent, condition_of, content_differences, differences, leb_differences, lebs_apart, length_differences, ranges_after, read_apart, record_differences, same_condition, unless, volume_differences, Condition, Difference, Found, Adds, ranges_told, case_condition, case_lengths, first_differences}
use Rattle.std.specs.FinMap as finite
use Rattle.ubi_volume.specs.declared.content.Content.TheVariants as content
use Rattle.ubi_volume.specs.declared.places.PlaceContent.TheVariants as place
use Rattle.ubi_compare.proofs.Adding.{adds_more}
use Rattle.ubi_compare.proofs.NoDifferences.{not_chosen, pass_none}
use Rattle.ubi_compare.proofs.ReadApart.{apart_from, range_more}
use Rattle.ubi_compare.specs.declared.difference.Difference.TheVariants as difference
use Rattle.ubi_compare.specs.declared.difference.Side.TheVariants as side

condition_is : (s : Sizes) (r : VolumeRecord) (c : Content) → case_condition (case_of s r c) ≡ condition_of c
condition_is s r content.Updating = refl
condition_is s r content.Damaged = refl
condition_is s r (content.Static t) = refl
condition_is s r (content.Dynamic l) = refl

lengths_are : (s : Sizes) (id : ℕ) (r q : VolumeRecord) (c d : Content)
    → case_lengths id (case_of s r c) (case_of s q d) ≡ length_differences id c d
lengths_are s id r q content.Updating d = refl
lengths_are s id r q content.Damaged d = refl
lengths_are s id r q (content.Static t) content.Updating = refl
lengths_are s id r q (content.Static t) content.Damaged = refl
lengths_are s id r q (content.Static t) (content.Static u) = refl
lengths_are s id r q (content.Static t) (content.Dynamic l) = refl
lengths_are s id r q (content.Dynamic l) d = refl

-- what can't be read isn't read differently
unread : (s : Sizes) (r q : VolumeRecord) (c : Content) (e : ReadError) → extent_of s q (case_of s q c) ≡ Err e → (n : ℕ)
    → (f : ReadError) × (leb_read s r n c ≡ Err f)
unread s r q content.Updating e fails n = (_, refl)
unread s r q content.Damaged e fails n = (_, refl)
unread s r q (content.Static t) e fails n = absurd (cc)
unread s r q (content.Dynamic l) e fails n = absurd (cc)

size_of : (s : Sizes) (r : VolumeRecord) (c : PlaceContent) (e : Extent) → extent_of s r c ≡ Ok e → e.size ≡ usable s r
size_of s r place.Updating e is = absurd (cc)
size_of s r place.Damaged e is = absurd (cc)
size_of s r (place.Static lebs bytes) e is = ap (λ (x : Extent). x.size) (sym (same_Ok _ e is))
size_of s r place.Dynamic e is = ap (λ (x : Extent). x.size) (sym (same_Ok _ e is))

either_none : {A : Type 0} (test : Bool) (xs : List A) → xs ≡ [] → (if test then xs else []) ≡ []
either_none true xs none = none
either_none false xs none = refl

module _ (s : Sizes) (id : ℕ) (v w : Volume) where
  none_told : ((n : ℕ) → read_apart (leb_read s v.entry n v.content) (leb_read s w.entry n w.content) ≡ false)
      → leb_differences s id v w ≡ []
  none_told none =
      either_none (usable s v.entry == usable s w.entry) (ranges_told id (ranges_after None (lebs_apart s v w v.entry.reserved)))
      (ap (λ ns. ranges_told id (ranges_after None ns))
      (pass_none (λ n. read_apart (leb_read s v.entry n v.content) (leb_read s w.entry n w.content)) 0 v.entry.reserved
      (λ k low high. none k)))

  module _ (a b : PlaceContent) (left : a ≡ case_of s v.entry v.content) (right : b ≡ case_of s w.entry w.content) where
    -- the conditions and the lengths are those of the cases
    pub both_cases : (f g h : Found)
        → Adds f g (unless (same_condition (case_condition a) (case_condition b))
        (difference.Condition id (case_condition a) (case_condition b)))
        → Adds g h (case_lengths id a b)
        → Adds f h (unless (same_condition (condition_of v.content) (condition_of w.content))
        (difference.Condition id (condition_of v.content) (condition_of w.content)) ++ length_differences id v.content w.content)
    both_cases f g h one other =
        let here : case_condition a ≡ condition_of v.content = ap case_condition left
        ∙ condition_is s v.entry v.content in
        let there : case_condition b ≡ condition_of w.content = ap case_condition right
        ∙ condition_is s w.entry w.content in
        let lengths : case_lengths id a b ≡ length_differences id v.content w.content =
        ap₂ (case_lengths id) left right ∙ lengths_are s id v.entry w.entry v.content w.content in
        adds_more f g h _ _
        (subst (λ (ds : List Difference). Adds f g ds)
        (ap₂ (λ (x y : Condition). unless (same_condition x y) (difference.Condition id x y)) here there) one)
        (subst (Adds g h) lengths other)

    -- nothing is told of the LEBs where one side can't be read
    pub left_unread : (e : ReadError) (r : VolumeRecord) → v.entry ≡ r → extent_of s r a ≡ Err e
        → leb_differences s id v w ≡ []
    left_unread e r is fails =
        let own : extent_of s v.entry (case_of s v.entry v.content) ≡ Err e =
        ap (extent_of s v.entry) (sym left) ∙ ap (λ z. extent_of s z a) is ∙ fails in
        none_told (λ n. let is = unread s v.entry v.entry v.content e own n in
        ap (λ o. read_apart o (leb_read s w.entry n w.content)) is.1)

    pub right_unread : (e : ReadError) (r : VolumeRecord) → w.entry ≡ r → extent_of s r b ≡ Err e
        → leb_differences s id v w ≡ []
    right_unread e r is fails =
        let own : extent_of s w.entry (case_of s w.entry w.content) ≡ Err e =
        ap (extent_of s w.entry) (sym right) ∙ ap (λ z. extent_of s z b) is ∙ fails in
        none_told (λ n. let is = unread s w.entry w.entry w.content e own n in
        ap (read_apart (leb_read s v.entry n v.content)) is.1 ∙ apart_from (leb_read s v.entry n v.content) is.0)

    -- or where the volume uses other sizes
    pub other_sizes : (r q : VolumeRecord) (one other : Extent) → v.entry ≡ r → w.entry ≡ q → extent_of s r a ≡ Ok one
        → extent_of s q b ≡ Ok other → one.size ≢ other.size → leb_differences s id v w ≡ []
    other_sizes r q one other here there first second apart =
        not_chosen (usable s v.entry == usable s w.entry) (ranges_told id (ranges_after None (lebs_apart s v w v.entry.reserved))) []
        (by_test (usable s v.entry == usable s w.entry) refl)
      where
        by_test : (test : Bool) → (usable s v.entry == usable s w.entry) ≡ test → test ≡ false
        by_test false is = refl
        by_test true is = absurd (apart (size_of s r a one first ∙ ap (usable s) (sym here)
            ∙ (unsigned_Decides (usable s v.entry) (usable s w.entry)).0 is ∙ ap (usable s) there
            ∙ sym (size_of s q b other second)))

-- the fields of the records, and what the volumes read
pub both_told : (s : Sizes) (p q : Seen) (x y : List ℕ) (h : IsSurvey (image_of s x) p) (k : IsSurvey (image_of s y) q)
    (id : ℕ) (r o : VolumeRecord) → finite.get p.records.of id ≡ Some r → finite.get q.records.of id ≡ Some o
    → (v w : Volume) → finite.get h.meaning.volumes id ≡ Some v → finite.get k.meaning.volumes id ≡ Some w
    → (f e n : Found) → Adds f e (record_differences id r o) → Adds e n (content_differences s id v w)
    → Adds f n (volume_differences s id (Some v) (Some w))
both_told s p q x y h k id r o here there v w at bt f e n records contents =
    adds_more f e n (record_differences id v.entry w.entry) (content_differences s id v w)
    (subst (λ (ds : List Difference). Adds f e ds)
    (ap₂ (record_differences id) (sym (entry_of s x p h id r here v at)) (sym (entry_of s y q k id o there w bt))) records)
    contents

-- the first n and the next
told_more : {A : Type 0} (of : ℕ → List A) (n : ℕ)
    → flat_map of (range_with_len 0 n) ++ of (0 + n) ≡ flat_map of (range_with_len 0 (n + 1))
told_more of n =
    ap (λ xs. flat_map of (range_with_len 0 n) ++ xs) (sym (append-nil (of (0 + n))))
    ∙ sym (flat_map-append of (range_with_len 0 n) (range_with_len (0 + n) 1)) ∙ ap (flat_map of) (sym (range_more 0 n 1))

-- what stands in a slot, by the records of the tables
module _ (s : Sizes) (p q : Seen) (x y : List ℕ) (h : IsSurvey (image_of s x) p) (k : IsSurvey (image_of s y) q) (id : ℕ) where
  abbrev told : List Difference
  told = volume_differences s id (finite.get h.meaning.volumes id) (finite.get k.meaning.volumes id)

  pub neither : finite.get p.records.of id ≡ None → finite.get q.records.of id ≡ None → told ≡ []
  neither here there = ap₂ (volume_differences s id) (no_volume s x p h id here) (no_volume s y q k id there)

  pub left_only : (r : VolumeRecord) → finite.get p.records.of id ≡ Some r → finite.get q.records.of id ≡ None
      → told ≡ difference.Only id side.Left ∷ []
  left_only r here there =
      ap₂ (volume_differences s id) (has_entry s x p h id r here).1 (no_volume s y q k id there)

  pub right_only : (r : VolumeRecord) → finite.get p.records.of id ≡ None → finite.get q.records.of id ≡ Some r
      → told ≡ difference.Only id side.Right ∷ []
  right_only r here there =
      ap₂ (volume_differences s id) (no_volume s x p h id here) (has_entry s y q k id r there).1

  pub in_both : (r o : VolumeRecord) → finite.get p.records.of id ≡ Some r → finite.get q.records.of id ≡ Some o
      → (f n : Found)
      → ((v w : Volume) → finite.get h.meaning.volumes id ≡ Some v → finite.get k.meaning.volumes id ≡ Some w
      → Adds f n (volume_differences s id (Some v) (Some w)))
      → Adds f n told
  in_both r o here there f n each =
      let v = has_entry s x p h id r here in
      let w = has_entry s y q k id o there in
      subst (λ (ds : List Difference). Adds f n ds) (sym (ap₂ (volume_differences s id) v.1 w.1)) (each v.0 w.0 v.1 w.1)

-- slot by slot
module _ (s : Sizes) (p q : Seen) (x y : List ℕ) (h : IsSurvey (image_of s x) p) (k : IsSurvey (image_of s y) q) where
  abbrev m : Meant
  m = h.meaning

  abbrev n : Meant
  n = k.meaning

  here : m.sizes ≡ s
  here = h.attached.accepted.accepted.means.sizes

  abbrev numbers : Bool → ℕ → ℕ → List Difference
  numbers same a b = unless same (difference.ImageSeq a b)

  pub no_slots : (f e : Found) → Adds f e (numbers (p.scan.image_seq == q.scan.image_seq) p.scan.image_seq q.scan.image_seq)
      → Adds f e (first_differences 0 m n)
  no_slots f e adds =
      let one : p.scan.image_seq ≡ m.image_seq = (places_of s x p h).image_seq in
      let other : q.scan.image_seq ≡ n.image_seq = (places_of s y q k).image_seq in
      subst (λ (ds : List Difference). Adds f e ds)
      (ap₂ (λ (a b : ℕ). numbers (a == b) a b) one other
      ∙ sym (append-nil (numbers (m.image_seq == n.image_seq) m.image_seq n.image_seq))) adds

  pub next_slot : (id : ℕ) (f e g : Found) → Adds f e (first_differences id m n)
      → Adds e g (volume_differences s id (finite.get m.volumes id) (finite.get n.volumes id))
      → Adds f g (first_differences (id + 1) m n)
  next_slot id f e g before adds =
      let of : ℕ → List Difference = λ i. volume_differences m.sizes i (finite.get m.volumes i) (finite.get n.volumes i) in
      let seq = numbers (m.image_seq == n.image_seq) m.image_seq n.image_seq in
      let own : Adds e g (of id) = subst (λ (z : Sizes). Adds e g (volume_differences z id (finite.get m.volumes id)
      (finite.get n.volumes id))) (sym here) adds in
      let at : 0 + id ≡ id = omega arith in
      subst (λ (ds : List Difference). Adds f g ds)
      (append_assoc seq (flat_map of (range_with_len 0 id)) (of id)
      ∙ ap (λ (ds : List Difference). seq ++ ds)
      (ap (λ (i : ℕ). flat_map of (range_with_len 0 id) ++ of i) (sym at) ∙ told_more of id))
      (adds_more f e g (first_differences id m n) (of id) before own)

  pub all_slots : (id : ℕ) → id ≡ slots s → (f e : Found) → Adds f e (first_differences id m n) → Adds f e (differences m n)
  all_slots id all f e adds =
      subst (λ (i : ℕ). Adds f e (first_differences i m n)) (all ∙ ap slots (sym here)) adds
