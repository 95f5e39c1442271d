-- The LEBs of a volume that are read differently, by their places.
use Rattle.ubi_compare.proofs.Prelude.{◌≡◌, ◌≢◌, ℕ, zero, suc, ◌+◌, ◌*◌, ◌-◌, ◌<◌, ◌≤◌, Bool, true, false, cond, not, inl, inr, List, [], ◌∷◌, ◌++◌, append-nil, append_assoc, length, refl, ap, ap₂, sym, ◌∙◌, subst, arith, ◌==◌, false≢true, cases_lt, le-ltb, filter-append, unsigned_Decides, range_with_len, Err, IsTrue, None, Ok, Result, Some, filter, min, nat_lt, ◌↔◌, same_bytes, Sizes, rec_fault, usable, VolumeRecord, usable_some, image_of, Agreed, Source, bytes_Decides, leb_is, piece_is, same_Ok, placed_of, places_of, pieces_few, content_has, reads_of, extent_of, leb_bytes, share_len, Fits, pieces, share, case_of, leb_read, leb_text, IsSurvey, Seen, Content, Volume, ReadError, Extent, PlaceContent, leb_differences, lebs_apart, ranges_after, read_apart, Difference, Ranges, OneSide, Tells, IsSideOf, HaveFound, HaveTold, AddsLeb, ranges_told, told_with}
use Rattle.std.specs.FinMap as finite
use Rattle.ubi_volume.specs.declared.content.Content.TheVariants as content
use Rattle.ubi_volume.specs.declared.errors.ReadError.TheVariants as error
use Rattle.ubi_compare.proofs.NoDifferences.{both_none, chosen, map_none, not_chosen, pass_none, ranges_none}
use Rattle.ubi_compare.proofs.Contents.{dynamic_leb, none_apart, static_leb}
use Rattle.ubi_compare.specs.declared.difference.Difference.TheVariants as difference

-- the LEBs of a volume that can be read, by its extent
pub record AreLebs (s : Sizes) (v : Volume) (e : Extent) (texts : ℕ → List ℕ) : Type 0 where
  pub few : e.lebs ≤ v.entry.reserved
  pub size : e.size ≡ usable s v.entry
  pub held : (n : ℕ) → n < e.lebs → leb_read s v.entry n v.content ≡ Ok (texts n)
  pub beyond : (n : ℕ) → e.lebs ≤ n → leb_read s v.entry n v.content ≡ Err error.OutOfRange

-- what is read of them at their places
abbrev pub texts : Sizes → Seen → List ℕ → ℕ → Extent → ℕ → List ℕ
texts s p x id e n = leb_bytes s (share_len e.size e.bytes n) (finite.get p.scan.winners (id, n)) x

-- those of a surveyed image are
module _ (s : Sizes) (p : Seen) (x : List ℕ) (h : IsSurvey (image_of s x) p) (id : ℕ) (r : VolumeRecord)
    (recorded : finite.get p.records.of id ≡ Some r) (sound : rec_fault s r ≡ None) (v : Volume)
    (at : finite.get h.meaning.volumes id ≡ Some v) where
  abbrev under : Content → Volume
  under c = record { entry = r; content = c }

  entry : v.entry ≡ r
  entry = (reads_of s (placed_of s p h.meaning) x (places_of s x p h) id r recorded v at).0

  by_content : (c : Content) → v.content ≡ c → (e : Extent) → extent_of s r (case_of s r c) ≡ Ok e
      → AreLebs s (under c) e (texts s p x id e)
  by_content content.Updating is e reads = absurd (cc)
  by_content content.Damaged is e reads = absurd (cc)
  by_content (content.Static t) is e reads =
      let q = placed_of s p h.meaning in
      let places = places_of s x p h in
      let lebs = pieces (usable s r) (length t) in
      let has = subst (λ (c : Content). Fits s r c) is (content_has s q x places id r recorded v at).fits in
      let own : Extent = record { lebs = lebs; size = usable s r; bytes = length t } in
      subst (λ (z : Extent). AreLebs s (under (content.Static t)) z (texts s p x id z)) (same_Ok own e reads) (record {
        few = pieces_few (usable s r) (usable_some s r sound) (length t) r.reserved has.2;
        size = refl;
        held = λ n inside. static_leb s r n t inside
            ∙ ap Ok (sym (piece_is s q x places id r recorded v at lebs (length t) t is refl refl n inside));
        beyond = λ n past. not_chosen (nat_lt n lebs) (Ok (share (usable s r) t n)) (Err error.OutOfRange) (le-ltb n lebs past);
      })
  by_content (content.Dynamic l) is e reads =
      let q = placed_of s p h.meaning in
      let places = places_of s x p h in
      let own : Extent = record { lebs = r.reserved; size = usable s r; bytes = r.reserved * usable s r } in
      subst (λ (z : Extent). AreLebs s (under (content.Dynamic l)) z (texts s p x id z)) (same_Ok own e reads) (record {
        few = omega arith;
        size = refl;
        held = λ n inside. dynamic_leb s r n l inside
            ∙ ap Ok (sym (leb_is s q x places id r recorded v at l is n inside));
        beyond = λ n past. not_chosen (nat_lt n r.reserved) (Ok (leb_text (usable s r) (finite.get l n)))
            (Err error.OutOfRange) (le-ltb n r.reserved past);
      })

  pub are_lebs : (c : PlaceContent) → c ≡ case_of s v.entry v.content → (e : Extent) → extent_of s r c ≡ Ok e
      → AreLebs s v e (texts s p x id e)
  are_lebs c case e reads =
      subst (λ (z : VolumeRecord). AreLebs s (record { entry = z; content = v.content }) e (texts s p x id e)) (sym entry)
      (by_content v.content refl e
      (ap (λ (z : VolumeRecord). extent_of s r (case_of s z v.content)) (sym entry) ∙ ap (extent_of s r) (sym case) ∙ reads))

-- those of a side
pub side_lebs : (s : Sizes) (k : Source) (agrees : Agreed) (id : ℕ) (side : OneSide) → IsSideOf s k agrees id side
    → (e : Extent) → extent_of s side.entry.now side.case ≡ Ok e → (x : List ℕ) → agrees x
    → (h : IsSurvey (image_of s x) side.survey.now) (v : Volume) → finite.get h.meaning.volumes id ≡ Some v
    → AreLebs s v e (texts s side.survey.now x id e)
side_lebs s k agrees id side is e reads x holds h v at =
    are_lebs s side.survey.now x h id side.entry.now is.recorded is.sound v at side.case (is.case x holds h v at) e reads

-- the first n and the next
pub range_more : (a n m : ℕ) → range_with_len a (n + m) ≡ range_with_len a n ++ range_with_len (a + n) m
range_more a zero m = ap₂ range_with_len (omega arith) (omega arith)
range_more a (suc n) m =
    let e : a + 1 + n ≡ a + suc n = omega arith in
    let f : suc n + m ≡ suc (n + m) = omega arith in
    ap (range_with_len a) f
    ∙ ap (λ xs. a ∷ xs) (range_more (a + 1) n m ∙ ap (λ k. range_with_len (a + 1) n ++ range_with_len k m) e)

pub passed_more : (test : ℕ → Bool) (n m : ℕ)
    → filter test (range_with_len 0 (n + m)) ≡ filter test (range_with_len 0 n) ++ filter test (range_with_len (0 + n) m)
passed_more test n m =
    ap (filter test) (range_more 0 n m) ∙ filter-append test (range_with_len 0 n) (range_with_len (0 + n) m)

-- whether texts are the same, by whatever decides it
by_answer : (answer : Bool) (t u : List ℕ) → IsTrue answer ↔ (t ≡ u) → same_bytes t u ≡ answer
by_answer true t u is = (bytes_Decides t u).1 (is.0 refl)
by_answer false t u is = by_test (same_bytes t u) refl
  where
    by_test : (test : Bool) → same_bytes t u ≡ test → test ≡ false
    by_test false e = refl
    by_test true e = absurd (false≢true (is.1 ((bytes_Decides t u).0 e)))

pub apart_from : (o : Result (List ℕ) ReadError) (e : ReadError) → read_apart o (Err e) ≡ false
apart_from (Ok t) e = refl
apart_from (Err f) e = refl

module _ (s : Sizes) (id : ℕ) (v w : Volume) (one other : Extent) (a b : ℕ → List ℕ) (left : AreLebs s v one a)
    (right : AreLebs s w other b) (same : one.size ≡ other.size) where
  abbrev apart : ℕ → Bool
  apart n = read_apart (leb_read s v.entry n v.content) (leb_read s w.entry n w.content)

  abbrev count : ℕ
  count = min one.lebs other.lebs

  size_is : usable s v.entry ≡ usable s w.entry
  size_is = sym left.size ∙ same ∙ right.size

  -- a LEB that both have
  pub apart_by : (n : ℕ) → n < count → (answer : Bool) → IsTrue answer ↔ (a n ≡ b n) → apart n ≡ not answer
  apart_by n inside answer is =
      ap (λ o. read_apart o (leb_read s w.entry n w.content)) (left.held n (omega arith))
      ∙ ap (read_apart (Ok (a n))) (right.held n (omega arith)) ∙ ap not (by_answer answer (a n) (b n) is)

  -- one that one of them hasn't
  apart_beyond : (n : ℕ) → count ≤ n → apart n ≡ false
  apart_beyond n past = elim (cases_lt n one.lebs) [
    | inl inside ↦ ap (read_apart (leb_read s v.entry n v.content)) (right.beyond n (omega arith))
        ∙ apart_from (leb_read s v.entry n v.content) error.OutOfRange
    | inr beyond ↦ ap (λ o. read_apart o (leb_read s w.entry n w.content)) (left.beyond n beyond)
  ]

  all_found : lebs_apart s v w count ≡ lebs_apart s v w v.entry.reserved
  all_found =
      let few = left.few in
      let total : count + (v.entry.reserved - count) ≡ v.entry.reserved = omega arith in
      sym (append-nil (lebs_apart s v w count))
      ∙ ap (λ xs. lebs_apart s v w count ++ xs)
      (sym (pass_none apart (0 + count) (v.entry.reserved - count) (λ k low high. apart_beyond k (omega arith))))
      ∙ sym (passed_more apart count (v.entry.reserved - count))
      ∙ ap (λ n. lebs_apart s v w n) total

  listed : (n : ℕ) → n ≡ count → ranges_told id (ranges_after None (lebs_apart s v w n)) ≡ leb_differences s id v w
  listed n all =
      ap (λ k. ranges_told id (ranges_after None (lebs_apart s v w k))) all
      ∙ ap (λ ns. ranges_told id (ranges_after None ns)) all_found
      ∙ sym (chosen (usable s v.entry == usable s w.entry) (ranges_told id (ranges_after None (lebs_apart s v w v.entry.reserved))) []
      ((unsigned_Decides (usable s v.entry) (usable s w.entry)).1 size_is))

  -- once all of them were found, these are the differences
  pub all_told : (ranges : Ranges) (n : ℕ) → n ≡ count → HaveFound s id v w ranges n
      → told_with ranges [] ≡ leb_differences s id v w
  all_told ranges n all found =
      sym (found []) ∙ ap (λ ns. ranges_told id (ranges_after None ns)) (append-nil (lebs_apart s v w n)) ∙ listed n all

  pub all_alike : (brief : Bool) (ranges : Ranges) (n : ℕ) → n ≡ count → HaveTold brief s id v w ranges n
      → Tells brief (told_with ranges []) (leb_differences s id v w)
  all_alike false ranges n all told = all_told ranges n all told
  all_alike true ranges n all told =
      subst (λ (ds : List Difference). (told_with ranges [] ≡ []) ↔ (ds ≡ [])) (listed n all) (
        λ none. ap (λ ns. ranges_told id (ranges_after None ns)) (told.0 none),
        λ none. told.1 (ranges_none (lebs_apart s v w n)
            (map_none (λ (e : ℕ × ℕ). difference.Lebs id e.0 e.1) (ranges_after None (lebs_apart s v w n)) none)),
      )

  -- one that is read differently is told
  pub some_told : (n : ℕ) → n < count → apart n ≡ true → leb_differences s id v w ≢ []
  some_told n inside differs none =
      let few = left.few in
      false≢true (sym (none_apart s id v w size_is none n (omega arith)) ∙ differs)

  grown : (n : ℕ) → (test : Bool) → apart n ≡ test → lebs_apart s v w (n + 1) ≡ lebs_apart s v w n ++ cond test (n ∷ []) []
  grown n test is =
      let here : 0 + n ≡ n = omega arith in
      passed_more apart n 1 ∙ ap (λ k. lebs_apart s v w n ++ cond (apart k) (k ∷ []) []) here
      ∙ ap (λ t. lebs_apart s v w n ++ cond t (n ∷ []) []) is

  next : (n : ℕ) → (test : Bool) → apart n ≡ test → (rest : List ℕ)
      → lebs_apart s v w (n + 1) ++ rest ≡ lebs_apart s v w n ++ (cond test (n ∷ []) [] ++ rest)
  next n test is rest =
      ap (λ xs. xs ++ rest) (grown n test is) ∙ append_assoc (lebs_apart s v w n) (cond test (n ∷ []) []) rest

  -- one more LEB that is read the same
  pub one_same : (ranges : Ranges) (n : ℕ) → apart n ≡ false → HaveFound s id v w ranges n
      → HaveFound s id v w ranges (n + 1)
  one_same ranges n is found rest =
      ap (λ ns. ranges_told id (ranges_after None ns)) (next n false is rest) ∙ found rest

  -- or differently
  pub one_apart : (old new : Ranges) (n : ℕ) → apart n ≡ true → HaveFound s id v w old n
      → ((rest : List ℕ) → told_with old (n ∷ rest) ≡ told_with new rest) → HaveFound s id v w new (n + 1)
  one_apart old new n is found more rest =
      ap (λ ns. ranges_told id (ranges_after None ns)) (next n true is rest) ∙ found (n ∷ rest) ∙ more rest

  -- the same, in brief or not
  pub told_same : (brief : Bool) (ranges : Ranges) (n : ℕ) → apart n ≡ false → HaveTold brief s id v w ranges n
      → HaveTold brief s id v w ranges (n + 1)
  told_same false ranges n is told = one_same ranges n is told
  told_same true ranges n is told =
      subst (λ (ns : List ℕ). (told_with ranges [] ≡ []) ↔ (ns ≡ []))
      (sym (grown n false is ∙ append-nil (lebs_apart s v w n))) told

  one_there : (n : ℕ) → n ∷ [] ≡ [] → ⊥
  one_there n e = cc

  pub told_apart : (brief : Bool) (old new : Ranges) (n : ℕ) → apart n ≡ true → HaveTold brief s id v w old n
      → AddsLeb brief n old new → HaveTold brief s id v w new (n + 1)
  told_apart false old new n is told adds = one_apart old new n is told adds
  told_apart true old new n is told some = (
    λ none. absurd (some none),
    λ none. absurd (one_there n (both_none (lebs_apart s v w n) (n ∷ []) (sym (grown n true is) ∙ none)).1),
  )

-- none is found yet
pub none_found : (s : Sizes) (id : ℕ) (v w : Volume) (ranges : Ranges) → ranges.id ≡ id → ranges.told.items ≡ []
    → ranges.begun ≡ None → HaveFound s id v w ranges 0
none_found s id v w ranges number told begun rest =
    ap (λ o. ranges_told id (ranges_after o rest)) (sym begun) ∙ ap (λ i. ranges_told i (ranges_after ranges.begun rest)) (sym number)
    ∙ ap (λ xs. xs ++ ranges_told ranges.id (ranges_after ranges.begun rest)) (sym told)

pub none_yet : (brief : Bool) (s : Sizes) (id : ℕ) (v w : Volume) (ranges : Ranges) → ranges.id ≡ id → ranges.told.items ≡ []
    → ranges.begun ≡ None → HaveTold brief s id v w ranges 0
none_yet false s id v w ranges number told begun = none_found s id v w ranges number told begun
none_yet true s id v w ranges number told begun = (
  λ none. refl,
  λ none. sym (none_found s id v w ranges number told begun []),
)
