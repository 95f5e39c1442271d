-- The contents of two static volumes, which are read side by side, piece by piece.
use Rattle.ubi_compare.proofs.Prelude.{◌≡◌, ◌∙◌, ◌↔◌, ◌+◌, ◌<◌, ℕ, Bool, true, false, false≢true, IsTrue, List, [], ap, refl, sym, subst, arith, length, min, None, Some, not, Sizes, rec_fault, usable, VolumeRecord, image_of, entry_of, pieces, case_of, IsSurvey, Seen, Content, Volume, Extent, leb_differences, Ranges, HaveTold, AddsLeb, Tells, told_with, read_apart, leb_read, blocks_of, size_more, size_none, piece_text, PieceIs, Pieces, Texts, ArePieces, AreReadTexts, AreWholeTexts, IsText, LebsOfBoth}
use Rattle.std.specs.FinMap as finite
use Rattle.ubi_volume.specs.declared.content.Content.TheVariants as content
use Rattle.ubi_volume.specs.declared.places.PlaceContent.TheVariants as place
use Rattle.ubi_compare.proofs.ReadApart.{AreLebs, all_alike, apart_by, are_lebs, none_yet, told_apart, told_same, texts}

-- a volume of this case reads a text
pub text_of : (s : Sizes) (used n : ℕ) (v : Volume) (c : Content) → v.content ≡ c → place.Static used n ≡ case_of s v.entry c
    → IsText s used v
text_of s used n v content.Updating is e = absurd (cc)
text_of s used n v content.Damaged is e = absurd (cc)
text_of s used n v (content.Static t) is e =
    let lebs : pieces (usable s v.entry) (length t) ≡ used = cc in (t, is, lebs)
text_of s used n v (content.Dynamic l) is e = absurd (cc)

-- the volume of a surveyed image that reads a text
module _ (s : Sizes) (p : Seen) (x : List ℕ) (h : IsSurvey (image_of s x) p) (id : ℕ) (r : VolumeRecord)
    (recorded : finite.get p.records.of id ≡ Some r) (sound : rec_fault s r ≡ None) (v : Volume)
    (at : finite.get h.meaning.volumes id ≡ Some v) (used : ℕ) (text : IsText s used v) where
  abbrev extent : Extent
  extent = record { lebs = used; size = usable s r; bytes = length text.0 }

  pub text_lebs : AreLebs s v extent (texts s p x id extent)
  text_lebs = are_lebs s p x h id r recorded sound v at (place.Static used (length text.0))
      (ap (λ (n : ℕ). place.Static n (length text.0)) (sym text.2) ∙ ap (case_of s v.entry) (sym text.1)) extent refl

  -- what is read of a LEB is its piece
  pub text_piece : (n : ℕ) → n < used → (piece : List ℕ) → PieceIs s (blocks_of s x) id used n (Some piece)
      → texts s p x id extent n ≡ piece
  text_piece n inside piece is =
      piece_text s x p h id r recorded v at text.0 text.1 n used
      (ap (λ (z : VolumeRecord). pieces (usable s z) (length text.0)) (sym (entry_of s x p h id r recorded v at)) ∙ text.2)
      inside piece is

-- a LEB is added to what was found, unless it is the same
abbrev pub Follows : Bool → Bool → ℕ → Ranges → Ranges → Type 0
Follows brief true n old new = new ≡ old
Follows brief false n old new = AddsLeb brief n old new

pub follows_apart : (brief same : Bool) (n : ℕ) (old new : Ranges) → not same ≡ true → AddsLeb brief n old new
    → Follows brief same n old new
follows_apart brief true n old new apart adds = absurd (false≢true apart)
follows_apart brief false n old new apart adds = adds

pub follows_same : (brief same : Bool) (n : ℕ) (old new : Ranges) → not same ≡ false → new ≡ old
    → Follows brief same n old new
follows_same brief true n old new alike is = is
follows_same brief false n old new alike is = absurd (false≢true (sym alike))

by_answer : (s : Sizes) (a b t u : List ℕ) (answer : Bool) → a ≡ t → b ≡ u → IsTrue answer ↔ (t ≡ u) → IsTrue answer ↔ (a ≡ b)
by_answer s a b t u answer one other is = (λ yes. one ∙ is.0 yes ∙ sym other, λ same. is.1 (sym one ∙ same ∙ other))

module _ (brief : Bool) (s : Sizes) (id : ℕ) (lebs : LebsOfBoth) (p q : Seen) (x y : List ℕ) where
  pub no_texts : (ranges : Ranges) → ranges.id ≡ id → ranges.told.items ≡ [] → ranges.begun ≡ None
      → AreReadTexts brief s id lebs 0 p q x y (record { left = 0; right = 0; ranges = ranges })
  no_texts ranges number told begun = record {
    left = size_none s (blocks_of s x) id lebs.left;
    right = size_none s (blocks_of s y) id lebs.right;
    found = λ h k v w at bt a b. none_yet brief s id v w ranges number told begun;
  }

  module _ (r o : VolumeRecord) (here : finite.get p.records.of id ≡ Some r) (there : finite.get q.records.of id ≡ Some o)
      (sound : rec_fault s r ≡ None) (other_sound : rec_fault s o ≡ None) (same : usable s r ≡ usable s o) where
    -- one piece more of each
    pub more_texts : (n : ℕ) → n < lebs.left → n < lebs.right → (t : Texts) → AreReadTexts brief s id lebs n p q x y t
        → (pieces : Pieces) → ArePieces s id lebs n x y pieces → (new : Ranges) → Follows brief pieces.is_same n t.ranges new
        → AreReadTexts brief s id lebs (n + 1) p q x y
        (record { left = t.left + pieces.left; right = t.right + pieces.right; ranges = new })
    more_texts n inside within t before pieces are new follows = record {
      left = size_more s (blocks_of s x) id lebs.left n t.left pieces.left before.left
          (Some are.one, are.left, ap Some are.left_len);
      right = size_more s (blocks_of s y) id lebs.right n t.right pieces.right before.right
          (Some are.other, are.right, ap Some are.right_len);
      found = λ h k v w at bt a b.
          let left = text_lebs s p x h id r here sound v at lebs.left a in
          let right = text_lebs s q y k id o there other_sound w bt lebs.right b in
          let one : Extent = record { lebs = lebs.left; size = usable s r; bytes = length a.0 } in
          let other : Extent = record { lebs = lebs.right; size = usable s o; bytes = length b.0 } in
          let apart = apart_by s id v w one other (texts s p x id one) (texts s q y id other) left right same n (omega arith)
          pieces.is_same
          (by_answer s (texts s p x id one n) (texts s q y id other n) are.one are.other pieces.is_same
          (text_piece s p x h id r here sound v at lebs.left a n inside are.one are.left)
          (text_piece s q y k id o there other_sound w bt lebs.right b n within are.other are.right) are.same) in
          by_test pieces.is_same v w one other (texts s p x id one) (texts s q y id other) left right same apart follows
          (before.found h k v w at bt a b);
    }
      where
        by_test : (test : Bool) (v w : Volume) (one other : Extent) (f g : ℕ → List ℕ) (left : AreLebs s v one f)
            (right : AreLebs s w other g) (size : one.size ≡ other.size)
            → read_apart (leb_read s v.entry n v.content) (leb_read s w.entry n w.content) ≡ not test
            → Follows brief test n t.ranges new → HaveTold brief s id v w t.ranges n → HaveTold brief s id v w new (n + 1)
        by_test true v w one other f g left right size apart is told =
            subst (λ (z : Ranges). HaveTold brief s id v w z (n + 1)) (sym is)
            (told_same s id v w one other f g left right size brief t.ranges n apart told)
        by_test false v w one other f g left right size apart is told =
            told_apart s id v w one other f g left right size brief t.ranges new n apart told is

    -- all of them
    pub all_texts : (t : Texts) → AreWholeTexts brief s id lebs p q x y t
        → (h : IsSurvey (image_of s x) p) (k : IsSurvey (image_of s y) q) (v w : Volume)
        → finite.get h.meaning.volumes id ≡ Some v → finite.get k.meaning.volumes id ≡ Some w
        → IsText s lebs.left v → IsText s lebs.right w → Tells brief (told_with t.ranges []) (leb_differences s id v w)
    all_texts t read h k v w at bt a b =
        let left = text_lebs s p x h id r here sound v at lebs.left a in
        let right = text_lebs s q y k id o there other_sound w bt lebs.right b in
        let one : Extent = record { lebs = lebs.left; size = usable s r; bytes = length a.0 } in
        let other : Extent = record { lebs = lebs.right; size = usable s o; bytes = length b.0 } in
        all_alike s id v w one other (texts s p x id one) (texts s q y id other) left right same brief t.ranges
        (min lebs.left lebs.right) refl (read.found h k v w at bt a b)
