-- The lines of all volumes are read, in order.
use Rattle.ubi_config.proofs.Prelude.{◌≡◌, ◌<◌, ◌≤◌, ◌+◌, ◌^◌, ℕ, Bool, true, false, not, List, [], ◌∷◌, ◌++◌, append-nil, arith, length, refl, subst, ◌∙◌, ◌==◌, codes, cond, count_by, AllByRecursion, IsDistinct, Option, Some, None, flat_map, list_any, list_any-append, map, rec_fault, same_bytes, gives_id, gives_name, is_autoresize, is_heading, is_titled, line_number, Line, Sizes, ◌&&◌, if◌then◌else◌, decimal, IsGeometry, bytes_reserved, is_growing, left_out, left_out_words, lines_by, path_of, title, volume_lines, ConfigVolume, LeftOut}
use Rattle.ubi_config.proofs.AreRead.{AreRead, read-append, read_under, skip_line}
use Rattle.ubi_config.proofs.CanSay.{IsSaid, is_said}
use Rattle.ubi_config.proofs.Counts.{count_both, count_cons, some_counted}
use Rattle.ubi_config.proofs.SectionRead.{IsClear, flag_said, section_read, section_said}
use Rattle.ubi_config.proofs.TitlesApart.{titles_apart}
use Rattle.ubi_config.proofs.WrittenLines.{empty_read}
use Rattle.ubi_config.proofs.WrittenRemarks.{left_out_read}
use Rattle.ubi_config.specs.declared.line.Line.TheVariants as line

-- what the lines of a volume say, which begin at a place
abbrev pub said_at : Sizes → ℕ → ConfigVolume → Option LeftOut → List Line
said_at s place v None = section_said s (line_number (place + 1)) v
said_at s place v (Some _) = []

-- what the lines of volumes say, which begin at a place
abbrev pub said_from : Sizes → Bool → ℕ → List ConfigVolume → List Line
said_from s grow place [] = []
said_from s grow place (v ∷ vs) =
    said_at s place v (left_out grow v) ++ said_from s grow (place + length (volume_lines s grow v)) vs

-- what is known of one volume
pub record IsSound (s : Sizes) (v : ConfigVolume) : Type 0 where
  pub number : v.id < 2 ^ 32
  pub sound : rec_fault s v.entry ≡ None

-- of the lines above it none says what those of a volume that follows will say, and few enough begin sections or grow
pub record IsAhead (grow : Bool) (above : List Line) (vs : List ConfigVolume) : Type 0 where
  pub clear : AllByRecursion (IsClear above) vs
  pub room : count_by is_heading above + length vs ≤ 128
  pub grows : grow ≡ true → count_by is_autoresize above + count_by is_growing vs ≤ 1

flag_none : (p : Line → Bool) → p line.Autoresize ≡ false → p line.SkipCheck ≡ false → (a b : Bool)
    → list_any p (if a then line.Autoresize ∷ [] else (if b then line.SkipCheck ∷ [] else [])) ≡ false
flag_none p grows skips true b = rw grows refl
flag_none p grows skips false true = rw skips refl
flag_none p grows skips false false = refl

flag_headings : (a b : Bool)
    → count_by is_heading (if a then line.Autoresize ∷ [] else (if b then line.SkipCheck ∷ [] else [])) ≡ 0
flag_headings true b = refl
flag_headings false true = refl
flag_headings false false = refl

flag_growing : (a b : Bool)
    → count_by is_autoresize (if a then line.Autoresize ∷ [] else (if b then line.SkipCheck ∷ [] else [])) ≤ cond a 1 0
flag_growing true b = omega arith
flag_growing false true = omega arith
flag_growing false false = omega arith

not_both : (a b : Bool) → (a && not b) ≡ false → a ≡ true → b ≡ true
not_both true true h k = refl
not_both true false h k = absurd (cc)
not_both false b h k = absurd (cc)

none_by : (p : Line → Bool) (ls : List Line) (b : Bool) → list_any p ls ≡ b → count_by p ls ≡ 0 → b ≡ false
none_by p ls false h k = refl
none_by p ls true h k = absurd (omega (arith, some_counted p ls h))

none_counted : (p : Line → Bool) (ls : List Line) → count_by p ls ≡ 0 → list_any p ls ≡ false
none_counted p ls k = none_by p ls (list_any p ls) refl k

module _ (s : Sizes) (v : ConfigVolume) (n : ℕ) where
  abbrev front : List Line
  front =
      line.Heading n (title v.id) ∷ line.Mode ∷ line.Id v.id ∷ line.Kind v.entry.kind ∷ line.Name v.entry.name
      ∷ line.Size (bytes_reserved s v.entry) ∷ line.Alignment v.entry.alignment ∷ line.Image (path_of v) ∷ []

  parts : (p : Line → Bool) → count_by p (section_said s n v) ≡ count_by p front + count_by p (flag_said v.entry.flags)
  parts p = count_both p front (flag_said v.entry.flags)

  one_heading : count_by is_heading front ≡ 1
  one_heading = refl

  none_growing : count_by is_autoresize front ≡ 0
  none_growing = refl

  section_headings : count_by is_heading (section_said s n v) ≤ 1
  section_headings =
      omega (arith, parts is_heading, one_heading, flag_headings (v.entry.flags == 1) (v.entry.flags == 2))

  section_growing : count_by is_autoresize (section_said s n v) ≤ cond (is_growing v) 1 0
  section_growing =
      omega (arith, parts is_autoresize, none_growing, flag_growing (v.entry.flags == 1) (v.entry.flags == 2))

module _ (s : Sizes) (place : ℕ) (v : ConfigVolume) where
  headings : (o : Option LeftOut) → count_by is_heading (said_at s place v o) ≤ 1
  headings None = section_headings s v (line_number (place + 1))
  headings (Some c) = omega arith

  growing : (o : Option LeftOut) → count_by is_autoresize (said_at s place v o) ≤ cond (is_growing v) 1 0
  growing None = section_growing s v (line_number (place + 1))
  growing (Some c) = omega arith

  module _ (w : ConfigVolume) (small : v.id < 2 ^ 32) (other : w.id < 2 ^ 32) (ids : (v.id == w.id) ≡ false)
      (names : same_bytes v.entry.name w.entry.name ≡ false) where
    apart : (o : Option LeftOut) → IsClear (said_at s place v o) w
    apart None =
        let one = v.entry.flags == 1 in
        let two = v.entry.flags == 2 in
        record {
          title = rw (titles_apart v.id w.id (omega (arith, small)) (omega (arith, other)) ids)
              (flag_none (is_titled (title w.id)) refl refl one two);
          id = rw ids (flag_none (gives_id w.id) refl refl one two);
          name = rw names (flag_none (gives_name w.entry.name) refl refl one two);
        }
    apart (Some c) = record { title = refl; id = refl; name = refl }

none_in_both : (p : Line → Bool) (above more : List Line) → list_any p above ≡ false → list_any p more ≡ false
    → list_any p (above ++ more) ≡ false
none_in_both p above more h k = list_any-append p above more ∙ rw (h, k) refl

clear_both : (above more : List Line) (w : ConfigVolume) → IsClear above w → IsClear more w → IsClear (above ++ more) w
clear_both above more w a b = record {
  title = none_in_both (is_titled (title w.id)) above more a.title b.title;
  id = none_in_both (gives_id w.id) above more a.id b.id;
  name = none_in_both (gives_name w.entry.name) above more a.name b.name;
}

module _ (s : Sizes) (place : ℕ) (v : ConfigVolume) (above : List Line) (o : Option LeftOut) (small : v.id < 2 ^ 32) where
  still_clear : (ws : List ConfigVolume) → AllByRecursion (IsSound s) ws → AllByRecursion (IsClear above) ws
      → AllByRecursion (λ y. (v.id == y) ≡ false) (map (λ w. w.id) ws)
      → AllByRecursion (λ y. same_bytes v.entry.name y ≡ false) (map (λ w. w.entry.name) ws)
      → AllByRecursion (IsClear (above ++ said_at s place v o)) ws
  still_clear [] sounds clear ids names = tt
  still_clear (w ∷ ws) sounds clear ids names = (
    clear_both above (said_at s place v o) w clear.0
        (apart s place v w small sounds.0.number ids.0 names.0 o),
    still_clear ws sounds.1 clear.1 ids.1 names.1,
  )

module _ (s : Sizes) (g : IsGeometry s) (grow : Bool) where
  one_volume : (v : ConfigVolume) (place : ℕ) (above : List Line) → IsSound s v → IsClear above v
      → count_by is_heading above < 128 → (grow ≡ true → is_growing v ≡ true → list_any is_autoresize above ≡ false)
      → (o : Option LeftOut) → (o ≡ None → IsSaid grow v) → AreRead place above [] (lines_by s v o) (said_at s place v o)
  one_volume v place above sounds clear few grows None said =
      let is = said refl in
      section_read s g grow v sounds.sound sounds.number is place above clear few
      (λ on. grows (not_both (is_growing v) grow is.grows on) on)
  one_volume v place above sounds clear few grows (Some c) said =
      skip_line place above [] []
      ((codes "# volume " ++ decimal v.id ++ codes " is left out: " ++ left_out_words c) ∷ []) [] (empty_read (line_number place))
      (skip_line (place + 1) above [] _ [] []
      (left_out_read v.id (omega (arith, sounds.number)) c (line_number (place + 1))) refl)

  less : (v : ConfigVolume) (vs : List ConfigVolume) → count_by is_growing (v ∷ vs) ≡ cond (is_growing v) 1 0 + count_by is_growing vs
  less v vs = count_cons is_growing v vs

  growing_one : (b : Bool) → b ≡ true → cond {A = ℕ} b 1 0 ≡ 1
  growing_one true h = refl
  growing_one false h = absurd (cc)

  next_ahead : (v : ConfigVolume) (vs : List ConfigVolume) (place : ℕ) (above : List Line) (o : Option LeftOut)
      → IsSound s v → AllByRecursion (IsSound s) vs
      → AllByRecursion (λ y. (v.id == y) ≡ false) (map (λ w. w.id) vs)
      → AllByRecursion (λ y. same_bytes v.entry.name y ≡ false) (map (λ w. w.entry.name) vs)
      → IsAhead grow above (v ∷ vs) → IsAhead grow (above ++ said_at s place v o) vs
  next_ahead v vs place above o sounds others ids names ahead =
      let begins = count_both is_heading above (said_at s place v o) in
      let grows = count_both is_autoresize above (said_at s place v o) in
      record {
        clear = still_clear s place v above o sounds.number vs others ahead.clear.1 ids names;
        room = omega (arith, begins, headings s place v o, ahead.room);
        grows = λ on. omega (arith, grows, growing s place v o, ahead.grows on, less v vs);
      }

  -- the lines of volumes are read
  pub all_read : (vs : List ConfigVolume) (place : ℕ) (above : List Line) → AllByRecursion (IsSound s) vs
      → IsDistinct (λ a b. a == b) (map (λ w. w.id) vs) → IsDistinct same_bytes (map (λ w. w.entry.name) vs)
      → IsAhead grow above vs
      → AreRead place above [] (flat_map (volume_lines s grow) vs) (said_from s grow place vs)
  unfolding IsDistinct
  all_read [] place above sounds ids names ahead = refl
  all_read (v ∷ vs) place above sounds ids names ahead =
      let o = left_out grow v in
      let said = said_at s place v o in
      let first : AreRead place above [] (volume_lines s grow v) said =
      one_volume v place above sounds.0 ahead.clear.0 (omega (arith, ahead.room))
      (λ on this. none_counted is_autoresize above
      (omega (arith, ahead.grows on, less v vs, growing_one (is_growing v) this))) o (is_said grow v) in
      let next = place + length (volume_lines s grow v) in
      let rest = all_read vs next (above ++ said) sounds.1 ids.1 names.1
      (next_ahead v vs place above o sounds.0 sounds.1 ids.0 names.0 ahead) in
      read-append place above [] (volume_lines s grow v) (flat_map (volume_lines s grow) vs) said
      (said_from s grow next vs) first
      (subst (λ own. AreRead next above own (flat_map (volume_lines s grow) vs) (said_from s grow next vs))
      (append-nil said)
      (read_under next above said [] (flat_map (volume_lines s grow) vs) (said_from s grow next vs) rest))
