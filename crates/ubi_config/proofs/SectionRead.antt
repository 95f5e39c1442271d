-- The lines of a volume that is described are read, if no line above them says the same of another.
use Rattle.ubi_config.proofs.Prelude.{◌≡◌, ◌<◌, ◌+◌, ◌^◌, ℕ, Bool, true, false, List, [], ◌∷◌, ◌++◌, append-nil, arith, refl, ap, ◌∙◌, ◌==◌, codes, Some, None, Ok, line_of, count_by, list_any, list_any-append, nat_le, nat_tests, rec_fault, Sizes, gives_id, gives_name, heading_cause, is_autoresize, is_heading, is_titled, later_cause, sets, setting_cause, shared_cause, line_number, Key, Line, ◌||◌, if◌then◌else◌, reverse-append, decimal, reverse, take_while, IsGeometry, is_setting, bytes_reserved, flag_lines, is_growing, kind_word, path_of, quoted, section_lines, title, ConfigVolume}
use Rattle.ubi_config.proofs.AreRead.{AreRead, skip_line, take_line}
use Rattle.ubi_config.proofs.CanSay.{IsSaid, alignment_fits, bytes_fit, bytes_some, named}
use Rattle.ubi_config.proofs.WrittenLines.{alignment_read, autoresize_read, empty_read, heading_read, id_read, image_read, kind_read, mode_read, name_read, size_read, skip_check_read}
use Rattle.ubi_config.specs.declared.key.Key.TheVariants as key
use Rattle.ubi_config.specs.declared.line.Line.TheVariants as line

-- what the line of flags says, where there are some
abbrev pub flag_said : ℕ → List Line
flag_said flags = if flags == 1 then line.Autoresize ∷ [] else (if flags == 2 then line.SkipCheck ∷ [] else [])

-- what the lines of a section say that set a key
abbrev pub body : Sizes → ConfigVolume → List Line
body s v =
    line.Mode ∷ line.Id v.id ∷ line.Kind v.entry.kind ∷ line.Name v.entry.name ∷ line.Size (bytes_reserved s v.entry)
    ∷ line.Alignment v.entry.alignment ∷ line.Image (path_of v) ∷ flag_said v.entry.flags

-- what the lines of a section say that begins at a line
abbrev pub section_said : Sizes → ℕ → ConfigVolume → List Line
section_said s n v = line.Heading n (title v.id) ∷ body s v

-- no line above says what those of a volume say
pub record IsClear (above : List Line) (v : ConfigVolume) : Type 0 where
  pub title : list_any (is_titled (title v.id)) above ≡ false
  pub id : list_any (gives_id v.id) above ≡ false
  pub name : list_any (gives_name v.entry.name) above ≡ false

or_true : (a : Bool) → (a || true) ≡ true
or_true true = refl
or_true false = refl

-- a line that begins a section has no fault by those above it
heading_fits : (above : List Line) (n : ℕ) (name : List ℕ) → list_any (is_titled name) above ≡ false
    → count_by is_heading above < 128 → later_cause above (line.Heading n name) ≡ None
unfolding later_cause heading_cause
heading_fits above n name apart few =
    let some : nat_le 128 (count_by is_heading above) ≡ false = grind (arith, nat_tests) in
    rw (apart, some) refl

module _ (above : List Line) (h : Line) (begins : is_heading h ≡ true) (ls : List Line) where
  heading_there : list_any is_heading (above ++ h ∷ ls) ≡ true
  heading_there = list_any-append is_heading above (h ∷ ls) ∙ rw begins (or_true (list_any is_heading above))

  -- a line that sets a key of a section has no fault by those above it
  pub setting_fits : (k : Key) (l : Line)
      → list_any (sets k) (take_while is_setting (reverse (h ∷ ls) ++ reverse above)) ≡ false
      → shared_cause (above ++ h ∷ ls) l ≡ None → setting_cause (above ++ h ∷ ls) k l ≡ None
  unfolding setting_cause
  setting_fits k l apart alone = rw heading_there (rw (reverse-append above (h ∷ ls)) (rw apart (rw alone refl)))

  none_more : (p : Line → Bool) → list_any p above ≡ false → list_any p (h ∷ ls) ≡ false
      → list_any p (above ++ h ∷ ls) ≡ false
  none_more p first second = list_any-append p above (h ∷ ls) ∙ rw (first, second) refl

module _ (place : ℕ) (above own : List Line) where
  flags_by : (a b : Bool) → (a ≡ true → later_cause (above ++ own) line.Autoresize ≡ None)
      → later_cause (above ++ own) line.SkipCheck ≡ None
      → AreRead place above own
      (if a then codes "vol_flags=autoresize" ∷ [] else (if b then codes "vol_flags=skip-check" ∷ [] else []))
      (if a then line.Autoresize ∷ [] else (if b then line.SkipCheck ∷ [] else []))
  flags_by true b grows skips =
      take_line place above own (codes "vol_flags=autoresize") [] line.Autoresize [] (autoresize_read (line_number place))
      (grows refl) refl
  flags_by false true grows skips =
      take_line place above own (codes "vol_flags=skip-check") [] line.SkipCheck [] (skip_check_read (line_number place))
      skips refl
  flags_by false false grows skips = refl

module _ (s : Sizes) (g : IsGeometry s) (grow : Bool) (v : ConfigVolume) (sound : rec_fault s v.entry ≡ None)
    (number : v.id < 2 ^ 32) (said : IsSaid grow v) (place : ℕ) (above : List Line) (clear : IsClear above v)
    (few : count_by is_heading above < 128) (grows : is_growing v ≡ true → list_any is_autoresize above ≡ false) where
  abbrev first : Line
  first = line.Heading (line_number (place + 1)) (title v.id)

  abbrev front : List Line
  front =
      first ∷ line.Mode ∷ line.Id v.id ∷ line.Kind v.entry.kind ∷ line.Name v.entry.name
      ∷ line.Size (bytes_reserved s v.entry) ∷ line.Alignment v.entry.alignment ∷ line.Image (path_of v) ∷ []

  fits : (ls : List Line) (k : Key) (l : Line)
      → list_any (sets k) (take_while is_setting (reverse (first ∷ ls) ++ reverse above)) ≡ false
      → shared_cause (above ++ first ∷ ls) l ≡ None → setting_cause (above ++ first ∷ ls) k l ≡ None
  fits ls k l apart alone = setting_fits above first refl ls k l apart alone

  autoresize_fits : is_growing v ≡ true → later_cause (above ++ front) line.Autoresize ≡ None
  unfolding later_cause
  autoresize_fits on =
      fits _ key.Flags line.Autoresize refl
      (rw (none_more above first refl _ is_autoresize (grows on) refl) refl)

  skip_check_fits : later_cause (above ++ front) line.SkipCheck ≡ None
  unfolding later_cause
  skip_check_fits = fits _ key.Flags line.SkipCheck refl refl

  small : v.id < 2 ^ 64
  small = omega (arith, number)

  bytes_small : bytes_reserved s v.entry < 2 ^ 64
  bytes_small = omega (arith, bytes_fit s g v.entry sound)

  alignment_small : v.entry.alignment < 2 ^ 64
  alignment_small = omega (arith, alignment_fits s g v.entry sound)

  title_fits : later_cause (above ++ []) first ≡ None
  title_fits =
      ap (λ ls. later_cause ls first) (append-nil above)
      ∙ heading_fits above (line_number (place + 1)) (title v.id) clear.title few

  mode_fits : later_cause (above ++ first ∷ []) line.Mode ≡ None
  unfolding later_cause
  mode_fits = fits [] key.Mode line.Mode refl refl

  id_fits : later_cause (above ++ first ∷ line.Mode ∷ []) (line.Id v.id) ≡ None
  unfolding later_cause
  id_fits =
      fits _ key.Id (line.Id v.id) refl
      (rw (none_more above first refl (line.Mode ∷ []) (gives_id v.id) clear.id refl) refl)

  kind_fits : later_cause (above ++ first ∷ line.Mode ∷ line.Id v.id ∷ []) (line.Kind v.entry.kind) ≡ None
  unfolding later_cause
  kind_fits = fits _ key.Kind (line.Kind v.entry.kind) refl refl

  name_fits : later_cause (above ++ first ∷ line.Mode ∷ line.Id v.id ∷ line.Kind v.entry.kind ∷ []) (line.Name v.entry.name)
      ≡ None
  unfolding later_cause
  name_fits =
      fits _ key.Name (line.Name v.entry.name) refl
      (rw (none_more above first refl (line.Mode ∷ line.Id v.id ∷ line.Kind v.entry.kind ∷ []) (gives_name v.entry.name)
      clear.name refl) refl)

  size_fits : later_cause
      (above ++ first ∷ line.Mode ∷ line.Id v.id ∷ line.Kind v.entry.kind ∷ line.Name v.entry.name ∷ [])
      (line.Size (bytes_reserved s v.entry)) ≡ None
  unfolding later_cause
  size_fits = fits _ key.Size (line.Size (bytes_reserved s v.entry)) refl refl

  alignment_may : later_cause
      (above ++ first ∷ line.Mode ∷ line.Id v.id ∷ line.Kind v.entry.kind ∷ line.Name v.entry.name
      ∷ line.Size (bytes_reserved s v.entry) ∷ [])
      (line.Alignment v.entry.alignment) ≡ None
  unfolding later_cause
  alignment_may = fits _ key.Alignment (line.Alignment v.entry.alignment) refl refl

  image_fits : later_cause
      (above ++ first ∷ line.Mode ∷ line.Id v.id ∷ line.Kind v.entry.kind ∷ line.Name v.entry.name
      ∷ line.Size (bytes_reserved s v.entry) ∷ line.Alignment v.entry.alignment ∷ [])
      (line.Image (path_of v)) ≡ None
  unfolding later_cause
  image_fits = fits _ key.Image (line.Image (path_of v)) refl refl

  size_line : (n : ℕ) → line_of n (codes "vol_size=" ++ decimal (bytes_reserved s v.entry))
      ≡ Ok (Some (line.Size (bytes_reserved s v.entry)))
  size_line n =
      size_read n (bytes_reserved s v.entry) bytes_small (bytes_some s g v.entry sound) (bytes_fit s g v.entry sound)

  abbrev lines8 : List (List ℕ)
  lines8 = flag_lines v.entry.flags

  abbrev says8 : List Line
  says8 = flag_said v.entry.flags

  abbrev lines7 : List (List ℕ)
  lines7 = (codes "image=" ++ quoted (path_of v)) ∷ lines8

  abbrev says7 : List Line
  says7 = (line.Image (path_of v)) ∷ says8

  abbrev lines6 : List (List ℕ)
  lines6 = (codes "vol_alignment=" ++ decimal v.entry.alignment) ∷ lines7

  abbrev says6 : List Line
  says6 = (line.Alignment v.entry.alignment) ∷ says7

  abbrev lines5 : List (List ℕ)
  lines5 = (codes "vol_size=" ++ decimal (bytes_reserved s v.entry)) ∷ lines6

  abbrev says5 : List Line
  says5 = (line.Size (bytes_reserved s v.entry)) ∷ says6

  abbrev lines4 : List (List ℕ)
  lines4 = (codes "vol_name=" ++ quoted v.entry.name) ∷ lines5

  abbrev says4 : List Line
  says4 = (line.Name v.entry.name) ∷ says5

  abbrev lines3 : List (List ℕ)
  lines3 = (codes "vol_type=" ++ kind_word v.entry.kind) ∷ lines4

  abbrev says3 : List Line
  says3 = (line.Kind v.entry.kind) ∷ says4

  abbrev lines2 : List (List ℕ)
  lines2 = (codes "vol_id=" ++ decimal v.id) ∷ lines3

  abbrev says2 : List Line
  says2 = (line.Id v.id) ∷ says3

  abbrev lines1 : List (List ℕ)
  lines1 = (codes "mode=ubi") ∷ lines2

  abbrev says1 : List Line
  says1 = line.Mode ∷ says2

  pub section_read : AreRead place above [] (section_lines s v) (section_said s (line_number (place + 1)) v)
  section_read =
      skip_line place above [] [] ((codes "[" ++ title v.id ++ codes "]") ∷ lines1) (first ∷ says1) (empty_read (line_number place))
      (take_line (place + 1) above ([]) (codes "[" ++ title v.id ++ codes "]") lines1 (first) says1
      (heading_read (line_number (place + 1)) v.id small) title_fits
      (take_line (place + 1 + 1) above (first ∷ []) (codes "mode=ubi") lines2 (line.Mode) says2
      (mode_read (line_number (place + 1 + 1))) mode_fits
      (take_line (place + 1 + 1 + 1) above (first ∷ line.Mode ∷ []) (codes "vol_id=" ++ decimal v.id) lines3 (line.Id v.id) says3
      (id_read (line_number (place + 1 + 1 + 1)) v.id small (omega (arith, number))) id_fits
      (take_line (place + 1 + 1 + 1 + 1) above (first ∷ line.Mode ∷ line.Id v.id ∷ []) (codes "vol_type=" ++ kind_word v.entry.kind) lines4 (line.Kind v.entry.kind) says4
      (kind_read (line_number (place + 1 + 1 + 1 + 1)) v.entry.kind) kind_fits
      (take_line (place + 1 + 1 + 1 + 1 + 1) above (first ∷ line.Mode ∷ line.Id v.id ∷ line.Kind v.entry.kind ∷ []) (codes "vol_name=" ++ quoted v.entry.name) lines5 (line.Name v.entry.name) says5
      (name_read (line_number (place + 1 + 1 + 1 + 1 + 1)) v.entry.name said.name (named s g v.entry sound)) name_fits
      (take_line (place + 1 + 1 + 1 + 1 + 1 + 1) above (first ∷ line.Mode ∷ line.Id v.id ∷ line.Kind v.entry.kind ∷ line.Name v.entry.name ∷ []) (codes "vol_size=" ++ decimal (bytes_reserved s v.entry)) lines6 (line.Size (bytes_reserved s v.entry)) says6
      (size_line (line_number (place + 1 + 1 + 1 + 1 + 1 + 1))) size_fits
      (take_line (place + 1 + 1 + 1 + 1 + 1 + 1 + 1) above (first ∷ line.Mode ∷ line.Id v.id ∷ line.Kind v.entry.kind ∷ line.Name v.entry.name ∷ line.Size (bytes_reserved s v.entry) ∷ []) (codes "vol_alignment=" ++ decimal v.entry.alignment) lines7 (line.Alignment v.entry.alignment) says7
      (alignment_read (line_number (place + 1 + 1 + 1 + 1 + 1 + 1 + 1)) v.entry.alignment alignment_small
      (alignment_fits s g v.entry sound)) alignment_may
      (take_line (place + 1 + 1 + 1 + 1 + 1 + 1 + 1 + 1) above (first ∷ line.Mode ∷ line.Id v.id ∷ line.Kind v.entry.kind ∷ line.Name v.entry.name ∷ line.Size (bytes_reserved s v.entry) ∷ line.Alignment v.entry.alignment ∷ []) (codes "image=" ++ quoted (path_of v)) lines8 (line.Image (path_of v)) says8
      (image_read (line_number (place + 1 + 1 + 1 + 1 + 1 + 1 + 1 + 1)) (path_of v) said.path) image_fits
      (flags_by (place + 1 + 1 + 1 + 1 + 1 + 1 + 1 + 1 + 1) above front (v.entry.flags == 1) (v.entry.flags == 2)
      autoresize_fits skip_check_fits)))))))))
