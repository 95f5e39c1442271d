-- What the lines of all volumes say are their sections.
use Rattle.ubi_config.proofs.Prelude.{◌≡◌, ◌+◌, ℕ, Bool, true, false, List, [], ◌∷◌, ◌++◌, arith, length, refl, sym, ap, ◌∙◌, ◌==◌, before_first, Option, Some, None, Ok, nat_le, nat_tests, option_or, position_or_len, draft_of, finished, is_heading, Group, groups, line_number, section_fault, section_of, sections_in, ConfigCause, Line, Section, Sizes, VolKind, ◌||◌, ◌&&◌, if◌then◌else◌, take-append_seam, is_static, bytes_reserved, has_words, left_out, path_of, volume_lines, section_at, section_for, sections_at, ConfigVolume, LeftOut}
use Rattle.ubi_media.specs.declared.vid.VolKind.TheVariants as kind
use Rattle.ubi_config.proofs.AllRead.{said_at, said_from}
use Rattle.ubi_config.proofs.CanSay.{IsSaid, image_is, is_said}
use Rattle.ubi_config.proofs.Groups.{fault-append, none_made, one_made, sections-append}
use Rattle.ubi_config.proofs.SectionRead.{body, section_said}
use Rattle.ubi_config.specs.declared.line.Line.TheVariants as line

-- the flags that the line of flags gives
abbrev flags_given : Bool → Bool → ℕ
flags_given a b = if a then 1 else (if b then 2 else 0)

left_true : (a b : Bool) → (a || (false && b)) ≡ true → a ≡ true
left_true true b h = refl
left_true false b h = absurd (cc)

right_true : (a b : Bool) → a ≡ false → (a || (true && b)) ≡ true → b ≡ true
right_true false b h k = k
right_true true b h k = absurd (cc)

-- these are the flags, where a config has words for them
flags_are : (k : VolKind) (flags : ℕ) → has_words k flags ≡ true → (a b : Bool) → (flags == 1) ≡ a → (flags == 2) ≡ b
    → flags_given a b ≡ flags
flags_are k flags h true b one two = grind (arith, nat_tests)
flags_are k flags h false true one two = grind (arith, nat_tests)
flags_are k flags h false false one two =
    let few : nat_le flags 1 ≡ true = left_true (nat_le flags 1) (is_static k) (rw two at h) in
    grind (arith, nat_tests)

skips_static : (k : VolKind) (flags : ℕ) → has_words k flags ≡ true → (flags == 2) ≡ true → is_static k ≡ true
skips_static k flags h two =
    let many : nat_le flags 1 ≡ false = grind (arith, nat_tests) in
    right_true (nat_le flags 1) (is_static k) many (rw two at h)

-- the section that the lines of a volume make
module _ (n id bytes alignment : ℕ) (name path : List ℕ) where
  abbrev made : VolKind → ℕ → Section
  made k flags = record {
    line = n;
    id = id;
    name = name;
    kind = k;
    alignment = alignment;
    flags = flags;
    size = Some bytes;
    image = Some path;
  }

  made_by : (k : VolKind) (a b : Bool) → (a ≡ false → b ≡ true → is_static k ≡ true)
      → section_of (
        n,
        line.Mode ∷ line.Id id ∷ line.Kind k ∷ line.Name name ∷ line.Size bytes ∷ line.Alignment alignment
            ∷ line.Image path
            ∷ (if a then line.Autoresize ∷ [] else (if b then line.SkipCheck ∷ [] else [])),
      )
      ≡ Ok (made k (flags_given a b))
  unfolding finished draft_of
  made_by kind.Static true b h = refl
  made_by kind.Dynamic true b h = refl
  made_by kind.Static false true h = refl
  made_by kind.Dynamic false true h = let static = h refl refl in absurd (cc)
  made_by kind.Static false false h = refl
  made_by kind.Dynamic false false h = refl

of_fields : (n : ℕ) (s : Sizes) (v : ConfigVolume) (flags : ℕ) (image : Option (List ℕ)) → flags ≡ v.entry.flags
    → image ≡ v.image
    → record {
      line = n;
      id = v.id;
      name = v.entry.name;
      kind = v.entry.kind;
      alignment = v.entry.alignment;
      flags = flags;
      size = Some (bytes_reserved s v.entry);
      image = image;
    } ≡ section_for s n v
of_fields n s v flags image h k = rw (h, k) refl

-- the section of a volume that is described
pub section_is : (s : Sizes) (grow : Bool) (v : ConfigVolume) (n : ℕ) → IsSaid grow v
    → section_of (n, body s v) ≡ Ok (section_for s n v)
section_is s grow v n said =
    let static : (v.entry.flags == 1) ≡ false → (v.entry.flags == 2) ≡ true → is_static v.entry.kind ≡ true =
    λ one two. skips_static v.entry.kind v.entry.flags said.flags two in
    made_by n v.id (bytes_reserved s v.entry) v.entry.alignment v.entry.name (path_of v) v.entry.kind
    (v.entry.flags == 1) (v.entry.flags == 2) static
    ∙ ap (λ (x : Section). Ok x)
    (of_fields n s v (flags_given (v.entry.flags == 1) (v.entry.flags == 2)) (Some (path_of v))
    (flags_are v.entry.kind v.entry.flags said.flags (v.entry.flags == 1) (v.entry.flags == 2) refl refl)
    (sym (image_is v said.there)))

begins_by : (s : Sizes) (place : ℕ) (v : ConfigVolume) (rest : List Line) → position_or_len is_heading rest ≡ 0
    → (o : Option LeftOut) → position_or_len is_heading (said_at s place v o ++ rest) ≡ 0
begins_by s place v rest h None = refl
begins_by s place v rest h (Some c) = h

-- what follows a section begins one, or is nothing
begins : (s : Sizes) (grow : Bool) (place : ℕ) (vs : List ConfigVolume)
    → position_or_len is_heading (said_from s grow place vs) ≡ 0
begins s grow place [] = refl
begins s grow place (v ∷ vs) =
    let next = place + length (volume_lines s grow v) in
    begins_by s place v (said_from s grow next vs) (begins s grow next vs) (left_out grow v)

-- the lines of flags begin no section
flags_on : (a b : Bool) (rest : List Line)
    → groups ((if a then line.Autoresize ∷ [] else (if b then line.SkipCheck ∷ [] else [])) ++ rest) ≡ groups rest
flags_on true b rest = refl
flags_on false true rest = refl
flags_on false false rest = refl

flags_before : (a b : Bool) (rest : List Line) → position_or_len is_heading rest ≡ 0
    → position_or_len is_heading ((if a then line.Autoresize ∷ [] else (if b then line.SkipCheck ∷ [] else [])) ++ rest)
    ≡ length (if a then line.Autoresize ∷ [] else (if b then line.SkipCheck ∷ [] else []))
flags_before true b rest h = rw h refl
flags_before false true rest h = rw h refl
flags_before false false rest h = h

module _ (s : Sizes) (n : ℕ) (v : ConfigVolume) (rest : List Line) (h : position_or_len is_heading rest ≡ 0) where
  body_before : position_or_len is_heading (body s v ++ rest) ≡ length (body s v)
  body_before = omega (arith, flags_before (v.entry.flags == 1) (v.entry.flags == 2) rest h)

  body_first : before_first is_heading (body s v ++ rest) ≡ body s v
  body_first = rw body_before (take-append_seam (body s v) rest)

  groups_next : groups (section_said s n v ++ rest) ≡ (n, body s v) ∷ [] ++ groups rest
  groups_next =
      ap (λ (ls : List Line). (n, ls) ∷ groups (body s v ++ rest)) body_first
      ∙ ap (λ (gs : List Group). (n, body s v) ∷ gs) (flags_on (v.entry.flags == 1) (v.entry.flags == 2) rest)

  -- a section more
  pub section_next : (grow : Bool) → IsSaid grow v → section_fault (groups rest) ≡ None
      → (section_fault (groups (section_said s n v ++ rest)) ≡ None)
      × (sections_in (groups (section_said s n v ++ rest)) ≡ section_for s n v ∷ sections_in (groups rest))
  section_next grow said none =
      let one = one_made (n, body s v) (section_for s n v) (section_is s grow v n said) in (
        ap section_fault groups_next
            ∙ fault-append ((n, body s v) ∷ []) (groups rest)
            ∙ ap (λ (o : Option (ℕ × ConfigCause)). option_or o (section_fault (groups rest))) one.0
            ∙ none,
        ap sections_in groups_next
            ∙ sections-append ((n, body s v) ∷ []) (groups rest)
            ∙ ap (λ (ss : List Section). ss ++ sections_in (groups rest)) (sym one.1),
      )

made_next : (s : Sizes) (grow : Bool) (place : ℕ) (v : ConfigVolume) (rest : List Line) (sections : List Section)
    → position_or_len is_heading rest ≡ 0
    → (section_fault (groups rest) ≡ None) × (sections_in (groups rest) ≡ sections)
    → (o : Option LeftOut) → (o ≡ None → IsSaid grow v)
    → (section_fault (groups (said_at s place v o ++ rest)) ≡ None)
    × (sections_in (groups (said_at s place v o ++ rest)) ≡ section_at s place v o ++ sections)
made_next s grow place v rest sections h made None said =
    let next = section_next s (line_number (place + 1)) v rest h grow (said refl) made.0 in
    (next.0, next.1 ∙ ap (λ ss. section_for s (line_number (place + 1)) v ∷ ss) made.1)
made_next s grow place v rest sections h made (Some c) said = made

-- the sections of all volumes
pub all_made : (s : Sizes) (grow : Bool) (vs : List ConfigVolume) (place : ℕ)
    → (section_fault (groups (said_from s grow place vs)) ≡ None)
    × (sections_in (groups (said_from s grow place vs)) ≡ sections_at s grow place vs)
all_made s grow [] place = let none = none_made in (none.0, sym none.1)
all_made s grow (v ∷ vs) place =
    let next = place + length (volume_lines s grow v) in
    made_next s grow place v (said_from s grow next vs) (sections_at s grow next vs) (begins s grow next vs)
    (all_made s grow vs next) (left_out grow v) (is_said grow v)
