-- What is known of lines without a cause.
use Rattle.ubi_compose.proofs.Prelude.{◌≡◌, ℕ, ◌==◌, ◌&&◌, Bool, true, false, List, [], ◌∷◌, ◌++◌, refl, sym, ap, ◌∙◌, Option, Some, None, find, is_some, option_map, then_some, AllByRecursion, list_all, option_map_or, option_or, find-append, list_all-append, Sizes, rec_fault, RecFault, VolumeRecord, volume_of, content_cause, heading, later_cause, may_follow, of_volume, suits, SpecCause, Line, record_in_lines}
use Rattle.std.specs.Prelude.{not}
use Rattle.std.specs.Prelude.{cond}
use Rattle.ubi_compose.specs.declared.errors.SpecCause.TheVariants as cause
use Rattle.ubi_compose.specs.declared.line.Line.TheVariants as line
use Rattle.ubi_compose.proofs.VolumeLines.{is_filled, is_sound}
use Rattle.ubi_compose.proofs.Headings.{headed, headings, headings_kept, headings_more, own_kept, own_more, record_headed, record_kept}
use Rattle.ubi_compose.proofs.VolumePlaces.{AreApart, apart_more, equal_number}

-- the records of some headings break no rule
abbrev pub AreRight : Sizes → List (ℕ × VolumeRecord) → Type 0
AreRight s hs = AllByRecursion (λ (e : ℕ × VolumeRecord). rec_fault s e.1 ≡ None) hs

pub record IsSoundText (s : Sizes) (ls : List Line) : Type 0 where
  -- a volume without a record has no line
  pub none : (id : ℕ) → record_in_lines id ls ≡ None → of_volume id ls ≡ []
  -- the lines of a volume suit its record
  pub suited : (id : ℕ) (r : VolumeRecord) → record_in_lines id ls ≡ Some r → list_all (is_sound r) (of_volume id ls) ≡ true
  pub right : AreRight s (headings ls)
  -- no two records are of one volume
  pub apart : AreApart (headings ls)

pub no_lines : (s : Sizes) → IsSoundText s []
unfolding record_in_lines
no_lines s = record { none = λ id h. refl; suited = λ id r h. refl; right = tt; apart = tt }

all_more : (p : Line → Bool) (ls : List Line) (l : Line) → list_all p ls ≡ true → p l ≡ true
    → list_all p (ls ++ l ∷ []) ≡ true
all_more p ls l a h = list_all-append p ls (l ∷ []) ∙ rw (a, h) refl

right_more : (s : Sizes) (hs : List (ℕ × VolumeRecord)) (e : ℕ × VolumeRecord) → AreRight s hs → rec_fault s e.1 ≡ None
    → AreRight s (hs ++ e ∷ [])
right_more s [] e a h = (h, tt)
right_more s (d ∷ hs) e a h = (a.0, right_more s hs e a.1 h)

no_cause : (b : Bool) (c : SpecCause) (o : Option SpecCause) → option_or (then_some (not b) c) o ≡ None → b ≡ true
no_cause true c o h = refl
no_cause false c o h = absurd (cc)

both : (a b : Bool) → (a && b) ≡ true → a ≡ true
both true b h = refl
both false b h = h

suits_if : (s : Sizes) (r : VolumeRecord) (own : List Line) (l : Line) → content_cause s r own l ≡ None
    → suits r.kind l ≡ true
unfolding content_cause
suits_if s r own l h =
    both (suits r.kind l) (may_follow own l) (no_cause (suits r.kind l && may_follow own l) cause.Order _ h)

-- what is wrong with a content line
abbrev pub cause_in : Sizes → List Line → Line → Option SpecCause
cause_in s ls l =
    option_map_or (λ r. content_cause s r (of_volume (volume_of l) ls) l) (record_in_lines (volume_of l) ls)
    (Some cause.Order)

record_if : (s : Sizes) (ls : List Line) (l : Line) (o : Option VolumeRecord)
    → option_map_or (λ r. content_cause s r (of_volume (volume_of l) ls) l) o (Some cause.Order) ≡ None
    → (r : VolumeRecord) × (o ≡ Some r) × (suits r.kind l ≡ true)
record_if s ls l None h = absurd (cc)
record_if s ls l (Some r) h = (r, refl, suits_if s r (of_volume (volume_of l) ls) l h)

none_by : (ls : List Line) (l : Line) (id : ℕ) (r : VolumeRecord) (b : Bool) → (volume_of l == id) ≡ b
    → record_in_lines (volume_of l) ls ≡ Some r
    → record_in_lines id ls ≡ None → of_volume id ls ≡ [] → of_volume id (ls ++ l ∷ []) ≡ []
none_by ls l id r true e h n o =
    let q = ap (λ m. record_in_lines m ls) (equal_number (volume_of l) id e) in absurd (cc (sym h ∙ q ∙ n))
none_by ls l id r false e h n o = own_kept id ls l e ∙ o

suited_by : (ls : List Line) (l : Line) (id : ℕ) (r : VolumeRecord) (b : Bool) → (volume_of l == id) ≡ b
    → ((volume_of l == id) ≡ true → is_sound r l ≡ true)
    → list_all (is_sound r) (of_volume id ls) ≡ true → list_all (is_sound r) (of_volume id (ls ++ l ∷ [])) ≡ true
suited_by ls l id r true e h a =
    ap (list_all (is_sound r)) (own_more id ls l e) ∙ all_more (is_sound r) (of_volume id ls) l a (h e)
suited_by ls l id r false e h a = ap (list_all (is_sound r)) (own_kept id ls l e) ∙ a

-- one content line more
content_kept : (s : Sizes) (ls : List Line) (l : Line) → heading l ≡ None → IsSoundText s ls → is_filled l ≡ true
    → cause_in s ls l ≡ None
    → IsSoundText s (ls ++ l ∷ [])
content_kept s ls l n t f h =
    let at = record_if s ls l (record_in_lines (volume_of l) ls) h in
    let k : headings (ls ++ l ∷ []) ≡ headings ls = headings_kept ls l n in
    let sound : (id : ℕ) (r : VolumeRecord) → record_in_lines id ls ≡ Some r → (volume_of l == id) ≡ true → is_sound r l
    ≡ true =
    λ id r q e.
    let m : record_in_lines (volume_of l) ls ≡ record_in_lines id ls = ap (λ m. record_in_lines m ls) (equal_number (volume_of l) id e) in
    let same : at.0 ≡ r = cc (sym at.1 ∙ m ∙ q) in
    rw (← same, at.2, f) refl in
    record {
      none = λ id q. none_by ls l id at.0 (volume_of l == id) refl at.1 (sym (record_kept id ls l n) ∙ q)
          (t.none id (sym (record_kept id ls l n) ∙ q));
      suited = λ id r q.
          let p : record_in_lines id ls ≡ Some r = sym (record_kept id ls l n) ∙ q in
          suited_by ls l id r (volume_of l == id) refl (sound id r p) (t.suited id r p);
      right = rw k t.right;
      apart = rw k t.apart;
    }

-- one record more
none_found : (o : Option (ℕ × VolumeRecord)) → option_map (λ (e : ℕ × VolumeRecord). e.1) o ≡ None → o ≡ None
none_found None h = refl
none_found (Some e) h = absurd (cc)

pub not_headed : (id : ℕ) (ls : List Line) → record_in_lines id ls ≡ None
    → find (λ (e : ℕ × VolumeRecord). e.0 == id) (headings ls) ≡ None
not_headed id ls h =
    none_found (find (λ (e : ℕ × VolumeRecord). e.0 == id) (headings ls)) (sym (record_headed id ls) ∙ h)

abbrev record_or : Option (ℕ × VolumeRecord) → Bool → ℕ → VolumeRecord → Option VolumeRecord
record_or o b id r = option_map (λ (e : ℕ × VolumeRecord). e.1) (option_or o (cond b (Some (id, r)) None))

pub record_more : (q : ℕ) (ls : List Line) (id : ℕ) (r : VolumeRecord) → record_in_lines q (ls ++ line.Volume id r ∷ [])
    ≡ record_or (find (λ (e : ℕ × VolumeRecord). e.0 == q) (headings ls)) (id == q) id r
record_more q ls id r =
    record_headed q (ls ++ line.Volume id r ∷ []) ∙ ap (headed q) (headings_more ls (line.Volume id r))
    ∙ ap (option_map (λ (e : ℕ × VolumeRecord). e.1))
    (find-append (λ (e : ℕ × VolumeRecord). e.0 == q) (headings ls) ((id, r) ∷ []))

none_or : (o : Option (ℕ × VolumeRecord)) (b : Bool) (id : ℕ) (r : VolumeRecord) → record_or o b id r ≡ None
    → (option_map (λ (e : ℕ × VolumeRecord). e.1) o ≡ None) × (b ≡ false)
none_or None true id r h = absurd (cc)
none_or None false id r h = (refl, refl)
none_or (Some e) b id r h = absurd (cc)

some_or : (o : Option (ℕ × VolumeRecord)) (id : ℕ) (r v : VolumeRecord) → record_or o false id r ≡ Some v
    → option_map (λ (e : ℕ × VolumeRecord). e.1) o ≡ Some v
some_or None id r v h = absurd (cc)
some_or (Some e) id r v h = h

heading_suited : (s : Sizes) (ls : List Line) (id q : ℕ) (r v : VolumeRecord) (b : Bool) → IsSoundText s ls
    → record_in_lines id ls ≡ None → (id == q) ≡ b
    → record_or (find (λ (e : ℕ × VolumeRecord). e.0 == q) (headings ls)) b id r ≡ Some v
    → list_all (is_sound v) (of_volume q (ls ++ line.Volume id r ∷ [])) ≡ true
heading_suited s ls id q r v true t n e h =
    let m : record_in_lines q ls ≡ None = sym (ap (λ k. record_in_lines k ls) (equal_number id q e)) ∙ n in
    ap (list_all (is_sound v))
    (own_more q ls (line.Volume id r) e ∙ ap (λ own. own ++ line.Volume id r ∷ []) (t.none q m))
heading_suited s ls id q r v false t n e h =
    ap (list_all (is_sound v)) (own_kept q ls (line.Volume id r) e)
    ∙ t.suited q v (record_headed q ls ∙ some_or (find (λ (e : ℕ × VolumeRecord). e.0 == q) (headings ls)) id r v h)

heading_kept : (s : Sizes) (ls : List Line) (id : ℕ) (r : VolumeRecord) → IsSoundText s ls → record_in_lines id ls ≡ None
    → rec_fault s r ≡ None
    → IsSoundText s (ls ++ line.Volume id r ∷ [])
heading_kept s ls id r t n f = record {
  none = λ q h.
      let o = none_or (find (λ (e : ℕ × VolumeRecord). e.0 == q) (headings ls)) (id == q) id r
      (sym (record_more q ls id r) ∙ h) in
      own_kept q ls (line.Volume id r) o.1 ∙ t.none q (record_headed q ls ∙ o.0);
  suited = λ q v h. heading_suited s ls id q r v (id == q) t n refl (sym (record_more q ls id r) ∙ h);
  right = rw (headings_more ls (line.Volume id r)) (right_more s (headings ls) (id, r) t.right f);
  apart = rw (headings_more ls (line.Volume id r)) (apart_more (headings ls) (id, r) t.apart (not_headed id ls n));
}

heading_by : (s : Sizes) (ls : List Line) (id : ℕ) (r : VolumeRecord) (o : Option VolumeRecord) (f : Option RecFault)
    → IsSoundText s ls
    → record_in_lines id ls ≡ o → rec_fault s r ≡ f → cond (is_some o) (Some cause.Order) (option_map cause.Record f) ≡ None
    → IsSoundText s (ls ++ line.Volume id r ∷ [])
heading_by s ls id r (Some v) f t n e h = absurd (cc)
heading_by s ls id r None (Some fault) t n e h = absurd (cc)
heading_by s ls id r None None t n e h = heading_kept s ls id r t n e

-- one line more without a cause
pub sound_more : (s : Sizes) (ls : List Line) (l : Line) → IsSoundText s ls → is_filled l ≡ true
    → later_cause s ls l ≡ None → IsSoundText s (ls ++ l ∷ [])
unfolding later_cause
sound_more s ls (line.Volume id r) t f h = heading_by s ls id r (record_in_lines id ls) (rec_fault s r) t refl refl h
sound_more s ls (line.Leb id lnum bytes) t f h = content_kept s ls (line.Leb id lnum bytes) refl t f h
sound_more s ls (line.Text id bytes) t f h = content_kept s ls (line.Text id bytes) refl t f h
sound_more s ls (line.Damaged id) t f h = content_kept s ls (line.Damaged id) refl t f h
sound_more s ls (line.Updating id) t f h = content_kept s ls (line.Updating id) refl t f h
