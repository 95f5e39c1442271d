-- What a section has from its lines: the number and the name of its volume.
use Rattle.ubi_config.proofs.Prelude.{◌≡◌, ℕ, Bool, true, false, List, [], ◌∷◌, ap, sym, ◌∙◌, refl, ◌==◌, Option, Some, None, Result, Ok, Err, filter_map, fold, then_some, list_any, ok_or, VolKind, is_autoresize, ◌>>=◌, draft_of, finished, no_draft, with_line, Draft, ConfigCause, Line, Section}
use Rattle.ubi_config.specs.declared.line.Line.TheVariants as line
use Rattle.ubi_config.proofs.Distinct.{or_false}

-- the number that a line gives
abbrev pub id_in : Line → Option ℕ
id_in (line.Id id) = Some id
id_in _ = None

-- the name that a line gives
abbrev pub name_in : Line → Option (List ℕ)
name_in (line.Name name) = Some name
name_in _ = None

some_is : {X : Type 0} (q : X → Bool) (m n : X) → Some m ≡ Some n → q m ≡ false → q n ≡ false
some_is q m n s h = let e : m ≡ n = cc in sym (ap q e) ∙ h

no_such : {X : Type 0} (q : X → Bool) (n : X) → None ≡ Some n → q n ≡ false
no_such q n e = absurd (cc)

id_fold : (q : ℕ → Bool) (es : List Line) (d : Draft) (n : ℕ) → list_any q (filter_map id_in es) ≡ false
    → (d.id ≡ Some n → q n ≡ false) → (fold with_line d es).id ≡ Some n → q n ≡ false
id_fold q [] d n h k e = k e
id_fold q (line.Heading m t ∷ es) d n h k e = id_fold q es (with_line d (line.Heading m t)) n h k e
id_fold q (line.Mode ∷ es) d n h k e = id_fold q es (with_line d line.Mode) n h k e
id_fold q (line.Image p ∷ es) d n h k e = id_fold q es (with_line d (line.Image p)) n h k e
id_fold q (line.Id m ∷ es) d n h k e =
    let both = or_false (q m) (list_any q (filter_map id_in es)) h in
    id_fold q es (with_line d (line.Id m)) n both.1 (λ s. some_is q m n s both.0) e
id_fold q (line.Size b ∷ es) d n h k e = id_fold q es (with_line d (line.Size b)) n h k e
id_fold q (line.Kind v ∷ es) d n h k e = id_fold q es (with_line d (line.Kind v)) n h k e
id_fold q (line.Name t ∷ es) d n h k e = id_fold q es (with_line d (line.Name t)) n h k e
id_fold q (line.Autoresize ∷ es) d n h k e = id_fold q es (with_line d line.Autoresize) n h k e
id_fold q (line.SkipCheck ∷ es) d n h k e = id_fold q es (with_line d line.SkipCheck) n h k e
id_fold q (line.Alignment a ∷ es) d n h k e = id_fold q es (with_line d (line.Alignment a)) n h k e

name_fold : (q : List ℕ → Bool) (es : List Line) (d : Draft) (n : List ℕ)
    → list_any q (filter_map name_in es) ≡ false → (d.name ≡ Some n → q n ≡ false)
    → (fold with_line d es).name ≡ Some n → q n ≡ false
name_fold q [] d n h k e = k e
name_fold q (line.Heading m t ∷ es) d n h k e = name_fold q es (with_line d (line.Heading m t)) n h k e
name_fold q (line.Mode ∷ es) d n h k e = name_fold q es (with_line d line.Mode) n h k e
name_fold q (line.Image p ∷ es) d n h k e = name_fold q es (with_line d (line.Image p)) n h k e
name_fold q (line.Id m ∷ es) d n h k e = name_fold q es (with_line d (line.Id m)) n h k e
name_fold q (line.Size b ∷ es) d n h k e = name_fold q es (with_line d (line.Size b)) n h k e
name_fold q (line.Kind v ∷ es) d n h k e = name_fold q es (with_line d (line.Kind v)) n h k e
name_fold q (line.Name t ∷ es) d n h k e =
    let both = or_false (q t) (list_any q (filter_map name_in es)) h in
    name_fold q es (with_line d (line.Name t)) n both.1 (λ s. some_is q t n s both.0) e
name_fold q (line.Autoresize ∷ es) d n h k e = name_fold q es (with_line d line.Autoresize) n h k e
name_fold q (line.SkipCheck ∷ es) d n h k e = name_fold q es (with_line d line.SkipCheck) n h k e
name_fold q (line.Alignment a ∷ es) d n h k e = name_fold q es (with_line d (line.Alignment a)) n h k e

read_fields : (number : ℕ) (m : Bool) (i : Option ℕ) (t : Option (List ℕ))
    (p : Result (Option (List ℕ)) ConfigCause) (v : Result VolKind ConfigCause) (c d e : ConfigCause) (a f : ℕ) (z : Option ℕ)
    (s : Section)
    → (ok_or (then_some m true) c >>=
    (λ (mode : Bool). ok_or i d >>=
    (λ (id : ℕ). ok_or t e >>=
    (λ (name : List ℕ). p >>=
    (λ (image : Option (List ℕ)). v >>=
    (λ (kind : VolKind). Ok
    (let made : Section = record {
      line = number;
      id = id;
      name = name;
      kind = kind;
      alignment = a;
      flags = f;
      size = z;
      image = image;
    } in made))))))) ≡ Ok s
    → (i ≡ Some s.id) × (t ≡ Some s.name) × (f ≡ s.flags)
read_fields number false i t p v c d e a f z s h = absurd (cc)
read_fields number true None t p v c d e a f z s h = absurd (cc)
read_fields number true (Some id) None p v c d e a f z s h = absurd (cc)
read_fields number true (Some id) (Some name) (Err x) v c d e a f z s h = absurd (cc)
read_fields number true (Some id) (Some name) (Ok image) (Err x) c d e a f z s h = absurd (cc)
read_fields number true (Some id) (Some name) (Ok image) (Ok kind) c d e a f z s h =
    let r : Section = record {
      line = number;
      id = id;
      name = name;
      kind = kind;
      alignment = a;
      flags = f;
      size = z;
      image = image;
    } in
    let e : r ≡ s = cc in
    (ap (λ (s : Section). Some s.id) e, ap (λ (s : Section). Some s.name) e, ap (λ (s : Section). s.flags) e)

fields_of : (number : ℕ) (d : Draft) (s : Section) → finished number d ≡ Ok s
    → (d.id ≡ Some s.id) × (d.name ≡ Some s.name) × (d.flags ≡ s.flags)
unfolding finished
fields_of number d s h = read_fields number d.mode d.id d.name _ _ _ _ _ d.alignment d.flags d.size s h

-- a section has a number that one of its lines gives
pub id_given : (number : ℕ) (es : List Line) (s : Section) → finished number (draft_of es) ≡ Ok s → (q : ℕ → Bool)
    → list_any q (filter_map id_in es) ≡ false → q s.id ≡ false
unfolding draft_of
id_given number es s made q none =
    id_fold q es no_draft s.id none (no_such q s.id) (fields_of number (draft_of es) s made).0

-- a section has a name that one of its lines gives
pub name_given : (number : ℕ) (es : List Line) (s : Section) → finished number (draft_of es) ≡ Ok s
    → (q : List ℕ → Bool) → list_any q (filter_map name_in es) ≡ false → q s.name ≡ false
unfolding draft_of
name_given number es s made q none =
    name_fold q es no_draft s.name none (no_such q s.name) (fields_of number (draft_of es) s made).1

flags_fold : (es : List Line) (d : Draft) → list_any is_autoresize es ≡ false → (d.flags == 1) ≡ false
    → ((fold with_line d es).flags == 1) ≡ false
flags_fold [] d h k = k
flags_fold (line.Heading m t ∷ es) d h k = flags_fold es (with_line d (line.Heading m t)) h k
flags_fold (line.Mode ∷ es) d h k = flags_fold es (with_line d line.Mode) h k
flags_fold (line.Image p ∷ es) d h k = flags_fold es (with_line d (line.Image p)) h k
flags_fold (line.Id m ∷ es) d h k = flags_fold es (with_line d (line.Id m)) h k
flags_fold (line.Size b ∷ es) d h k = flags_fold es (with_line d (line.Size b)) h k
flags_fold (line.Kind v ∷ es) d h k = flags_fold es (with_line d (line.Kind v)) h k
flags_fold (line.Name t ∷ es) d h k = flags_fold es (with_line d (line.Name t)) h k
flags_fold (line.Autoresize ∷ es) d h k = absurd (cc)
flags_fold (line.SkipCheck ∷ es) d h k = flags_fold es (with_line d line.SkipCheck) h refl
flags_fold (line.Alignment a ∷ es) d h k = flags_fold es (with_line d (line.Alignment a)) h k

-- a section of which no line lets the volume grow doesn't
pub no_growth : (number : ℕ) (es : List Line) (s : Section) → finished number (draft_of es) ≡ Ok s
    → list_any is_autoresize es ≡ false → (s.flags == 1) ≡ false
unfolding draft_of
no_growth number es s made none =
    ap (λ f. f == 1) (sym (fields_of number (draft_of es) s made).2) ∙ flags_fold es no_draft none refl
