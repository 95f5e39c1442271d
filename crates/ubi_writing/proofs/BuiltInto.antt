-- How a build into a file ends.
use Rattle.ubi_writing.proofs.Prelude.{Agreed, All, AllByRecursion, AllStay, AllocError, Answers, AreAnswers, AreBesideOut, AreGathered, BuildError, Builds, BuildsParts, CanBuild, Contains, Err, Files, ForSome, HaveImage, HaveMeaning, IfErr, IfOk, IfSome, IsBuildError, IsKept, IsNotBegun, IsOk, IsSome, IsToldOf, IsUnreadLine, List, Ok, OnErr, Option, Outcome, Part, Parts, Result, Section, Sizes, Source, WhereNotBegun, Wrote, [], ap, arith, built, contents_of, first_config_fault, fresh, gathered, get_or, image_built, image_paths, inl, inr, known_after, known_by, length, numbered_parts, refl, row_bytes, sections_of, subst, suc, sym, zero, ℕ, ◌<◌, ◌∙◌, ◌∷◌, ◌≡◌, ◌⊎◌, None, holds_received}
use Rattle.ubi_writing.specs.Build.{crowded, unread, unwritten}
use Rattle.ubi_compose.specs.declared.errors.BuildError.TheVariants as build

-- what holds of each element holds of one
all_of : {X : Type 0} (P : X → Type 0) (xs : List X) (k : ℕ) (x : X) → k < length xs → get_or xs k x ≡ x → AllByRecursion P xs → P x
all_of P [] k x inside here all = absurd (omega (arith, inside))
all_of P (y ∷ ys) zero x inside here all = subst P here all.0
all_of P (y ∷ ys) (suc k) x inside here all = all_of P ys k x (omega (arith, inside)) here all.1

-- the line of a volume whose bytes can't be read names a file
pub unread_line : (config out : List ℕ) (sections : List Section) (a : Answers) → AreAnswers config out sections a → (o : Outcome)
    → Contains (a.unread_else ∷ a.unread.items) o
    → (path : List ℕ) × Contains (config ∷ image_paths config sections) path × IsUnreadLine path o
unread_line config out sections a are o among =
    all_of (λ o. (path : List ℕ) × Contains (config ∷ image_paths config sections) path × IsUnreadLine path o) (a.unread_else ∷ a.unread.items)
    among.0 o among.1 among.2 ((config, (0, omega arith, refl), are.unread_else), are.unread)

-- a build leaves it as it was what a source is promised to hold
pub held_after : {A : Type 0} (k : Source) (r : Result A BuildError) → (known_after k r).held ≡ k.held
held_after k (Ok x) = refl
held_after k (Err build.TooMany) = refl
held_after k (Err (build.Beyond id)) = refl
held_after k (Err build.Memory) = refl
held_after k (Err (build.Read id n)) = refl
held_after k (Err (build.Write n)) = refl

-- nothing was written at all where a first call wrote nothing, and then a second
pub not_begun : (e : BuildError) (P Q R : Type 0) → (P → Q → R) → WhereNotBegun P e → WhereNotBegun Q e → WhereNotBegun R e
not_begun build.TooMany P Q R f p q = f p q
not_begun (build.Beyond id) P Q R f p q = f p q
not_begun build.Memory P Q R f p q = f p q
not_begun (build.Read id n) P Q R f p q = tt
not_begun (build.Write n) P Q R f p q = tt

-- a file that wasn't open before is not where nothing was written
pub still_unopened : {L F : Type 0} (file : L → Option F) (work end : Result ℕ BuildError) (late made ended : L) → file late ≡ None
    → IfErr work (WhereNotBegun (made ≡ late)) → IfErr end (λ e. (work ≡ Err e) ⊎ ((n : ℕ) × (e ≡ build.Write n) × (work ≡ Ok n)))
    → IfErr end (WhereNotBegun (file ended ≡ file made)) → IfErr end (WhereNotBegun (file ended ≡ None))
still_unopened file work (Ok n) late made ended unopened begun failed stays = tt
still_unopened file work (Err e) late made ended unopened begun (inl is) stays =
    not_begun e _ _ _ (λ same was. same ∙ ap file was ∙ unopened) stays
    (subst (λ (w : Result ℕ BuildError). IfErr w (WhereNotBegun (made ≡ late))) is begun)
still_unopened file work (Err e) late made ended unopened begun (inr is) stays =
    subst (WhereNotBegun (file ended ≡ None)) (sym is.1) tt

-- where memory ran out nothing was written, and each path holds what it held
pub memory_ends : {F : Type 0} (end : Result ℕ BuildError) (r : Result Outcome AllocError) (file : Option F) (d e : Files)
    → OnErr r (IfErr end IsNotBegun) → IfOk end (λ _. IsOk r) → IfErr end (WhereNotBegun (file ≡ None)) → (file ≡ None → e ≡ d)
    → OnErr r (AllStay d e)
memory_ends end (Ok o) file d e not_yet done begun none = tt
memory_ends (Ok n) (Err x) file d e not_yet done begun none = let bad = done in absurd cc
memory_ends (Err build.TooMany) (Err x) file d e not_yet done begun none = λ path. ap (λ (f : Files). f.holds path) (none begun)
memory_ends (Err build.Memory) (Err x) file d e not_yet done begun none = λ path. ap (λ (f : Files). f.holds path) (none begun)
memory_ends (Err (build.Beyond id)) (Err x) file d e not_yet done begun none = λ path. ap (λ (f : Files). f.holds path) (none begun)
memory_ends (Err (build.Read id n)) (Err x) file d e not_yet done begun none = absurd not_yet
memory_ends (Err (build.Write n)) (Err x) file d e not_yet done begun none = absurd not_yet

-- what is answered of a build into a file that was opened late, and closed
module _ {F : Type 0} (contents : F → Option (List ℕ)) (at : F → List ℕ) (d e : Files) (config out : List ℕ) (sections : List Section) (ps : Parts)
    (held : Option (List ℕ)) (spares : ℕ) (key : List ℕ) (empty : Option (List ℕ)) (file : Option F) (size : ℕ) (reads : List (ℕ × List ℕ))
    (means : HaveMeaning ps) (named : out ≡ key) (same : fresh d ≡ empty) (is : ForSome file (λ f. at f ≡ key)) (kept : ForSome file (λ f. IsKept d e (at f) (contents f)))
    (none : file ≡ None → e ≡ d) (holds : IfSome held (known_by size reads)) where
  -- how the work ended says whether the device has room
  room_done : (k : Source) (work : Result ℕ BuildError) (n : ℕ) → IfOk work (λ _. CanBuild ps spares k.size) → work ≡ Ok n
      → HaveImage ps spares
  room_done k work n whole is = record {
    meaning = means;
    room = (subst (λ (w : Result ℕ BuildError). IfOk w (λ _. CanBuild ps spares k.size)) is whole).room;
  }

  refused_so : (k : Source) (agrees : Agreed) (was now : Option (List ℕ)) (work : Result ℕ BuildError) (x : BuildError)
      → IfErr work (IsBuildError ps spares k agrees was now) → work ≡ Err x → IsBuildError ps spares k agrees was now x
  refused_so k agrees was now work x refused is =
      subst (λ (w : Result ℕ BuildError). IfErr w (IsBuildError ps spares k agrees was now)) is refused

  ends_in : (o : Outcome) (k : Source) (agrees : Agreed) (was now : Option (List ℕ)) (work end : Result ℕ BuildError)
      → IfOk work (Wrote (known_by size reads) empty (contents_of empty contents file) (image_built ps spares) All 0)
      → IfOk work (λ _. CanBuild ps spares k.size) → IfErr work (IsBuildError ps spares k agrees was now)
      → IfOk end (λ n. (work ≡ Ok n) × IsSome file)
      → IfErr end (λ x. (work ≡ Err x) ⊎ ((n : ℕ) × (x ≡ build.Write n) × (work ≡ Ok n)))
      → IfErr end (WhereNotBegun (file ≡ None)) → IsToldOf ps.sizes config out sections end o
      → BuildsParts d e config out sections ps held spares o
  ends_in o k agrees was now work (Ok n) written whole refused done failed begun told =
      built size n reads (contents_of empty contents file) (room_done k work n whole done.0) holds
      (subst (λ (x : Option (List ℕ)). Wrote (known_by size reads) x (contents_of empty contents file) (image_built ps spares) All 0 n) (sym same)
      (subst (λ (w : Result ℕ BuildError). IfOk w (Wrote (known_by size reads) empty (contents_of empty contents file) (image_built ps spares) All 0)) done.0 written))
      (holds_received contents at d e out key empty file named done.1 is kept) told
  ends_in o k agrees was now work (Err build.TooMany) written whole refused done (inl came) begun told =
      crowded means (refused_so k agrees was now work build.TooMany refused came) told (λ path. ap (λ (f : Files). f.holds path) (none begun))
  ends_in o k agrees was now work (Err build.TooMany) written whole refused done (inr came) begun told =
      let bad = came.1 in absurd cc
  ends_in o k agrees was now work (Err build.Memory) written whole refused done failed begun told = absurd told
  ends_in o k agrees was now work (Err (build.Write n)) written whole refused done (inl came) begun told =
      unwritten (record { meaning = means; room = (refused_so k agrees was now work (build.Write n) refused came).0.room }) told
  ends_in o k agrees was now work (Err (build.Write n)) written whole refused done (inr came) begun told =
      unwritten (room_done k work came.0 whole came.2) told
  ends_in o k agrees was now work (Err (build.Read id n)) written whole refused done (inl came) begun told =
      unread told.0 (record { meaning = means; room = (refused_so k agrees was now work (build.Read id n) refused came).0.room }) told.1 told.2
  ends_in o k agrees was now work (Err (build.Read id n)) written whole refused done (inr came) begun told =
      let bad = came.1 in absurd cc
  ends_in o k agrees was now work (Err (build.Beyond id)) written whole refused done (inl came) begun told =
      unread told.0 (record { meaning = means; room = (refused_so k agrees was now work (build.Beyond id) refused came).0 }) told.1 told.2
  ends_in o k agrees was now work (Err (build.Beyond id)) written whole refused done (inr came) begun told =
      let bad = came.1 in absurd cc

  pub build_ends : (r : Result Outcome AllocError) (k : Source) (agrees : Agreed) (was now : Option (List ℕ)) (work end : Result ℕ BuildError)
      → IfOk work (Wrote (known_by size reads) empty (contents_of empty contents file) (image_built ps spares) All 0)
      → IfOk work (λ _. CanBuild ps spares k.size) → IfErr work (IsBuildError ps spares k agrees was now)
      → IfOk end (λ n. (work ≡ Ok n) × IsSome file)
      → IfErr end (λ x. (work ≡ Err x) ⊎ ((n : ℕ) × (x ≡ build.Write n) × (work ≡ Ok n)))
      → IfErr end (WhereNotBegun (file ≡ None)) → IfOk r (IsToldOf ps.sizes config out sections end)
      → IfOk r (BuildsParts d e config out sections ps held spares)
  build_ends (Ok o) k agrees was now work end written whole refused done failed begun told =
      ends_in o k agrees was now work end written whole refused done failed begun told
  build_ends (Err x) k agrees was now work end written whole refused done failed begun told = tt

-- what is answered of the sections of a text that were gathered
pub of_gathered : (d e : Files) (config out : List ℕ) (s : Sizes) (text : List ℕ) (spares seq : ℕ) (xs : List Section) (parts : List Part)
    (held : List (Option (List ℕ))) (o : Outcome) → first_config_fault text ≡ None → xs ≡ sections_of text → AreGathered d s config xs parts held
    → AreBesideOut config out xs → BuildsParts d e config out xs (numbered_parts s seq parts) (row_bytes held) spares o
    → Builds d e config out s text spares seq o
of_gathered d e config out s text spares seq xs parts held o none same are apart h =
    gathered parts held none (subst (λ (ys : List Section). AreGathered d s config ys parts held) same are)
    (subst (AreBesideOut config out) same apart)
    (subst (λ (ys : List Section). BuildsParts d e config out ys (numbered_parts s seq parts) (row_bytes held) spares o) same h)
