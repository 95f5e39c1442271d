-- How work that reads a source, and perhaps writes a file meanwhile, ends.
use Rattle.ubi_dumps.proofs.Prelude.{◌≡◌, ℕ, List, ap, arith, refl, subst, sym, ◌∙◌, IfOk-at_ok, IfOk, IfSome, IsSome, Option, is_some, MatchResult, Result, Ok, Err, codes, AllocError, Sizes, first_broken, Agreed, Narrows, Source, holds, known_by, memory, IsTold, after_left, after_right, after_run, outcome, read_failed, Gives, says, IsEnded, IsUnreadSide, Works, answered, left_failed, no_read, no_source, no_write, right_failed, unopened, Files, IsJudgedOf, Fits, FitsWhole, seen, file_line, sizes_of, IsOpened, OpenImage, IsRead, IsUnseen, OfRead, OfReadDumps, Unread, OfFile, WhereRead, cannot_read, file, no_file, unreadable, whole, Dump, Outcome, SidesError, ToolError, None, Some, done}
use Rattle.ubi_files.specs.OverFile.{places}
use Rattle.std.specs.Prelude.{Bool, true}
use Rattle.ubi_files.specs.declared.open_image.OpenImage.TheVariants as image
use Rattle.ubi_files.specs.declared.outcome.ToolError.TheVariants as tool

-- a file that is there is open
pub is_open : {X : Type 0} → (file : Option X) → IsSome file → is_some file ≡ true
is_open None h = absurd cc
is_open (Some f) h = refl

-- work that came to an outcome ends so
pub after_outcome : (answer : Result Outcome ToolError) (there : Bool) (d unread unwritten o : Outcome) → answer ≡ Ok d
    → IsEnded (Ok d) there unread unwritten o → IsEnded answer there unread unwritten o
after_outcome answer there d unread unwritten o is h =
    subst (λ (a : Result Outcome ToolError). IsEnded a there unread unwritten o) (sym is) h

-- work that failed ends so
pub after_error : (answer : Result Outcome ToolError) (there : Bool) (e : ToolError) (unread unwritten : Outcome)
    (r : Result Outcome AllocError) → answer ≡ Err e
    → MatchResult r (λ o. (b : Bool) → IsEnded (Err e) b unread unwritten o) (λ _. e ≡ tool.Memory)
    → MatchResult r (IsEnded answer there unread unwritten) (λ _. answer ≡ Err tool.Memory)
after_error answer there e unread unwritten (Ok o) is h =
    subst (λ (a : Result Outcome ToolError). IsEnded a there unread unwritten o) (sym is) (h there)
after_error answer there e unread unwritten (Err x) is h = is ∙ ap Err h

module _ (answer : Result Outcome ToolError) (there : Bool) (k after : Source) (path : List ℕ) (answers : Outcome → Type 0)
    (unread unwritten : Outcome) where
  ends_in : (o : Outcome) → IsEnded answer there unread unwritten o
      → ((d : Outcome) → answer ≡ Ok d → (d.status ≡ 0 → there ≡ true) → answers d)
      → ((d : Outcome) → answer ≡ Ok d → d.status ≡ 0 → answers unwritten) → (answer ≡ Err tool.Write → answers unwritten)
      → after ≡ after_run k answer
      → Gives unread (says (file_line (codes "cannot read ") path) 1) → Works k after path answers o
  ends_in o (done is opened) ok late failed known source = answered (known ∙ ap (after_run k) is) (ok o is opened)
  ends_in o (unopened d is zero closed) ok late failed known source =
      answered (known ∙ ap (after_run k) is) (late d is zero)
  ends_in o (no_read is) ok late failed known source = no_source (known ∙ ap (after_run k) is) source
  ends_in o (no_write is) ok late failed known source = answered (known ∙ ap (after_run k) is) (failed is)

  -- the work's answer, and what was to be written where the file failed
  pub ends : (r : Result Outcome AllocError)
      → MatchResult r (IsEnded answer there unread unwritten) (λ _. answer ≡ Err tool.Memory)
      → ((d : Outcome) → answer ≡ Ok d → (d.status ≡ 0 → there ≡ true) → answers d)
      → ((d : Outcome) → answer ≡ Ok d → d.status ≡ 0 → answers unwritten) → (answer ≡ Err tool.Write → answers unwritten)
      → after ≡ after_run k answer → Gives unread (says (file_line (codes "cannot read ") path) 1)
      → IfOk r (Works k after path answers)
  ends (Ok o) h ok late failed known source = ends_in o h ok late failed known source
  ends (Err e) h ok late failed known source = tt

-- work that writes nothing, once it is told
module _ (work : Result Outcome ToolError) (k after : Source) (path : List ℕ) (answers : Outcome → Type 0) where
  works_in : (o : Outcome) → IsTold work path o → after ≡ after_run k work → IfOk work answers → Works k after path answers o
  works_in o (outcome is) known ok = answered (known ∙ ap (after_run k) is) (IfOk-at_ok answers is ok)
  works_in o (read_failed is line) known ok = no_source (known ∙ ap (after_run k) is) line

-- what is known of a source over a dump is known where that is read
module _ (d : Files) (dump : Dump) (path : List ℕ) (known : Source → Agreed → Type 0) where
  pub read_at_places : (k after : Source) (reads : List (ℕ × List ℕ)) → first_broken (sizes_of dump.numbers) ≡ None
      → (k.failures ≡ 0) × (k.held ≡ (seen dump d).holds path) → Fits d dump path → IfSome after.held (known_by after.size reads)
      → after ≡ k → known k (known_by after.size reads) → WhereRead d dump path known
  read_at_places k after reads limits opened fits told is h =
      let here = subst (λ (x : Source). known k (known_by x.size reads)) is h in
      let held = subst (λ (x : Source). IfSome x.held (known_by x.size reads)) is told in
      let named = subst (λ (x : Option (List ℕ)). IfSome x (known_by k.size reads)) opened.1 held in
      places k reads limits opened.0 named fits here

  pub read_by_bytes : (bytes start later : List ℕ) → IsRead (sizes_of dump.numbers) bytes
      → IsJudgedOf (seen dump d) path (sizes_of dump.numbers) bytes → FitsWhole d dump path → start ≡ bytes
      → Narrows (holds start) (holds later) → known (memory start) (holds later) → WhereRead d dump path known
  read_by_bytes bytes start later read named fits is narrows h =
      let held = subst (λ (b : List ℕ). known (memory start) (holds b)) (narrows later refl) h in
      whole bytes read named fits (subst (λ (b : List ℕ). known (memory b) (holds b)) is held)

module _ (d : Files) (dump : Dump) (path : List ℕ) (answers : Sizes → Source → Agreed → Outcome → Type 0) (s : Sizes)
    (same : s ≡ sizes_of dump.numbers) where
  -- what is answered of a file that is known by its reads
  pub at_places : (k after : Source) (reads : List (ℕ × List ℕ)) (o : Outcome)
      → first_broken (sizes_of dump.numbers) ≡ None → (k.failures ≡ 0) × (k.held ≡ (seen dump d).holds path) → Fits d dump path → IfSome after.held (known_by after.size reads)
      → Works k after path (answers s k (known_by after.size reads)) o → OfFile d dump path answers o
  at_places k after reads o limits opened fits told (answered is h) =
      file (read_at_places d dump path (λ x agrees. answers (sizes_of dump.numbers) x agrees o) k after reads limits opened fits told is
      (subst (λ (t : Sizes). answers t k (known_by after.size reads) o) same h))
  at_places k after reads o limits opened fits told (no_source is line) = no_file (unreadable (cannot_read limits line))

  -- and of one that was read whole
  pub by_bytes : (bytes start later : List ℕ) (o : Outcome) → IsRead (sizes_of dump.numbers) bytes
      → IsJudgedOf (seen dump d) path (sizes_of dump.numbers) bytes → FitsWhole d dump path → start ≡ bytes → Narrows (holds start) (holds later)
      → Works (memory start) (memory later) path (answers s (memory start) (holds later)) o
      → OfFile d dump path answers o
  by_bytes bytes start later o read named fits is narrows (answered known h) =
      file (read_by_bytes d dump path (λ x agrees. answers (sizes_of dump.numbers) x agrees o) bytes start later read named fits is narrows
      (subst (λ (t : Sizes). answers t (memory start) (holds later) o) same h))
  by_bytes bytes start later o read named fits is narrows (no_source known line) =
      let e = ap (λ (k : Source). k.failures) known in absurd (omega (arith, e))

  -- of work that writes nothing
  pub told_at_places : (work : Result Outcome ToolError) (k after : Source) (reads : List (ℕ × List ℕ)) (r : Result Outcome AllocError)
      → first_broken (sizes_of dump.numbers) ≡ None → (k.failures ≡ 0) × (k.held ≡ (seen dump d).holds path) → Fits d dump path → IfSome after.held (known_by after.size reads)
      → after ≡ after_run k work → IfOk work (answers s k (known_by after.size reads))
      → IfOk r (IsTold work path) → IfOk r (OfFile d dump path answers)
  told_at_places work k after reads (Ok o) limits opened fits told known ok h =
      at_places k after reads o limits opened fits told (works_in work k after path _ o h known ok)
  told_at_places work k after reads (Err e) limits opened fits told known ok h = tt

  pub told_by_bytes : (work : Result Outcome ToolError) (bytes start later : List ℕ) (r : Result Outcome AllocError)
      → IsRead (sizes_of dump.numbers) bytes → IsJudgedOf (seen dump d) path (sizes_of dump.numbers) bytes → FitsWhole d dump path → start ≡ bytes → Narrows (holds start) (holds later)
      → memory later ≡ after_run (memory start) work
      → IfOk work (answers s (memory start) (holds later))
      → IfOk r (IsTold work path) → IfOk r (OfFile d dump path answers)
  told_by_bytes work bytes start later (Ok o) read named fits is narrows known ok h =
      by_bytes bytes start later o read named fits is narrows (works_in work _ _ path _ o h known ok)
  told_by_bytes work bytes start later (Err e) read named fits is narrows known ok h = tt

  -- of a file that was opened, and of which nothing was read
  pub of_opened : (o : Outcome) → ((k : Source) (agrees : Agreed) → answers s k agrees o) → first_broken (sizes_of dump.numbers) ≡ None
      → (k : Source) (reads : List (ℕ × List ℕ)) → (k.failures ≡ 0) × (k.held ≡ (seen dump d).holds path) → Fits d dump path → IfSome k.held (known_by k.size reads)
      → OfFile d dump path answers o
  of_opened o h limits k reads opened fits told = at_places k k reads o limits opened fits told (answered refl (h k (known_by k.size reads)))

  pub of_whole : (o : Outcome) → ((k : Source) (agrees : Agreed) → answers s k agrees o) → (bytes : List ℕ) → IsRead (sizes_of dump.numbers) bytes
      → IsJudgedOf (seen dump d) path (sizes_of dump.numbers) bytes → FitsWhole d dump path → OfFile d dump path answers o
  of_whole o h bytes read named fits =
      by_bytes bytes bytes bytes o read named fits refl (λ held is. is) (answered refl (h (memory bytes) (holds bytes)))

-- what is answered of a file that was opened, and of which nothing was read
pub of_any : {S : Type 0} (known : S → Source) (reads : S → List (ℕ × List ℕ)) (is : S → Type 0) (d : Files) (dump : Dump) (path : List ℕ)
    (answers : Sizes → Source → Agreed → Outcome → Type 0) (o : Outcome)
    → ((x : S) → IfSome (known x).held (known_by (known x).size (reads x)))
    → ((x : S) → is x → ((known x).failures ≡ 0) × ((known x).held ≡ (seen dump d).holds path))
    → ((k : Source) (agrees : Agreed) → answers (sizes_of dump.numbers) k agrees o) → (opened : OpenImage S)
    → IsOpened is d path dump opened → OfFile d dump path answers o
of_any known reads is d dump path answers o tells unread h (image.AtPlaces placed) was =
    of_opened d dump path answers (sizes_of dump.numbers) refl o h was.1 (known placed.source) (reads placed.source)
    (unread placed.source was.2) was.3 (tells placed.source)
of_any known reads is d dump path answers o tells unread h (image.Whole loaded) was =
    of_whole d dump path answers (sizes_of dump.numbers) refl o h loaded.bytes.items was.1 was.2 was.3

-- what is answered of a file is no less than more
pub OfFile-weaker : (d : Files) (dump : Dump) (path : List ℕ) (P Q : Sizes → Source → Agreed → Outcome → Type 0)
    → ((s : Sizes) (k : Source) (agrees : Agreed) (o : Outcome) → P s k agrees o → Q s k agrees o) → (o : Outcome)
    → OfFile d dump path P o → OfFile d dump path Q o
OfFile-weaker d dump path P Q f o (no_file h) = no_file h
OfFile-weaker d dump path P Q f o (file (whole bytes read named fits h)) = file (whole bytes read named fits (f _ _ _ o h))
OfFile-weaker d dump path P Q f o (file (places k reads limits zero named fits h)) =
    file (places k reads limits zero named fits (f _ _ _ o h))

pub Works-weaker : (k after : Source) (path : List ℕ) (P Q : Outcome → Type 0) → ((o : Outcome) → P o → Q o) → (o : Outcome)
    → Works k after path P o → Works k after path Q o
Works-weaker k after path P Q f o (answered is h) = answered is (f o h)
Works-weaker k after path P Q f o (no_source is line) = no_source is line

-- two facts of what was answered
pub both : {X E : Type 0} (work : Result X E) (P Q : X → Type 0) → IfOk work P → IfOk work Q
    → IfOk work (λ o. P o × Q o)
both (Ok o) P Q p q = (p, q)
both (Err e) P Q p q = tt

-- the outcome of a comparison of a source with a dump that was opened
module _ (work : Result Outcome SidesError) (k after : Source) (left right : List ℕ) (d : Files) (dump : Dump)
    (answers : Sizes → Source → Agreed → Outcome → Type 0) (s : Sizes) (same : s ≡ sizes_of dump.numbers) where
  pub beside_places : (l later : Source) (reads : List (ℕ × List ℕ)) (r : Result Outcome Unread)
      → first_broken (sizes_of dump.numbers) ≡ None → (l.failures ≡ 0) × (l.held ≡ (seen dump d).holds right) → Fits d dump right
      → IfSome later.held (known_by later.size reads) → after ≡ after_left k work → later ≡ after_right l work
      → IfOk work (answers s l (known_by later.size reads)) → IfOk r (λ o. work ≡ Ok o)
      → IfOk r (λ o. (after ≡ k) × OfRead d dump right answers o)
  beside_places l later reads (Ok o) limits opened fits told here there ok is = (
    here ∙ ap (after_left k) is,
    read_at_places d dump right (λ x agrees. answers (sizes_of dump.numbers) x agrees o) l later reads limits opened fits told
        (there ∙ ap (after_right l) is)
        (subst (λ (t : Sizes). answers t l (known_by later.size reads) o) same
        (IfOk-at_ok (answers s l (known_by later.size reads)) is ok)),
  )
  beside_places l later reads (Err e) limits opened fits told here there ok is = tt

  pub beside_bytes : (bytes start later : List ℕ) (r : Result Outcome Unread) → IsRead (sizes_of dump.numbers) bytes
      → IsJudgedOf (seen dump d) right (sizes_of dump.numbers) bytes → FitsWhole d dump right → start ≡ bytes
      → Narrows (holds start) (holds later) → after ≡ after_left k work → IfOk work (answers s (memory start) (holds later))
      → IfOk r (λ o. work ≡ Ok o) → IfOk r (λ o. (after ≡ k) × OfRead d dump right answers o)
  beside_bytes bytes start later (Ok o) read named fits is narrows here ok came = (
    here ∙ ap (after_left k) came,
    read_by_bytes d dump right (λ x agrees. answers (sizes_of dump.numbers) x agrees o) bytes start later read named fits is narrows
        (subst (λ (t : Sizes). answers t (memory start) (holds later) o) same
        (IfOk-at_ok (answers s (memory start) (holds later)) came ok)),
  )
  beside_bytes bytes start later (Err e) read named fits is narrows here ok came = tt

  -- and the line of the side of which a read failed
  pub unread_side : (o : Outcome) → first_broken (sizes_of dump.numbers) ≡ None → after ≡ after_left k work
      → IsUnreadSide work left right o → Works k after left (IsUnseen d dump right) o
  unread_side o limits here (left_failed is line) = no_source (here ∙ ap (after_left k) is) line
  unread_side o limits here (right_failed is line) =
      answered (here ∙ ap (after_left k) is) (unreadable (cannot_read limits line))

-- the outcome of a comparison of a dump that was opened with another one
module _ (d : Files) (dump there : Dump) (path right : List ℕ)
    (answers : Sizes → Source → Agreed → Source → Agreed → Outcome → Type 0) (same : sizes_of there.numbers ≡ sizes_of dump.numbers) where
  -- what is read of the other one, by the sizes of this
  sized : (k : Source) (agrees : Agreed) (o : Outcome) → OfRead d there right (λ s l fits. answers s k agrees l fits) o
      → OfRead d there right (λ _ l fits. answers (sizes_of dump.numbers) k agrees l fits) o
  sized k agrees o h = subst (λ (t : Sizes). OfRead d there right (λ _ l fits. answers t k agrees l fits) o) same h

  pub dumps_at_places : (k after : Source) (reads : List (ℕ × List ℕ)) (o : Outcome) → first_broken (sizes_of dump.numbers) ≡ None
      → (k.failures ≡ 0) × (k.held ≡ (seen dump d).holds path) → Fits d dump path → IfSome after.held (known_by after.size reads)
      → (after ≡ k) × OfRead d there right (λ s l fits. answers s k (known_by after.size reads) l fits) o
      → OfReadDumps d dump path there right answers o
  dumps_at_places k after reads o limits opened fits told h =
      read_at_places d dump path (λ x agrees. OfRead d there right (λ _ l fits. answers (sizes_of dump.numbers) x agrees l fits) o)
      k after reads limits opened fits told h.0 (sized k (known_by after.size reads) o h.1)

  pub dumps_by_bytes : (bytes start later : List ℕ) (o : Outcome) → IsRead (sizes_of dump.numbers) bytes
      → IsJudgedOf (seen dump d) path (sizes_of dump.numbers) bytes → FitsWhole d dump path → start ≡ bytes
      → Narrows (holds start) (holds later) → OfRead d there right (λ s l fits. answers s (memory start) (holds later) l fits) o
      → OfReadDumps d dump path there right answers o
  dumps_by_bytes bytes start later o read named fits is narrows h =
      read_by_bytes d dump path (λ x agrees. OfRead d there right (λ _ l fits. answers (sizes_of dump.numbers) x agrees l fits) o)
      bytes start later read named fits is narrows (sized (memory start) (holds later) o h)
