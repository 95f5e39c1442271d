-- How work that reads a source, and writes a file meanwhile, ends.
use Rattle.ubi_writing.proofs.Prelude.{◌≡◌, ◌≢◌, ℕ, List, ap, refl, subst, sym, ◌∙◌, IfOk-at_ok, ForSome, IfOk, IsSome, MatchResult, OnErr, Option, Result, Ok, Err, codes, is_some, AllocError, Source, WhereNotDone, after_run, Gives, says, AllStay, Files, Holds, IsKept, IsLeft, fresh, IsEnded, Works, contents_of, file_line, WritesInto, Outcome, ToolError, None, ends, holds_received}
use Rattle.std.specs.Prelude.{Some, true}
use Rattle.ubi_writing.specs.Outputs as outputs
use Rattle.ubi_files.specs.declared.outcome.ToolError.TheVariants as tool

-- where work ended, its file was closed, or was never open
is_left : {F : Type 0} (file : Option F) (d e : Files) (out : List ℕ) (received : Option (List ℕ)) (o : Outcome)
    → (o.status ≡ 0 → is_some file ≡ true) → (o.status ≢ 0 → file ≡ None) → (IsSome file → Holds e out received)
    → (file ≡ None → e.holds out ≡ d.holds out) → IsLeft d e out received o
is_left None d e out received o opened unopened closed stays =
    record { done = λ zero. let h = opened zero in absurd cc; refused = λ bad. stays refl }
is_left (Some f) d e out received o opened unopened closed stays =
    record { done = λ zero. closed refl; refused = λ bad. stays (unopened bad) }

-- a file that wasn't opened before, and where nothing was written, isn't open
unopened_by : {F : Type 0} (answer : Result Outcome ToolError) (o : Outcome) (file : Option F) → answer ≡ Ok o
    → WhereNotDone (file ≡ None) answer → o.status ≢ 0 → file ≡ None
unopened_by answer o file came h = subst (WhereNotDone (file ≡ None)) came h

-- work into a file that was opened late, and closed
module _ (answer : Result Outcome ToolError) (k after : Source) (path out : List ℕ) (d e : Files)
    (answers : Option (List ℕ) → Option (List ℕ) → Outcome → Type 0) (writes : Type 0) where
  pub into_file : {F : Type 0} (contents : F → Option (List ℕ)) (at : F → List ℕ) (key : List ℕ) (empty : Option (List ℕ)) (file : Option F)
      (unread no_output : Outcome) (r : Result Outcome AllocError)
      → out ≡ key → fresh d ≡ empty → ForSome file (λ f. at f ≡ key) → ForSome file (λ f. IsKept d e (at f) (contents f))
      → (file ≡ None → e ≡ d)
      → MatchResult r (IsEnded answer (is_some file) unread no_output) (λ _. answer ≡ Err tool.Memory)
      → IfOk answer (answers empty (contents_of empty contents file)) → IfOk answer (λ o. o.status ≡ 0 → writes)
      → WhereNotDone (file ≡ None) answer → (answer ≡ Err tool.Write → writes) → after ≡ after_run k answer
      → Gives unread (says (file_line (codes "cannot read ") path) 1) → Gives no_output (says (file_line (codes "cannot write ") out) 1)
      → IfOk r (Works k after path (WritesInto out d e answers writes))
  into_file contents at key empty file unread no_output r named same is kept none ended ok finished untouched failed known source output =
      ends answer (is_some file) k after path _ unread no_output r ended
      (λ o came opened. outputs.written (contents_of empty contents file)
      (subst (λ (x : Option (List ℕ)). answers x (contents_of empty contents file) o) (sym same) (IfOk-at_ok _ came ok))
      (is_left file d e out _ o opened (unopened_by answer o file came untouched) (λ some. holds_received contents at d e out key empty file named some is kept)
      (λ nothing. ap (λ (x : Files). x.holds out) (none nothing))))
      (λ o came zero. outputs.unwritten (IfOk-at_ok _ came finished zero) output)
      (λ came. outputs.unwritten (failed came) output)
      known source

-- where memory ran out, no file was opened, and all stay as they were
pub memory_ended : {F : Type 0} (answer : Result Outcome ToolError) (r : Result Outcome AllocError) (is : Outcome → Type 0) (d e : Files)
    (file : Option F) → MatchResult r is (λ _. answer ≡ Err tool.Memory) → WhereNotDone (file ≡ None) answer → (file ≡ None → e ≡ d)
    → OnErr r (AllStay d e)
memory_ended answer (Ok o) is d e file h untouched none = tt
memory_ended answer (Err x) is d e file h untouched none =
    λ path. ap (λ (f : Files). f.holds path) (none (subst (WhereNotDone (file ≡ None)) h untouched))

-- a file that is opened late isn't open where nothing was written
pub still_unopened : {T L F : Type 0} (writer : T → L) (file : L → Option F) (answer : Result Outcome ToolError) (told later : T)
    (late taken ended : L) → writer told ≡ late → file late ≡ None → WhereNotDone (later ≡ told) answer → taken ≡ writer later
    → WhereNotDone (file ended ≡ file taken) answer → WhereNotDone (file ended ≡ None) answer
still_unopened writer file (Ok o) told later late taken ended begun unopened same is stays =
    λ bad. stays bad ∙ ap file (is ∙ ap writer (same bad) ∙ begun) ∙ unopened
still_unopened writer file (Err tool.Memory) told later late taken ended begun unopened same is stays =
    stays ∙ ap file (is ∙ ap writer same ∙ begun) ∙ unopened
still_unopened writer file (Err tool.Read) told later late taken ended begun unopened same is stays = tt
still_unopened writer file (Err tool.Write) told later late taken ended begun unopened same is stays = tt
