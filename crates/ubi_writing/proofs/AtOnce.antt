-- How work ends whose output gets all of its bytes at once.
use Rattle.ubi_writing.proofs.Prelude.{◌≡◌, ◌≢◌, ◌∙◌, ℕ, List, Bool, ap, if◌then◌else◌, refl, sym, subst, ForSome, IfSome, Option, codes, Gives, says, Files, Holds, OthersStay, Receives, Stays, full_of, fresh, file_line, WritesInto, WritesPlan, planned, written, Outcome, FinishesAtOnce, Replaces, both_written, no_first_pages, no_last_image, not_replaced, output_unwritten, pages_unwritten, replaced, undone, Plan, Some, Bor, unwritten}
use Rattle.std.proofs.Common.{None}

-- a file was given its bytes, or wasn't
module _ (out : List ℕ) (d e : Files) (answers : Option (List ℕ) → Option (List ℕ) → Outcome → Type 0) (writes : Type 0) where
  pub replaced_into : (bytes : List ℕ) (o lost r : Outcome) → answers (fresh d) (full_of d bytes) o → (o.status ≡ 0 → writes)
      → Gives lost (says (file_line (codes "cannot write ") out) 1) → Replaces out d e bytes o lost r → WritesInto out d e answers writes r
  replaced_into bytes o lost r a some gives (undone bad same) = written (full_of d bytes) a (record {
    done = λ zero. absurd (bad zero);
    refused = λ _. ap (λ (f : Files). f.holds out) same;
  })
  replaced_into bytes o lost r a some gives (replaced zero holds) =
      written (full_of d bytes) a (record { done = λ _. holds; refused = λ bad. absurd (bad zero) })
  replaced_into bytes o lost r a some gives (not_replaced zero same) = unwritten (some zero) gives

-- where it wasn't, all files hold what they held
pub not_lost : (out : List ℕ) (d e : Files) (bytes : List ℕ) (o lost r : Outcome) → Replaces out d e bytes o lost r → r.status ≢ 0 → e ≡ d
not_lost out d e bytes o lost r (undone bad same) fails = same
not_lost out d e bytes o lost r (replaced zero holds) fails = absurd (fails zero)
not_lost out d e bytes o lost r (not_replaced zero same) fails = same

-- what is so for the one path of an option is so for it
pub of_one : (pages : Option (Bor (List ℕ))) (path : Bor (List ℕ)) (holds : List ℕ → Type 0) → pages ≡ Some path → holds path.now
    → ForSome pages (λ p. holds p.now)
of_one pages path holds asked h other is =
    let both : Some path ≡ Some other = sym asked ∙ is in
    let at : path ≡ other = cc in
    subst (λ (p : Bor (List ℕ)). holds p.now) at h

-- the pages of a plan hold what they received, though another file was written since
received_since : (d m e : Files) (pages : List ℕ) (second : Option (Bor (List ℕ))) (out : List ℕ)
    → ForSome second (λ path. Receives d m path.now (Some pages)) → ForSome second (λ path. path.now ≢ out) → OthersStay m e out
    → ForSome second (λ path. Receives d e path.now (Some pages))
received_since d m e pages second out received apart others path is =
    let h = received path is in
    (h.0, h.1, subst (λ (x : Option (List ℕ)). IfSome x (λ bytes. h.0 ≡ Some bytes)) (sym (others path.now (apart path is))) h.2)

-- a plan is done: its pages were written, if there is a path for them, and then its output was given its bytes, or wasn't
pub finished_at_once : (d m e : Files) (plan : Plan) (pages bytes : List ℕ) (o lost r : Outcome) → o.status ≡ 0
    → Gives lost (says (file_line (codes "cannot write ") plan.paths.out.now) 1)
    → ForSome plan.pages (λ path. Receives d m path.now (Some pages)) → ForSome plan.pages (λ path. path.now ≢ plan.paths.out.now)
    → Stays d m plan.paths.out.now → m.tells ≡ d.tells → OthersStay m e plan.paths.out.now
    → Replaces plan.paths.out.now m e bytes o lost r → FinishesAtOnce d e plan pages bytes o r
finished_at_once d m e plan pages bytes o lost r zero gives received apart stays same others (undone bad is) = absurd (bad zero)
finished_at_once d m e plan pages bytes o lost r zero gives received apart stays same others (replaced done holds) =
    both_written (received_since d m e pages plan.pages plan.paths.out.now received apart others)
    (subst (λ (x : Option (List ℕ)). Holds e plan.paths.out.now x) (ap (λ (tells : Bool). if tells then Some bytes else None) same) holds)
finished_at_once d m e plan pages bytes o lost r zero gives received apart stays same others (not_replaced done is) =
    output_unwritten (received_since d m e pages plan.pages plan.paths.out.now received apart others)
    (ap (λ (f : Files). f.holds plan.paths.out.now) is ∙ stays) gives

-- a plan isn't done: no file was written
pub undone_plan : (out : List ℕ) (pages : Option (Bor (List ℕ))) (d : Files)
    (answers : List ℕ → Option (List ℕ) → Option (List ℕ) → Outcome → Type 0) (writes : Type 0) (programmed kept : List ℕ) (o : Outcome)
    → answers programmed (fresh d) (full_of d kept) o → o.status ≢ 0 → WritesPlan out pages d d answers writes o
undone_plan out pages d answers writes programmed kept o a bad =
    planned programmed
    (written (full_of d kept) a (record { done = λ zero. absurd (bad zero); refused = λ _. refl }))
    (λ zero. absurd (bad zero)) (λ _ path is apart. refl)

-- a plan that is done was written, or not
pub finished_plan : (d e : Files) (plan : Plan) (answers : List ℕ → Option (List ℕ) → Option (List ℕ) → Outcome → Type 0) (writes : Type 0)
    (pages bytes : List ℕ) (o r : Outcome) → answers pages (fresh d) (full_of d bytes) o → o.status ≡ 0 → writes
    → FinishesAtOnce d e plan pages bytes o r → WritesPlan plan.paths.out.now plan.pages d e answers writes r
finished_plan d e plan answers writes pages bytes o r a zero some (both_written received holds) =
    planned pages
    (written (full_of d bytes) a (record { done = λ _. holds; refused = λ bad. absurd (bad zero) }))
    (λ _. received) (λ bad. absurd (bad zero))
finished_plan d e plan answers writes pages bytes o r a zero some (pages_unwritten path is stays gives) = no_first_pages path is some stays gives
finished_plan d e plan answers writes pages bytes o r a zero some (output_unwritten received stays gives) =
    no_last_image pages some stays received gives
