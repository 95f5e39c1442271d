-- What is answered for edits over memory, and what is handed over of their plans.
use Rattle.ubi_calls.proofs.Prelude.{[], Bool, List, ap, arith, length, subst, sym, take, ℕ, ◌==◌, ◌∙◌, ◌≡◌, ◌≢◌, ne_eqb, take_all, IfOk-at_ok, IfOk-weaker, Err, IfOk, None, Ok, Option, Result, if◌then◌else◌, AllocError, Sizes, first_broken, GeometryError, Gives, says, geometry_line, image_of, Narrows, holds, memory, still, programmed, Step, Outcome, ToolError, ChangesFrom, RenamesFrom, FillsBoth, MayTell, Under, bad_limit, both, neither, named_sizes, DeviceSizes, PlansChange, PlansRename, HandsPlan, given_pages, Avoided, IsNotBlank, ReadBlank, of_blocks}
use Rattle.std.proofs.Common.{Some}
use Rattle.ubi_change.proofs.Unplanned as planning
use Rattle.ubi_change.proofs.Unrenamed as renaming
use Rattle.ubi_writing.specs.Change as change
use Rattle.ubi_writing.specs.Rename as rename
use Rattle.ubi_calls.proofs.ToldOutcomes.{at_sizes}
use Rattle.ubi_calls.specs.Edits as edits

-- where the status is 0 the pages are given
pub given : (status : ℕ) (pages : List ℕ) (steps : List Step) → status ≡ 0 → pages ≡ programmed (take (length steps) steps)
    → given_pages status pages ≡ programmed steps
given status pages steps zero are =
    ap (λ (b : Bool). if b then pages else []) (ap (λ k. k == 0) zero) ∙ are ∙ ap programmed (take_all (length steps) steps (omega arith))

-- and where it isn't, none are
none_given : (status : ℕ) (pages : List ℕ) → status ≢ 0 → given_pages status pages ≡ []
none_given status pages bad = ap (λ (b : Bool). if b then pages else []) (ne_eqb status 0 bad)

-- ---- plans over bytes in memory in which no listed eraseblock holds anything
module _ (s : Sizes) (image start left pages : List ℕ) (same : start ≡ image) (narrows : Narrows (holds start) (holds left))
    (old new : Option (List ℕ)) (av : Avoided) (blank : of_blocks ReadBlank (image_of s image) av) where
  -- so none of them is a cause
  pub none_listed : (p : ℕ) → of_blocks IsNotBlank (image_of s start) av p → ⊥
  none_listed p h =
      let is = subst (λ (b : List ℕ). of_blocks IsNotBlank (image_of s b) av p) same h in is.2 (blank p is.1 is.0)

  change_told : (id lnum : ℕ) (bytes : List ℕ) (o : Outcome)
      → ChangesFrom av id lnum bytes None s (memory start) (holds left) pages old new o
      → PlansChange (image_of s start) av id lnum bytes (given_pages o.status pages) o.text.items o.status
  change_told id lnum bytes o (change.planned_from steps plan said are wrote meant) =
      edits.change steps (plan.held start (still start left narrows)) said.text (given o.status pages steps said.status are) said.status
  change_told id lnum bytes o (change.unplanned_from c line cause is said kept) =
      edits.no_change c (planning.by_cause s start left narrows av id lnum bytes c cause) (is ∙ ap Some (sym said.text)) said.status
  change_told id lnum bytes o (change.not_blank_from p cause said kept) =
      absurd (none_listed p (cause.1 start (still start left narrows)))

  rename_told : (id : ℕ) (word : List ℕ) (o : Outcome)
      → RenamesFrom av id word None s (memory start) (holds left) pages old new o
      → PlansRename (image_of s start) av id word (given_pages o.status pages) o.text.items o.status
  rename_told id word o (rename.planned_from name steps shown plan said are wrote of_name) =
      edits.rename name steps shown (plan.held start (still start left narrows)) said.text (given o.status pages steps said.status are) said.status
  rename_told id word o (rename.nameless_from shows said kept) = edits.no_name shows said.text said.status
  rename_told id word o (rename.unplanned_from name c line shown cause is said kept) =
      edits.no_rename name c shown (renaming.by_cause s start left narrows av id name c cause) (is ∙ ap Some (sym said.text))
      said.status
  rename_told id word o (rename.not_blank_from name p shown cause said kept) =
      absurd (none_listed p (cause.1 start (still start left narrows)))

  module _ (work : Result Outcome ToolError) (r : Result Outcome AllocError) (done : IfOk r (λ o. work ≡ Ok o)) where
    pub change_planned : (id lnum : ℕ) (bytes : List ℕ)
        → IfOk work (ChangesFrom av id lnum bytes None s (memory start) (holds left) pages old new)
        → IfOk r (λ o. PlansChange (image_of s image) av id lnum bytes (given_pages o.status pages) o.text.items o.status)
    change_planned id lnum bytes h =
        IfOk-weaker r _ _ (λ o is. subst (λ (b : List ℕ). PlansChange (image_of s b) av id lnum bytes (given_pages o.status pages) o.text.items o.status) same
        (change_told id lnum bytes o (IfOk-at_ok _ is h))) done

    pub rename_planned : (id : ℕ) (word : List ℕ)
        → IfOk work (RenamesFrom av id word None s (memory start) (holds left) pages old new)
        → IfOk r (λ o. PlansRename (image_of s image) av id word (given_pages o.status pages) o.text.items o.status)
    rename_planned id word h =
        IfOk-weaker r _ _ (λ o is. subst (λ (b : List ℕ). PlansRename (image_of s b) av id word (given_pages o.status pages) o.text.items o.status) same
        (rename_told id word o (IfOk-at_ok _ is h))) done

-- what is told of a plan is handed over
pub fills_both : {old new old_pages new_pages : List ℕ} {len pages_len status : ℕ} (told : List ℕ → MayTell) (pages : List ℕ)
    (r : Result Outcome AllocError) → IfOk r (λ o. told (given_pages o.status pages) o.text.items o.status)
    → HandsPlan r pages old new len old_pages new_pages pages_len status
    → FillsBoth told old new len old_pages new_pages pages_len status
fills_both told pages (Ok o) h given =
    both (given_pages o.status pages) o.text.items o.status h (none_given o.status pages) given.0.0 given.0.1 given.1 given.2 given.0.2
fills_both told pages (Err e) h given = neither given.0.0 given.0.1 given.1 given.2 given.0.2

-- under numbers, with the pages of each
module _ (n : DeviceSizes) (told : List ℕ → Sizes → MayTell) (pages : List ℕ) where
  pub allowed_plan : (s : Sizes) (r : Result Outcome AllocError) → (first_broken (named_sizes n) ≡ None) × (s ≡ named_sizes n)
      → IfOk r (λ o. told (given_pages o.status pages) s o.text.items o.status)
      → IfOk r (λ o. Under n (told (given_pages o.status pages)) o.text.items o.status)
  allowed_plan s r is h = IfOk-weaker r _ _ (λ o a. at_sizes n (told (given_pages o.status pages)) s is o.text.items o.status a) h

  pub limited_plan : (e : GeometryError) (r : Result Outcome AllocError) → first_broken (named_sizes n) ≡ Some e
      → IfOk r (λ o. Gives o (says (geometry_line e) 2)) → IfOk r (λ o. Under n (told (given_pages o.status pages)) o.text.items o.status)
  limited_plan e r is h = IfOk-weaker r _ _ (λ o a. bad_limit e is a.text a.status) h
