-- What an update of a source answers, for what the source of contents may hold: what its file means.
use Rattle.ubi_writing.proofs.Prelude.{Agreed, All, AreCut, AreEditsOf, AreLinesOf, AreNoEdits, ArePlanned, ArePlannedSteps, AreUpdateSteps, Avoided, CutIsEdited, Edit, Err, First, Gives, Global, HasUpdate, IfErr, IfOk, IsAskedAt, IsUpdateCause, IsUpdateError, IsUpdateErrorIn, IsUpdateFault, IsWholeSize, IsWriteFault, Keeps-refl, List, Narrows, NotAll, Ok, Option, Outcome, Result, Sizes, Source, Step, SurvivesCommit, ToolError, UpdateError, UpdateRefusal, UpdatesFrom, Vec, WhereHeld, Wrote, after_text, all_asked, ap, avoiding, edited_in, first_beyond, image_of, inl, inr, length, not_both, of_blocks, plan_lines, programmed, records_of, same_Some, says, steps_done, subst, sym, table_pages, take, told, turn, ℕ, ◌++◌, ◌∙◌, ◌≡◌, AskedEdits}
use Rattle.ubi_writing.specs.inner.Editing.{IsToldOf}
use Rattle.ubi_writing.specs.declared.update.NoEdits.TheVariants as no_edits
use Rattle.ubi_writing.specs.Update as update
use Rattle.ubi_files.specs.declared.outcome.ToolError.TheVariants as tool
use Rattle.ubi_change.specs.declared.errors.UpdateError.TheVariants as error
use Rattle.ubi_change.specs.declared.errors.UpdateRefusal.TheVariants as refusal
use Rattle.ubi_writing.proofs.Cut.{cut_accepts, few_done, wrote_firsts}

module _ (av : Avoided) (w : AskedEdits) (contents : List ℕ) (stop : Option ℕ) (s : Sizes) where
  -- the image after the first steps means the old, or what the edits make of it
  module _ (k : Source) (agrees : Agreed) (es : List Edit) (steps : List Step) (plan : ArePlanned av w contents s k agrees es steps) where
    edited : AreCut s agrees steps (steps_done steps stop)
        → WhereHeld agrees (λ bytes. CutIsEdited (image_of s bytes) av contents es steps (steps_done steps stop))
    edited cut bytes agreed =
        let image = image_of s bytes in
        let is : AreUpdateSteps image av contents es steps = plan.plan.held bytes agreed in
        let a = avoiding av is.from in
        let n = of_blocks edited_in image av.ends a.meaning (all_asked s contents es) in
        let survives : of_blocks SurvivesCommit image a.meaning n steps =
        subst (λ (xs : List Step). of_blocks SurvivesCommit image a.meaning n xs) (sym is.plan) is.facts.survives in
        let j = steps_done steps stop in (
          is.from,
          is.attached,
          cut_accepts image steps j (turn s steps (table_pages s (records_of n))) a.meaning n is.attached.accepted.whole
              (cut bytes agreed) (survives.each j (few_done steps stop)),
        )

    abbrev pub done_firsts : List Step
    done_firsts = take (steps_done steps stop) steps

    pub update_done : (lines : List ℕ) → WhereHeld agrees (λ bytes. AreLinesOf (image_of s bytes) av contents es lines)
        → (r : Result Outcome ToolError) (pages : List ℕ) (old now : Option (List ℕ)) (text : List ℕ) → text ≡ lines ++ plan_lines steps
        → IfOk r (λ o. Gives o (says text 0)) → pages ≡ programmed done_firsts → AreCut s agrees steps (steps_done steps stop)
        → IfOk r (λ _. Wrote agrees old now (after_text s done_firsts) All 0 k.size)
        → IfOk r (UpdatesFrom av w contents stop s k agrees pages old now)
    update_done lines told (Ok o) pages old now text said gives are cut wrote =
        update.planned_from es steps lines plan told (subst (λ (xs : List ℕ). Gives o (says xs 0)) said gives) are
        (wrote_firsts s steps (steps_done steps stop) k agrees old now All k.size wrote) (edited cut)
    update_done lines told (Err e) pages old now text said gives are cut wrote = tt

    pub update_cut : (r : Result Outcome ToolError) (old now : Option (List ℕ)) → IfErr r (IsWriteFault agrees (after_text s done_firsts) old now)
        → IfErr r (IsUpdateFault av w contents stop s k agrees old now)
    update_cut (Ok o) old now h = tt
    update_cut (Err tool.Memory) old now h = h
    update_cut (Err tool.Read) old now h =
        inr (es, steps, plan, (h.0, wrote_firsts s steps (steps_done steps stop) k agrees old now First h.0 h.1))
    update_cut (Err tool.Write) old now h =
        (es, steps, plan, (h.0, wrote_firsts s steps (steps_done steps stop) k agrees old now NotAll h.0 h.1))

  -- what is planned stays so while more is read
  pub planned_later : (k : Source) (old later : Agreed) (es : List Edit) (steps : List Step) → Narrows old later
      → ArePlannedSteps s k old av contents es steps → ArePlannedSteps s k later av contents es steps
  planned_later k old later es steps narrows h =
      record { whole = h.whole; within = h.within; beside = h.beside; held = λ bytes agrees. h.held bytes (narrows bytes agrees) }

  -- what is answered where there are no edits
  pub no_edits_told : (k : Source) (agrees : Agreed) (pages : List ℕ) (old : Option (List ℕ)) (o : Outcome) (text : Vec ℕ Global)
      → AreNoEdits s k agrees w (no_edits.Told text) → Gives o (says text.items 1)
      → UpdatesFrom av w contents stop s k agrees pages old old o
  no_edits_told k agrees pages old o text (inl (c, cause, is)) gives =
      update.refused_from c cause (subst (λ (line : List ℕ). Gives o (says line 1)) is gives) (Keeps-refl _)
  no_edits_told k agrees pages old o text (inr none) gives = update.unasked_from text.items none gives (Keeps-refl _)

  -- where contents can't be read
  pub unread_told : (k : Source) (agrees : Agreed) (pages : List ℕ) (old : Option (List ℕ)) (es : List Edit) (i at : ℕ)
      → WhereHeld agrees (λ bytes. AreEditsOf (image_of s bytes) w es) → WhereHeld agrees (λ bytes. IsAskedAt (image_of s bytes) av es i at)
      → (r : Result Outcome ToolError) → IfOk r (IsToldOf w (error.Contents i)) → IfOk r (UpdatesFrom av w contents stop s k agrees pages old old)
  unread_told k agrees pages old es i at are asked (Ok o) (line, is, gives) =
      update.unread_from es i at are asked (subst (λ (xs : List ℕ). Gives o (says xs 1)) (sym (same_Some _ line is)) gives) (Keeps-refl _)
  unread_told k agrees pages old es i at are asked (Err x) h = tt

  -- and where they aren't planned
  pub unplanned_told : (k : Source) (agrees : Agreed) (pages : List ℕ) (old : Option (List ℕ)) (es : List Edit) (e : UpdateError)
      → WhereHeld agrees (λ bytes. AreEditsOf (image_of s bytes) w es) → IsUpdateErrorIn s k agrees av contents es e
      → (r : Result Outcome ToolError) → IfOk r (IsToldOf w e) → IfOk r (UpdatesFrom av w contents stop s k agrees pages old old)
  unplanned_told k agrees pages old es e are cause (Ok o) (line, is, gives) = update.unplanned_from es e line are cause is gives (Keeps-refl _)
  unplanned_told k agrees pages old es e are cause (Err x) h = tt

  -- why edits aren't planned, for what the source of contents may hold
  module _ (k : Source) (agrees agreed : Agreed) (size at : ℕ) (es : List Edit) (held : agreed contents) (sized : length contents ≡ size) where
    cause_in : (c : UpdateRefusal)
        → IsWholeSize s k.size × WhereHeld agrees (λ bytes. WhereHeld agreed (λ xs. IsUpdateCause (image_of s bytes) av xs es c))
        → IsWholeSize s k.size × WhereHeld agrees (λ bytes. WhereHeld (λ xs. xs ≡ contents) (λ xs. IsUpdateCause (image_of s bytes) av xs es c))
    cause_in c h = (
      h.0,
      λ bytes holds xs is. h.1 bytes holds xs (subst agreed (sym is) held),
    )

    refused_in : (c : UpdateRefusal) → IsUpdateError s k agrees size at agreed av es (error.Refused c)
        → IsUpdateErrorIn s k agrees av contents es (error.Refused c)
    refused_in refusal.Memory h = h
    refused_in (refusal.Attach c) h = h
    refused_in (refusal.Edit i f) h = cause_in (refusal.Edit i f) h
    refused_in (refusal.SameName i j) h = cause_in (refusal.SameName i j) h
    refused_in (refusal.NoSlot i j) h = cause_in (refusal.NoSlot i j) h
    refused_in (refusal.NoSpace i j) h = cause_in (refusal.NoSpace i j) h
    refused_in (refusal.Autoresize i j) h = cause_in (refusal.Autoresize i j) h
    refused_in refusal.NeedsRepair h = cause_in refusal.NeedsRepair h
    refused_in (refusal.WeakCheck n) h = cause_in (refusal.WeakCheck n) h
    refused_in refusal.Exhausted h = cause_in refusal.Exhausted h
    refused_in (refusal.NoFree i j) h = cause_in (refusal.NoFree i j) h

    pub refused_told : (pages : List ℕ) (old : Option (List ℕ)) (e : UpdateError) → WhereHeld agrees (λ bytes. AreEditsOf (image_of s bytes) w es)
        → IsUpdateError s k agrees size at agreed av es e
        → (r : Result Outcome ToolError) → IfOk r (IsToldOf w e) → IfOk r (UpdatesFrom av w contents stop s k agrees pages old old)
    refused_told pages old (error.Contents i) are h r told = unread_told k agrees pages old es i at are h r told
    refused_told pages old (error.Refused c) are h r told = unplanned_told k agrees pages old es (error.Refused c) are (refused_in c h) r told
    refused_told pages old (error.Read p) are h r told = unplanned_told k agrees pages old es (error.Read p) are h r told
    refused_told pages old (error.NotBlank p) are h r told = unplanned_told k agrees pages old es (error.NotBlank p) are h r told
    refused_told pages old (error.Beyond i) are h r told =
        unplanned_told k agrees pages old es (error.Beyond i) are (ap (λ n. first_beyond n es) sized ∙ h) r told

  -- work that was done had a plan
  pub edits_done : (k : Source) (agrees : Agreed) (pages : List ℕ) (old now : Option (List ℕ)) (answer : Result Outcome ToolError)
      → IfOk answer (UpdatesFrom av w contents stop s k agrees pages old now)
      → IfOk answer (λ o. o.status ≡ 0 → HasUpdate av w contents s k agrees)
  edits_done k agrees pages old now (Ok o) (update.planned_from es steps lines plan told said are wrote cut) = λ zero. (es, steps, plan)
  edits_done k agrees pages old now (Ok o) (update.refused_from c cause said kept) = λ zero. absurd (not_both o zero said.status)
  edits_done k agrees pages old now (Ok o) (update.unasked_from line none said kept) = λ zero. absurd (not_both o zero said.status)
  edits_done k agrees pages old now (Ok o) (update.unplanned_from es e line are cause is said kept) =
      λ zero. absurd (not_both o zero said.status)
  edits_done k agrees pages old now (Ok o) (update.unread_from es i at are asked said kept) = λ zero. absurd (not_both o zero said.status)
  edits_done k agrees pages old now (Err e) h = tt
