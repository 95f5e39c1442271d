-- What is answered for edits of whole volumes over memory, for which a text asks.
use Rattle.ubi_calls.proofs.Prelude.{List, ap, length, refl, subst, sym, ℕ, ◌∙◌, ◌≡◌, None, Option, Result, Ok, Err, IfOk, IfOk-at_ok, AllocError, ToolError, Sizes, image_of, Narrows, holds, memory, still, Avoided, ReadBlank, of_blocks, Outcome, given_pages, OnOk, is_err, none-some, same_Some, IsWholeSize, WhereHeld, never_accepted_and_refused, refused_in_memory, IsUpdateCause, IsUpdateErrorIn, Edit, UpdateError, UpdateRefusal, AreEditsOf, UpdatesFrom, error_line, update_line, Ask, AreAsksOf, PlansUpdate, by_words}
use Rattle.std.proofs.Common.{Some}
use Rattle.std.specs.Prelude.{codes}
use Rattle.std.specs.Prelude.{◌++◌, false}
use Rattle.ubi_change.specs.declared.errors.UpdateError.TheVariants as error
use Rattle.ubi_change.specs.declared.errors.UpdateRefusal.TheVariants as refusal
use Rattle.ubi_writing.specs.Update as update
use Rattle.ubi_calls.proofs.Edited.{given, none_listed}
use Rattle.ubi_calls.proofs.EditsFit.{none_beyond}
use Rattle.ubi_calls.specs.Edits as edits

module _ (s : Sizes) (image start left pages : List ℕ) (same : start ≡ image) (narrows : Narrows (holds start) (holds left))
    (old new : Option (List ℕ)) (av : Avoided) (blank : of_blocks ReadBlank (image_of s image) av) (asks : List Ask) (text contents : List ℕ)
    (asked : AreAsksOf text (length contents) asks) where
  -- contents in memory aren't unread
  abbrev NeverUnread : Outcome → Type 0
  NeverUnread o = (path : List ℕ) → o.text.items ≡ codes "cannot read " ++ path → ⊥

  held : holds left start
  held = still start left narrows

  module _ (o : Outcome) (never : NeverUnread o) where
    abbrev Told : Type 0
    Told = PlansUpdate (image_of s start) av text contents (given_pages o.status pages) o.text.items o.status

    -- the edits aren't planned, for a cause of the image
    stopped : (es : List Edit) (c : UpdateRefusal) (line : List ℕ) → AreEditsOf (image_of s start) (by_words asks) es
        → IsWholeSize s (length start) × WhereHeld (holds left) (λ bytes. WhereHeld (λ xs. xs ≡ contents) (λ xs. IsUpdateCause (image_of s bytes) av xs es c))
        → update_line (by_words asks) c ≡ Some line → o.text.items ≡ line → o.status ≡ 1 → Told
    stopped es c line are cause is says failed =
        edits.no_update asks es c asked are (cause.1 start held contents refl) (is ∙ ap Some (sym says)) failed

    unplanned : (es : List Edit) (e : UpdateError) (line : List ℕ) → AreEditsOf (image_of s start) (by_words asks) es
        → IsUpdateErrorIn s (memory start) (holds left) av contents es e → error_line (by_words asks) e ≡ Some line → o.text.items ≡ line
        → o.status ≡ 1 → Told
    unplanned es (error.Refused refusal.Memory) line are h is says failed = absurd (none-some line is)
    unplanned es (error.Refused (refusal.Attach c)) line are h is says failed =
        absurd (never_accepted_and_refused (image_of s start) are.from.meaning c are.attached.accepted (refused_in_memory s start left c narrows h))
    unplanned es (error.Refused (refusal.Edit i f)) line are h is says failed = stopped es (refusal.Edit i f) line are h is says failed
    unplanned es (error.Refused (refusal.SameName i j)) line are h is says failed = stopped es (refusal.SameName i j) line are h is says failed
    unplanned es (error.Refused (refusal.NoSlot n k)) line are h is says failed = stopped es (refusal.NoSlot n k) line are h is says failed
    unplanned es (error.Refused (refusal.NoSpace n k)) line are h is says failed = stopped es (refusal.NoSpace n k) line are h is says failed
    unplanned es (error.Refused (refusal.Autoresize i j)) line are h is says failed =
        stopped es (refusal.Autoresize i j) line are h is says failed
    unplanned es (error.Refused refusal.NeedsRepair) line are h is says failed = stopped es refusal.NeedsRepair line are h is says failed
    unplanned es (error.Refused (refusal.WeakCheck n)) line are h is says failed = stopped es (refusal.WeakCheck n) line are h is says failed
    unplanned es (error.Refused refusal.Exhausted) line are h is says failed = stopped es refusal.Exhausted line are h is says failed
    unplanned es (error.Refused (refusal.NoFree n k)) line are h is says failed = stopped es (refusal.NoFree n k) line are h is says failed
    unplanned es (error.NotBlank p) line are h is says failed =
        absurd (none_listed s image start left pages same narrows old new av blank p (h.1 start held))
    unplanned es (error.Beyond i) line are h is says failed = absurd (none_beyond are.from.meaning text contents asks es asked are.edits i h)
    unplanned es (error.Contents i) line are h is says failed = absurd (never _ (says ∙ sym (same_Some _ line is)))
    unplanned es (error.Read p) line are h is says failed = absurd (none-some line is)

    update_told : UpdatesFrom av (by_words asks) contents None s (memory start) (holds left) pages old new o → Told
    update_told (update.planned_from es steps lines plan told said are wrote meant) =
        edits.update asks es steps lines asked (plan.asked start held) (plan.plan.held start held) (told start held) said.text
        (given o.status pages steps said.status are) said.status
    update_told (update.refused_from c cause said kept) =
        edits.no_image asks c asked (refused_in_memory s start left c narrows cause) said.text said.status
    update_told (update.unasked_from line none said kept) =
        edits.no_edit asks asked (subst (update.IsNoEditOf (image_of s start) (by_words asks)) (sym said.text) (none start held)) said.status
    update_told (update.unplanned_from es e line are cause is said kept) = unplanned es e line (are start held) cause is said.text said.status
    update_told (update.unread_from es i at are asked_at said kept) = absurd (never _ said.text)

    -- the same for work that was done, with the pages that are made
    pub update_planned : (work : Result Outcome ToolError) (r : Result Outcome AllocError) → r ≡ Ok o → IfOk r (λ x. work ≡ Ok x)
        → (made : List ℕ) → made ≡ pages → IfOk work (UpdatesFrom av (by_words asks) contents None s (memory start) (holds left) made old new)
        → PlansUpdate (image_of s image) av text contents (given_pages o.status pages) o.text.items o.status
    update_planned work r is done made same_pages h =
        let from = IfOk-at_ok _ (IfOk-at_ok _ is done) h in
        subst (λ (b : List ℕ). PlansUpdate (image_of s b) av text contents (given_pages o.status pages) o.text.items o.status) same
        (update_told (subst (λ (xs : List ℕ). UpdatesFrom av (by_words asks) contents None s (memory start) (holds left) xs old new o) same_pages from))

-- what was written if a write didn't fail
pub on_done : (r : Result (Unit {0}) ToolError) (P : Type 0) → OnOk r P → false ≡ is_err r → P
on_done (Ok x) P h is = h
on_done (Err e) P h is = absurd (cc)
