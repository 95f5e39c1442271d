-- All steps of a plan, for what the source of contents may hold.
use Rattle.ubi_writing.proofs.Prelude.{IsHeldPlan, IsReadyFor, Made, Option, ap₂, made_steps, pages_made, programmed, steps_done, take, ◌≡◌, ◌∙◌, ℕ, List, length, ap, subst, Sizes, image_of, Agreed, Source, WhereHeld, AllWithin, Avoided, Step, AllBeside, all_layings, asked_parts, Laying, Part, of_blocks, IsPlanOf, in_order, plan_groups, ArePlannedSteps, IsPlannedUpdate, IsUpdateFor, Edit, UpdatePlan, AreLinesOf, all_replaced, written_lines}
use Rattle.ubi_writing.specs.declared.pages.Made.TheVariants as made

module _ (s : Sizes) (k : Source) (agrees agreed : Agreed) (av : Avoided) (contents : List ℕ) (es : List Edit) (p : UpdatePlan)
    (planned : IsPlannedUpdate s agrees agreed av es p) (holds : agreed contents) where
  pub steps_planned : IsPlanOf s k p → (steps : List Step) → steps ≡ in_order (plan_groups s p contents)
      → AllWithin s (length p.surveyed.states) steps → AllBeside av.marks steps
      → ArePlannedSteps s k agrees av contents es steps
  steps_planned of steps are within beside = record {
    whole = of.whole;
    within = subst (λ n. AllWithin s n steps) of.count within;
    beside = beside;
    held = λ bytes agree.
        (let is : IsUpdateFor (image_of s bytes) av contents es p = planned bytes agree contents holds in
        record {
          from = is.from;
          attached = is.attached;
          blank = is.blank;
          allowed = is.allowed;
          plan = are ∙ is.plan;
          facts = is.facts;
        });
  }

  pub lines_planned : (lines : List ℕ) → lines ≡ written_lines p.layings.items p.parts.items (all_replaced es)
      → WhereHeld agrees (λ bytes. AreLinesOf (image_of s bytes) av contents es lines)
  lines_planned lines are bytes agree =
      let is : IsUpdateFor (image_of s bytes) av contents es p = planned bytes agree contents holds in
      record {
        from = is.from;
        attached = is.attached;
        are = are
            ∙ ap (λ (ls : List Laying). written_lines ls p.parts.items (all_replaced es)) is.layings
            ∙ ap (λ (ps : List Part). written_lines (all_layings s contents (of_blocks asked_parts (image_of s bytes) av.ends is.from es)) ps (all_replaced es)) is.parts;
      }

-- the first steps of a plan that is held
module _ (s : Sizes) (p : UpdatePlan) (stop : Option ℕ) (agreed : Agreed) (lines : List ℕ) (m : Made) (text : List ℕ)
    (h : IsHeldPlan s p stop agreed lines m text) (contents : List ℕ) (held : agreed contents) where
  abbrev steps : List Step
  steps = in_order (plan_groups s p contents)

  pub held_firsts : made_steps m contents ≡ take (steps_done steps stop) steps
  held_firsts =
      ap (λ (x : Made). made_steps x contents) h.is
      ∙ ap₂ (λ (z : Sizes) (q : UpdatePlan). take h.edits.stop (in_order (plan_groups z q contents))) h.sizes h.plan
      ∙ ap (λ n. take n steps) (h.done contents held)

  pub held_pages : (later : Made) (size room : ℕ) (agrees : Agreed) → IsReadyFor s size agrees room later → made_steps later ≡ made_steps m
      → pages_made later contents ≡ programmed (take (steps_done steps stop) steps)
  held_pages (made.Edits x) size room agrees ready same =
      ap programmed (ap (λ (f : List ℕ → List Step). f contents) same ∙ held_firsts)
  held_pages made.Nothing size room agrees ready same = absurd ready
  held_pages (made.Held bytes) size room agrees ready same = absurd ready
