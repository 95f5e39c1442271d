-- What a change or a rename of a source answers: what its file means, for an image in memory, and into a file.
use Rattle.ubi_writing.proofs.Prelude.{◌≡◌, ℕ, inr, List, [], ◌++◌, length, ap, arith, sym, take, true≢false, ◌∙◌, subst, refl, IfErr, IfOk, OnOk, Option, Result, Ok, Err, codes, AllocError, take_all, IfOk-at_ok, Sizes, image_of, Agreed, Narrows, Source, WhereHeld, holds, memory, still, All, Wrote, Avoided, nothing, changed, turn, programmed, PlanFactsOfSource, renamed_pages, IsPlannedRename, renamed, Step, shown_name, Gives, says, Changes, ChangesFrom, CutMeans, HasPlan, IsChangeFault, refused_line, AreCut, HasFile, IsCarryFault, cut_bytes, cut_text, plan_answer, plan_lines, refused_file, steps_done, CutIsNamed, HasRename, IsRenameFault, Renames, RenamesFrom, Outcome, ToolError, done, not_both}
use Rattle.std.specs.Prelude.{Some}
use Rattle.ubi_change.proofs.Unplanned as planning
use Rattle.ubi_change.proofs.Unrenamed as renaming
use Rattle.ubi_writing.specs.Change as change
use Rattle.ubi_writing.specs.Rename as rename
use Rattle.ubi_files.specs.declared.outcome.ToolError.TheVariants as tool
use Rattle.ubi_writing.proofs.Cut.{cut_accepts, few_done}

-- bytes that were written from none on are those that were wanted
module _ (s : Sizes) (steps : List Step) (k : ℕ) (agrees : Agreed) (bytes : List ℕ) (agreed : agrees bytes) (n : ℕ)
    (empty file : List ℕ) (none : empty ≡ []) (w : Wrote agrees (Some empty) (Some file) (cut_text s steps k) All 0 n) where
  filled : file ≡ cut_bytes (image_of s bytes) steps k
  filled =
      let text = cut_bytes (image_of s bytes) steps k in
      let got = w.held bytes agreed text refl in
      let whole : w.bytes ≡ text = got.1 ∙ take_all (length w.bytes) text (let e = got.0 in omega arith) in
      w.got ∙ ap (λ xs. xs ++ w.bytes) none ∙ whole

  gives_file : (o finished : Outcome) → Gives finished (says (plan_lines steps) 0) → (stop : Option ℕ) → k ≡ steps_done steps stop
      → Gives o (record { text = finished.text.items; status = 0; file = Some file }) → Gives o (plan_answer (image_of s bytes) steps stop)
  gives_file o finished said stop count gives = record {
    text = gives.text ∙ said.text;
    status = gives.status;
    file = gives.file ∙ ap Some (filled ∙ ap (cut_bytes (image_of s bytes) steps) count);
  }

module _ (av : Avoided) (id lnum : ℕ) (new : List ℕ) (stop : Option ℕ) (s : Sizes) where
  pub change_narrowed : (k : Source) (old later : Agreed) (steps : List Step) → Narrows old later → PlanFactsOfSource s k old av id lnum new steps
      → PlanFactsOfSource s k later av id lnum new steps
  change_narrowed k old later steps narrows h =
      record { whole = h.whole; within = h.within; beside = h.beside; held = λ bytes agrees. h.held bytes (narrows bytes agrees) }

  -- the image after the first steps means the old or the new
  module _ (k : Source) (agrees : Agreed) (steps : List Step) (plan : PlanFactsOfSource s k agrees av id lnum new steps) where
    means : AreCut s agrees steps (steps_done steps stop)
        → WhereHeld agrees (λ bytes. CutMeans (image_of s bytes) id lnum new steps (steps_done steps stop))
    means cut bytes agreed =
        let survives = (plan.held bytes agreed).survives in
        let j = steps_done steps stop in
        let image = image_of s bytes in (
          survives.0,
          survives.1,
          cut_accepts image steps j (turn s steps new) survives.0 (changed survives.0 id lnum new) survives.1.whole
              (cut bytes agreed) (survives.2.each j (few_done steps stop)),
        )

    pub change_done : (r : Result Outcome ToolError) (pages : List ℕ) (old now : Option (List ℕ))
        → IfOk r (λ o. Gives o (says (plan_lines steps) 0)) → OnOk r (pages ≡ programmed (take (steps_done steps stop) steps))
        → IfOk r (λ _. Wrote agrees old now (cut_text s steps (steps_done steps stop)) All 0 k.size)
        → IfOk r (λ _. AreCut s agrees steps (steps_done steps stop)) → IfOk r (ChangesFrom av id lnum new stop s k agrees pages old now)
    change_done (Ok o) pages old now gives are wrote cut = change.planned_from steps plan gives are wrote (means cut)
    change_done (Err e) pages old now gives are wrote cut = tt

    pub change_cut : (r : Result Outcome ToolError) (old now : Option (List ℕ))
        → IfErr r (IsCarryFault s agrees steps (steps_done steps stop) old now)
        → IfErr r (IsChangeFault av id lnum new stop s k agrees old now)
    change_cut (Ok o) old now h = tt
    change_cut (Err tool.Memory) old now h = h
    change_cut (Err tool.Read) old now h = inr (steps, plan, h)
    change_cut (Err tool.Write) old now h = (steps, plan, h)

  -- work that was done had a plan
  pub plan_done : (k : Source) (agrees : Agreed) (pages : List ℕ) (old now : Option (List ℕ)) (answer : Result Outcome ToolError)
      → IfOk answer (ChangesFrom av id lnum new stop s k agrees pages old now)
      → IfOk answer (λ o. o.status ≡ 0 → HasPlan av id lnum new s k agrees)
  plan_done k agrees pages old now (Ok o) (change.planned_from steps plan said are wrote meant) = λ zero. (steps, plan)
  plan_done k agrees pages old now (Ok o) (change.unplanned_from c line cause is said kept) =
      λ zero. absurd (not_both o zero said.status)
  plan_done k agrees pages old now (Ok o) (change.not_blank_from p cause said kept) = λ zero. absurd (not_both o zero said.status)
  plan_done k agrees pages old now (Err e) h = tt

-- where nothing is avoided
module _ (id lnum : ℕ) (new : List ℕ) (stop : Option ℕ) (s : Sizes) where
  module _ (image left pages : List ℕ) (narrows : Narrows (holds image) (holds left)) (empty file : List ℕ) (none : empty ≡ []) where
    of_memory : (o finished : Outcome)
        → ChangesFrom nothing id lnum new stop s (memory image) (holds left) pages (Some empty) (Some file) finished
        → HasFile finished file o → Changes (image_of s image) id lnum new stop o
    of_memory o finished (change.planned_from steps plan said are wrote meant) (done zero gives) =
        let agreed = still image left narrows in
        change.planned steps (plan.held image agreed)
        (gives_file s steps (steps_done steps stop) (holds left) image agreed (length image) empty file none wrote o finished said stop refl gives)
        (meant image agreed)
    of_memory o finished (change.planned_from steps plan said are wrote meant) (refused_file some same) = absurd (some said.status)
    of_memory o finished (change.unplanned_from c line cause is said kept) (done zero gives) = absurd (not_both finished zero said.status)
    of_memory o finished (change.unplanned_from c line cause is said kept) (refused_file some same) =
        change.unplanned c line
        (planning.error_in_memory s image image left refl narrows id lnum new _ c refl cause) is
        (subst (λ (o : Outcome). Gives o (says line 1)) (sym same) said)
    of_memory o finished (change.not_blank_from p cause said kept) file = absurd (true≢false (sym (cause.1 image (still image left narrows)).0))

  -- what is answered of bytes in memory
  pub change_in_memory : (image start left pages empty file : List ℕ) → start ≡ image → Narrows (holds start) (holds left) → empty ≡ []
      → (work : Result Outcome ToolError) (r : Result Outcome AllocError)
      → IfOk work (ChangesFrom nothing id lnum new stop s (memory start) (holds left) pages (Some empty) (Some file))
      → IfOk r (λ o. (finished : Outcome) × (work ≡ Ok finished) × HasFile finished file o)
      → IfOk r (Changes (image_of s image) id lnum new stop)
  change_in_memory image start left pages empty file same narrows none work (Err e) ok h = tt
  change_in_memory image start left pages empty file same narrows none work (Ok o) ok h =
      subst (λ (b : List ℕ). Changes (image_of s b) id lnum new stop o) same
      (of_memory start left pages narrows empty file none o h.0 (IfOk-at_ok _ h.1 ok) h.2)

module _ (av : Avoided) (id : ℕ) (word : List ℕ) (stop : Option ℕ) (s : Sizes) where
  pub rename_narrowed : (name : List ℕ) (k : Source) (old later : Agreed) (steps : List Step) → Narrows old later
      → IsPlannedRename s k old av id name steps → IsPlannedRename s k later av id name steps
  rename_narrowed name k old later steps narrows h =
      record { whole = h.whole; within = h.within; beside = h.beside; held = λ bytes agrees. h.held bytes (narrows bytes agrees) }

  -- the image after the first steps means the old or the renamed
  module _ (k : Source) (agrees : Agreed) (name : List ℕ) (shown : shown_name word ≡ Some name) (steps : List Step)
      (plan : IsPlannedRename s k agrees av id name steps) where
    named : AreCut s agrees steps (steps_done steps stop)
        → WhereHeld agrees (λ bytes. CutIsNamed (image_of s bytes) id name steps (steps_done steps stop))
    named cut bytes agreed =
        let survives = (plan.held bytes agreed).survives in
        let j = steps_done steps stop in
        let image = image_of s bytes in (
          survives.0,
          survives.1,
          cut_accepts image steps j (turn s steps (renamed_pages s survives.0 id name)) survives.0 (renamed survives.0 id name)
              survives.1.whole (cut bytes agreed) (survives.2.each j (few_done steps stop)),
        )

    pub rename_done : (r : Result Outcome ToolError) (pages : List ℕ) (old now : Option (List ℕ))
        → IfOk r (λ o. Gives o (says (plan_lines steps) 0)) → OnOk r (pages ≡ programmed (take (steps_done steps stop) steps))
        → IfOk r (λ _. Wrote agrees old now (cut_text s steps (steps_done steps stop)) All 0 k.size)
        → IfOk r (λ _. AreCut s agrees steps (steps_done steps stop)) → IfOk r (RenamesFrom av id word stop s k agrees pages old now)
    rename_done (Ok o) pages old now gives are wrote cut = rename.planned_from name steps shown plan gives are wrote (named cut)
    rename_done (Err e) pages old now gives are wrote cut = tt

    pub rename_cut : (r : Result Outcome ToolError) (old now : Option (List ℕ))
        → IfErr r (IsCarryFault s agrees steps (steps_done steps stop) old now)
        → IfErr r (IsRenameFault av id word stop s k agrees old now)
    rename_cut (Ok o) old now h = tt
    rename_cut (Err tool.Memory) old now h = h
    rename_cut (Err tool.Read) old now h = inr (name, steps, shown, plan, h)
    rename_cut (Err tool.Write) old now h = (name, steps, shown, plan, h)

  -- work that was done had a plan
  pub named_done : (k : Source) (agrees : Agreed) (pages : List ℕ) (old now : Option (List ℕ)) (answer : Result Outcome ToolError)
      → IfOk answer (RenamesFrom av id word stop s k agrees pages old now)
      → IfOk answer (λ o. o.status ≡ 0 → HasRename av id word s k agrees)
  named_done k agrees pages old now (Ok o) (rename.planned_from name steps shown plan said are wrote of_name) =
      λ zero. (name, steps, shown, plan)
  named_done k agrees pages old now (Ok o) (rename.nameless_from shows said kept) = λ zero. absurd (not_both o zero said.status)
  named_done k agrees pages old now (Ok o) (rename.unplanned_from name c line shown cause is said kept) =
      λ zero. absurd (not_both o zero said.status)
  named_done k agrees pages old now (Ok o) (rename.not_blank_from name p shown cause said kept) =
      λ zero. absurd (not_both o zero said.status)
  named_done k agrees pages old now (Err e) h = tt

-- where nothing is avoided
module _ (id : ℕ) (word : List ℕ) (stop : Option ℕ) (s : Sizes) where
  module _ (image left pages : List ℕ) (narrows : Narrows (holds image) (holds left)) (empty file : List ℕ) (none : empty ≡ []) where
    named_memory : (o finished : Outcome)
        → RenamesFrom nothing id word stop s (memory image) (holds left) pages (Some empty) (Some file) finished
        → HasFile finished file o → Renames (image_of s image) id word stop o
    named_memory o finished (rename.planned_from name steps shown plan said are wrote of_name) (done zero gives) =
        let agreed = still image left narrows in
        rename.planned name steps shown (plan.held image agreed)
        (gives_file s steps (steps_done steps stop) (holds left) image agreed (length image) empty file none wrote o finished said stop refl gives)
        (of_name image agreed)
    named_memory o finished (rename.planned_from name steps shown plan said are wrote of_name) (refused_file some same) = absurd (some said.status)
    named_memory o finished (rename.nameless_from shows said kept) (done zero gives) = absurd (not_both finished zero said.status)
    named_memory o finished (rename.nameless_from shows said kept) (refused_file some same) =
        rename.nameless shows (subst (λ (o : Outcome). Gives o (says (refused_line (codes "N1 BadName")) 1)) (sym same) said)
    named_memory o finished (rename.unplanned_from name c line shown cause is said kept) (done zero gives) =
        absurd (not_both finished zero said.status)
    named_memory o finished (rename.unplanned_from name c line shown cause is said kept) (refused_file some same) =
        rename.unplanned name c line shown
        (renaming.error_in_memory s image image left refl narrows id name _ c refl cause) is
        (subst (λ (o : Outcome). Gives o (says line 1)) (sym same) said)
    named_memory o finished (rename.not_blank_from name p shown cause said kept) file = absurd (true≢false (sym (cause.1 image (still image left narrows)).0))

  -- what is answered of bytes in memory
  pub rename_in_memory : (image start left pages empty file : List ℕ) → start ≡ image → Narrows (holds start) (holds left) → empty ≡ []
      → (work : Result Outcome ToolError) (r : Result Outcome AllocError)
      → IfOk work (RenamesFrom nothing id word stop s (memory start) (holds left) pages (Some empty) (Some file))
      → IfOk r (λ o. (finished : Outcome) × (work ≡ Ok finished) × HasFile finished file o)
      → IfOk r (Renames (image_of s image) id word stop)
  rename_in_memory image start left pages empty file same narrows none work (Err e) ok h = tt
  rename_in_memory image start left pages empty file same narrows none work (Ok o) ok h =
      subst (λ (b : List ℕ). Renames (image_of s b) id word stop o) same
      (named_memory start left pages narrows empty file none o h.0 (IfOk-at_ok _ h.1 ok) h.2)
