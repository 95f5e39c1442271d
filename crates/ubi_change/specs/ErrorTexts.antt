-- The texts that are printed for a change, a rename or edits that aren't planned.
use Rattle.std.specs.Prelude.{ℕ, List, Option, Some, ◌++◌, codes, decimal}
use Rattle.ubi_media.specs.ErrorTexts.{rec_fault_name, refusal_text}
use Rattle.ubi_change.specs.declared.errors.PlanError.{PlanError}
use Rattle.ubi_change.specs.declared.errors.PlanError.TheVariants as plan
use Rattle.ubi_change.specs.declared.errors.ChangeRefusal.{ChangeRefusal}
use Rattle.ubi_change.specs.declared.errors.ChangeRefusal.TheVariants as change
use Rattle.ubi_change.specs.declared.errors.RenameRefusal.{RenameRefusal}
use Rattle.ubi_change.specs.declared.errors.RenameRefusal.TheVariants as rename
use Rattle.ubi_change.specs.declared.errors.EditFault.{EditFault}
use Rattle.ubi_change.specs.declared.errors.EditFault.TheVariants as edit
use Rattle.ubi_change.specs.declared.errors.UpdateRefusal.{UpdateRefusal}
use Rattle.ubi_change.specs.declared.errors.UpdateRefusal.TheVariants as update
use Rattle.ubi_change.specs.declared.errors.UpdateError.{UpdateError}
use Rattle.ubi_change.specs.declared.errors.UpdateError.TheVariants as error
use Rattle.ubi_change.specs.declared.errors.ContentsError.{ContentsError}
use Rattle.ubi_change.specs.declared.errors.ContentsError.TheVariants as contents

-- the text that says why a change isn't planned
abbrev pub change_refusal_text : ChangeRefusal → List ℕ
change_refusal_text (change.Attach c) = refusal_text c
change_refusal_text change.NoVolume = codes "K2 NoVolume"
change_refusal_text change.StaticVolume = codes "K3 StaticVolume"
change_refusal_text change.Updating = codes "K4 Updating"
change_refusal_text change.OutOfRange = codes "K5 OutOfRange"
change_refusal_text change.BadLength = codes "K6 BadLength"
change_refusal_text (change.WeakCheck k) = codes "K7 WeakCheck pages=" ++ decimal k
change_refusal_text change.Exhausted = codes "K8 Exhausted"
change_refusal_text change.NoFree = codes "K9 NoFree"
change_refusal_text change.Memory = codes "out of memory"

-- the text that says why a rename isn't planned
abbrev pub rename_refusal_text : RenameRefusal → List ℕ
rename_refusal_text (rename.Attach c) = refusal_text c
rename_refusal_text rename.NoVolume = codes "K2 NoVolume"
rename_refusal_text rename.BadName = codes "N1 BadName"
rename_refusal_text (rename.SameName slot) = codes "N2 SameName slot=" ++ decimal slot
rename_refusal_text rename.NeedsRepair = codes "N3 NeedsRepair"
rename_refusal_text (rename.WeakCheck k) = codes "K7 WeakCheck pages=" ++ decimal k
rename_refusal_text rename.Exhausted = codes "K8 Exhausted"
rename_refusal_text rename.NoFree = codes "K9 NoFree"
rename_refusal_text rename.Memory = codes "out of memory"

-- the text that says why the image of a source has no plan, by the texts of its causes
abbrev pub plan_error_text : {C : Type 0} → (C → Option (List ℕ)) → PlanError C → Option (List ℕ)
plan_error_text text (plan.Refused c) = text c
plan_error_text text (plan.Read p) = Some (codes "a read failed block=" ++ decimal p)
plan_error_text text (plan.NotBlank p) = Some (codes "K10 NotBlank block=" ++ decimal p)

-- the text that says why an edit isn't made
abbrev pub edit_fault_text : EditFault → List ℕ
edit_fault_text edit.NoVolume = codes "U1 NoVolume"
edit_fault_text edit.BadName = codes "N1 BadName"
edit_fault_text (edit.Record f) = codes "U2 Record " ++ rec_fault_name f
edit_fault_text edit.TooLarge = codes "U3 TooLarge"
edit_fault_text edit.NotWhole = codes "U4 NotWhole"
edit_fault_text edit.InUse = codes "U5 InUse"

-- how many are needed, and how many there are
abbrev needs_text : ℕ → ℕ → List ℕ
needs_text n has = codes " needs=" ++ decimal n ++ codes " has=" ++ decimal has

-- the numbers of two slots
abbrev slots_text : ℕ → ℕ → List ℕ
slots_text i j = codes " slot=" ++ decimal i ++ codes " slot=" ++ decimal j

-- the text that says why edits aren't planned
abbrev pub update_refusal_text : UpdateRefusal → List ℕ
update_refusal_text (update.Attach c) = refusal_text c
update_refusal_text (update.Edit i f) = edit_fault_text f ++ codes " edit=" ++ decimal i
update_refusal_text (update.SameName i j) = codes "N2 SameName" ++ slots_text i j
update_refusal_text (update.NoSlot n has) = codes "U6 NoSlot" ++ needs_text n has
update_refusal_text (update.NoSpace n has) = codes "U7 NoSpace" ++ needs_text n has
update_refusal_text (update.Autoresize i j) = codes "U8 Autoresize" ++ slots_text i j
update_refusal_text update.NeedsRepair = codes "N3 NeedsRepair"
update_refusal_text (update.WeakCheck k) = codes "K7 WeakCheck pages=" ++ decimal k
update_refusal_text update.Exhausted = codes "K8 Exhausted"
update_refusal_text (update.NoFree n has) = codes "K9 NoFree" ++ needs_text n has
update_refusal_text update.Memory = codes "out of memory"

-- the text that says why contents can't be read
abbrev pub contents_error_text : ContentsError → List ℕ
contents_error_text (contents.Read id) = codes "a read of contents failed volume=" ++ decimal id
contents_error_text contents.Memory = codes "out of memory"

-- the text that says why edits of the image of a source have no plan
abbrev pub update_error_text : UpdateError → List ℕ
update_error_text (error.Refused c) = update_refusal_text c
update_error_text (error.Read p) = codes "a read failed block=" ++ decimal p
update_error_text (error.NotBlank p) = codes "K10 NotBlank block=" ++ decimal p
update_error_text (error.Beyond i) = codes "the contents end too early edit=" ++ decimal i
update_error_text (error.Contents i) = codes "a read of contents failed written=" ++ decimal i
