-- What is answered for an edit, and handed over of its plan.
use Rattle.std.specs.Prelude.{◌≡◌, ◌==◌, ℕ, List, [], Result, Ok, Err, if◌then◌else◌, length}
use Rattle.std.specs.declared.alloc.AllocError.{AllocError}
use Rattle.ubi_media.specs.Geometry.{Sizes}
use Rattle.ubi_scan.specs.Image.{Image}
use Rattle.ubi_change.specs.Avoided.{Avoided}
use Rattle.ubi_files.specs.declared.outcome.Outcome.{Outcome}
use Rattle.ubi_calls.specs.Calls.{MayTell, put_into}
use Rattle.ubi_calls.specs.Edits.{PlansChange, PlansRename, PlansUpdate, image_without, spared}
use Rattle.ubi_calls.specs.inner.Handing.{Leaves, LeavesNothing}
use Rattle.ubi_calls.specs.declared.plans.Edit.{Edit}
use Rattle.ubi_calls.specs.declared.plans.Edit.TheVariants as edit
use Rattle.ubi_calls.specs.declared.plans.Spared.{Spared}

-- what is answered for an edit by a plan that avoids something, with its pages
abbrev pub edit_plan : Edit → Image → Avoided → List ℕ → MayTell
edit_plan (edit.Change new) image av = PlansChange image av new.id new.lnum new.bytes.now
edit_plan (edit.Rename id word) image av = PlansRename image av id word.now
edit_plan (edit.Update text contents) image av = PlansUpdate image av text.now contents.now

-- the same for bytes on a chip, some of whose eraseblocks are spared
abbrev pub spared_plan : Edit → Spared → Sizes → List ℕ → List ℕ → MayTell
spared_plan e chip s bytes = edit_plan e (image_without s chip.bad.now bytes) (spared s chip.bad.now chip.keeps_blank bytes)

-- the pages of a plan, of which there are none if the status isn't 0
abbrev pub given_pages : ℕ → List ℕ → List ℕ
given_pages status pages = if status == 0 then pages else []

-- what is printed for an outcome, if there is one, and the pages
abbrev pub HandsPlan : Result Outcome AllocError → List ℕ → List ℕ → List ℕ → ℕ → List ℕ → List ℕ → ℕ → ℕ → Type 0
HandsPlan (Ok o) pages old new len old_pages new_pages pages_len result =
    Leaves o.text.items o.status old new len result × (new_pages ≡ put_into (given_pages o.status pages) old_pages)
    × (pages_len ≡ length (given_pages o.status pages))
HandsPlan (Err _) pages old new len old_pages new_pages pages_len result =
    LeavesNothing old new len result × (new_pages ≡ old_pages) × (pages_len ≡ 0)
