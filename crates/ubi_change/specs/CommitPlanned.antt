-- What holds for the plan of a commit at every cut and at its end.
use Rattle.std.specs.Prelude.{◌≡◌, ℕ, ◌<◌, ◌≤◌, false, if◌then◌else◌, List, ◌∷◌, count_by, length, nat_lt, take}
use Rattle.std.specs.FinMap.{entries}
use Rattle.std.specs.List.{AllByRecursion}
use Rattle.ubi_media.specs.Fields.{AreBytes}
use Rattle.ubi_media.specs.Geometry.{Sizes}
use Rattle.ubi_scan.specs.Image.{Image, of_blocks}
use Rattle.ubi_table.specs.Table.{CopyIs}
use Rattle.ubi_table.specs.declared.copy.CopyRead.TheVariants as copy
use Rattle.ubi_volume.specs.Attached.{AttachValue}
use Rattle.ubi_volume.specs.Accepts.{AcceptsBlocks}
use Rattle.ubi_volume.specs.Meant.{Meant, records_of}
use Rattle.ubi_laid.specs.Laid.{laid_blocks}
use Rattle.ubi_change.specs.Avoided.{Avoided, Avoids}
use Rattle.ubi_change.specs.CommitAllowed.{commit_needs}
use Rattle.ubi_change.specs.CommitPlan.{edits_plan}
use Rattle.ubi_change.specs.Cuts.{programs_copy, turn}
use Rattle.ubi_change.specs.Edited.{Edit, edited_in, made_in}
use Rattle.ubi_change.specs.Fitting.{AllFit}
use Rattle.ubi_change.specs.Frugal.{CountsErases, TouchesOnly}
use Rattle.ubi_change.specs.Order.{Erases, RisesBetweenErases}
use Rattle.ubi_change.specs.RenamePlan.{holder, table_pages}
use Rattle.ubi_change.specs.RenameRefused.{BothGood}
use Rattle.ubi_change.specs.Steps.{blocks_after}
use Rattle.ubi_change.specs.Takeable.{ec_at, stays, takeable}
use Rattle.ubi_change.specs.Tears.{SurvivesTears}
use Rattle.ubi_change.specs.declared.step.Step.{Step}

-- after any number of steps the eraseblocks are accepted: before the commit point, which comes once the first copy of the table
-- is whole, with the meaning m, and from it on with n; exactly two steps program the header of a copy
pub record SurvivesCommit (s : Sizes) (bs : List (List ℕ)) (m n : Meant) (steps : List Step) : Type 0 where
  pub two_copies : count_by (programs_copy s) steps ≡ 2
  pub comes : turn s steps (table_pages s (records_of n)) ≤ length steps
  pub each : (k : ℕ) → k ≤ length steps
      → AcceptsBlocks s (blocks_after s bs steps k) (if nat_lt k (turn s steps (table_pages s (records_of n))) then m else n)

-- at the end both copies are good, with the table of n
abbrev pub LeavesBoth : Sizes → List (List ℕ) → Meant → List Step → Type 0
LeavesBoth s bs n steps = BothGood s (blocks_after s bs steps (length steps)) (records_of n)

-- the steps touch only the holders of the copies and the first eraseblocks that may be taken, erase the holder of a copy once the
-- new one is good, unless it stays, and count each erase
pub record IsFrugalCommit (s : Sizes) (bs : List (List ℕ)) (a : AttachValue) (needs : ℕ) (n : Meant) (steps : List Step) : Type 0 where
  pub touches : TouchesOnly (holder s bs a 0 ∷ holder s bs a 1 ∷ take needs (takeable s bs a.states)) steps
  pub gives_up : (c : ℕ) → c < 2 → stays s bs (holder s bs a c) (ec_at s bs (holder s bs a c)) ≡ false
      → (k : ℕ) × Erases steps k (holder s bs a c) × CopyIs s (blocks_after s bs steps k) c (copy.Good (records_of n))
  pub counts : CountsErases s bs a steps

-- what a commit of edits writes is bytes: the texts of its volumes, and the pages of its table
pub record WritesBytes (s : Sizes) (bs : List (List ℕ)) (ends : List ℕ) (a : AttachValue) (es : List Edit) : Type 0 where
  pub texts : AllByRecursion (λ l. AreBytes l.text) (laid_blocks s (entries (made_in s bs ends a.meaning es)))
  pub pages : AreBytes (table_pages s (records_of (edited_in s bs ends a.meaning es)))

-- what holds for the plan of a commit of edits that avoids something, as it sees the image
pub record CommitFacts (image : Image) (av : Avoided) (a : AttachValue) (es : List Edit) : Type 0 where
  pub survives : of_blocks SurvivesCommit image a.meaning (of_blocks edited_in image av.ends a.meaning es) (of_blocks edits_plan image av.ends a es)
  pub torn : of_blocks SurvivesTears image a.meaning (of_blocks edited_in image av.ends a.meaning es) (of_blocks edits_plan image av.ends a es)
      (turn image.sizes (of_blocks edits_plan image av.ends a es) (table_pages image.sizes (records_of (of_blocks edited_in image av.ends a.meaning es))))
  pub copies : of_blocks LeavesBoth image (of_blocks edited_in image av.ends a.meaning es) (of_blocks edits_plan image av.ends a es)
  pub fits : of_blocks WritesBytes image av.ends a es → of_blocks AllFit image (of_blocks edits_plan image av.ends a es)
  pub rises : of_blocks RisesBetweenErases image (of_blocks edits_plan image av.ends a es)
  pub frugal : of_blocks IsFrugalCommit image a (of_blocks commit_needs image av.ends a es) (of_blocks edited_in image av.ends a.meaning es)
      (of_blocks edits_plan image av.ends a es)
  pub avoids : of_blocks Avoids image av (of_blocks edits_plan image av.ends a es)
