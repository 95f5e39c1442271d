-- The plan of a commit: new logical eraseblocks are written as orphans, and then both copies of the volume table.
use Rattle.std.specs.FinMap.{entries}
use Rattle.std.specs.Prelude.{ℕ, ◌+◌, ◌*◌, List, [], ◌∷◌, ◌++◌, length, take}
use Rattle.ubi_media.specs.Fields.{filled}
use Rattle.ubi_media.specs.Geometry.{Sizes}
use Rattle.ubi_media.specs.declared.vid.VidHeader.{VidHeader}
use Rattle.ubi_volume.specs.Attached.{AttachValue}
use Rattle.ubi_volume.specs.Meant.{Meant, VolumeMap, pieces, records_of}
use Rattle.ubi_laid.specs.Laid.{Laid, laid_blocks}
use Rattle.ubi_change.specs.Edited.{Edit, edited_in, made_in}
use Rattle.ubi_change.specs.Plan.{mount, program_text, taken}
use Rattle.ubi_change.specs.RenamePlan.{copy_plan, table_pages}
use Rattle.ubi_change.specs.Weak.{pages_needed}
use Rattle.ubi_change.specs.declared.step.Step.{Step}

-- a text with 0xFF to whole pages
abbrev pub whole_text : Sizes → List ℕ → List ℕ
whole_text s text = filled (pieces s.page (length text) * s.page) text

-- the same without the blank pages at its end
abbrev pub trimmed : Sizes → List ℕ → List ℕ
trimmed s text = let whole = whole_text s text in take (pages_needed s whole * s.page) whole

module _ (s : Sizes) (bs : List (List ℕ)) (a : AttachValue) where
  -- the header of the LEB that is written to the k-th eraseblock that is taken
  abbrev pub numbered : ℕ → Laid → VidHeader
  numbered k l = record l.header { sqnum = a.scan.top_sqnum + 1 + k }

  -- a LEB is written to the k-th eraseblock that is taken
  abbrev pub lay : ℕ → Laid → List Step
  lay k l = mount s bs a (taken s bs a k) (numbered k l) ++ program_text s (taken s bs a k) (trimmed s l.text)

  -- LEBs are written, from the k-th eraseblock on
  abbrev pub lay_all : ℕ → List Laid → List Step
  lay_all k [] = []
  lay_all k (l ∷ ls) = lay k l ++ lay_all (k + 1) ls

  -- both copies of the table of n are written, from the k-th eraseblock on
  abbrev pub table_plan : ℕ → Meant → List Step
  table_plan k n =
      copy_plan s bs a (table_pages s (records_of n)) 0 k (a.scan.top_sqnum + 1 + k)
      ++ copy_plan s bs a (table_pages s (records_of n)) 1 (k + 1) (a.scan.top_sqnum + 1 + (k + 1))

  -- volumes are written, and then the table of n, in which they are
  abbrev pub commit_plan : VolumeMap → Meant → List Step
  commit_plan new n = let ls = laid_blocks s (entries new) in lay_all 0 ls ++ table_plan (length ls) n

-- the plan of a commit of edits: the volumes that they write are written, and then the table of what they make of the meaning
abbrev pub edits_plan : Sizes → List (List ℕ) → List ℕ → AttachValue → List Edit → List Step
edits_plan s bs ends a es = commit_plan s bs a (made_in s bs ends a.meaning es) (edited_in s bs ends a.meaning es)
