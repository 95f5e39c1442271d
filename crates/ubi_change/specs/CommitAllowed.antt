-- When edits may be committed.
use Rattle.std.specs.Prelude.{◌≡◌, ℕ, ◌+◌, ◌≤◌, ◌⊎◌, min, slice_index, List, [], ◌∷◌, length, Some, None, IfSome}
use Rattle.std.specs.FinMap.{entries, get}
use Rattle.std.specs.List.{AllByRecursion}
use Rattle.ubi_media.specs.Geometry.{Sizes}
use Rattle.ubi_scan.specs.Members.{NoMember}
use Rattle.ubi_volume.specs.Attached.{AttachValue}
use Rattle.ubi_volume.specs.Meant.{IsMeaning, VolumeMap, records_of}
use Rattle.ubi_volume.specs.declared.content.Content.{Content}
use Rattle.ubi_volume.specs.declared.content.Content.TheVariants as content
use Rattle.ubi_volume.specs.declared.content.Volume.{Volume}
use Rattle.ubi_laid.specs.Laid.{laid_blocks}
use Rattle.ubi_change.specs.Edited.{Edit, edited_in, edits_volume, fresh, left_by, left_by_all, made_in, written}
use Rattle.ubi_change.specs.RenamePlan.{table_pages}
use Rattle.ubi_change.specs.RenameRefused.{BothGood}
use Rattle.ubi_change.specs.Takeable.{takeable}
use Rattle.ubi_change.specs.Weak.{weak_pages}

-- a content that can be written: neither updating nor damaged
abbrev pub IsWhole : Content → Type 0
IsWhole (content.Static text) = Unit {0}
IsWhole (content.Dynamic lebs) = Unit {0}
IsWhole _ = ⊥

-- the volume of each edit is among those that the edits before it leave
abbrev pub AllThere : VolumeMap → List Edit → Type 0
AllThere vs [] = Unit {0}
AllThere vs (e ∷ es) = IfSome (edits_volume e) (λ id. (v : Volume) × (get vs id ≡ Some v)) × AllThere (left_by vs e) es

-- a volume that reserves another number then reads whole, and no eraseblock is a member of a LEB that it reserves only before
-- or only then, nor is such a LEB hidden
abbrev pub MayBeSized : Sizes → List (List ℕ) → List ℕ → ℕ → Volume → Volume → Type 0
MayBeSized s bs ends id v w =
    (w.entry.reserved ≡ v.entry.reserved)
    ⊎ (IsWhole v.content × ((lnum : ℕ) → min v.entry.reserved w.entry.reserved ≤ lnum → NoMember s bs (id, lnum))
    × (slice_index ends id ≤ min v.entry.reserved w.entry.reserved))

module _ (s : Sizes) (bs : List (List ℕ)) (ends : List ℕ) (a : AttachValue) where
  -- how many eraseblocks and sequence numbers a commit needs: for each LEB that it writes, and for the copies of the table
  abbrev pub commit_needs : List Edit → ℕ
  commit_needs es = length (laid_blocks s (entries (made_in s bs ends a.meaning es))) + 2

  -- nothing applies against a commit
  pub record MayBeCommitted (es : List Edit) : Type 0 where
    pub there : AllThere a.meaning.volumes es
    pub room : length (written es) ≤ length (fresh s bs ends a.meaning)
    pub whole : AllByRecursion (λ v. IsWhole v.content) (written es)
    pub sized : (id : ℕ) (v w : Volume) → get a.meaning.volumes id ≡ Some v
        → get (left_by_all a.meaning.volumes es) id ≡ Some w → MayBeSized s bs ends id v w
    pub meaning : IsMeaning (edited_in s bs ends a.meaning es)
    pub both : BothGood s bs (records_of a.meaning)
    pub strong : weak_pages s (table_pages s (records_of (edited_in s bs ends a.meaning es))) ≡ None
    pub few : a.scan.top_sqnum + commit_needs es ≤ 0xFFFFFFFFFFFFFFFF
    pub enough : commit_needs es ≤ length (takeable s bs a.states)
