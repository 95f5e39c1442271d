-- Eraseblocks among which volumes are laid out, wherever each of their LEBs lies.
use Rattle.std.specs.Prelude.{◌≡◌, ◌≢◌, ℕ, ◌+◌, ◌-◌, ◌++◌, List, Some, length}
use Rattle.std.specs.FinMap.{entries, get}
use Rattle.std.specs.List.{AllByRecursion}
use Rattle.ubi_media.specs.Fields.{blank}
use Rattle.ubi_media.specs.Geometry.{Sizes}
use Rattle.ubi_scan.specs.Image.{block, leb}
use Rattle.ubi_scan.specs.Members.{Leb, NoMember, Wins, leb_of, member}
use Rattle.ubi_volume.specs.Meant.{VolumeMap}
use Rattle.ubi_volume.specs.declared.content.Volume.{Volume}
use Rattle.ubi_laid.specs.Laid.{Laid, laid_blocks}

-- the eraseblock at p holds a LEB as it is laid out, under whatever sequence number, and wins it
pub record IsLaidAt (s : Sizes) (bs : List (List ℕ)) (l : Laid) (p : ℕ) : Type 0 where
  pub wins : Wins s bs (leb_of l.header) p
  pub sqnum : ℕ
  pub header : member s (block bs p) ≡ Some (record l.header { sqnum = sqnum })
  pub reads : leb s (block bs p) ≡ l.text ++ blank (s.peb_size - (s.data_offset + length l.text))

-- a LEB is none of these
abbrev pub IsNoneOf : List Laid → Leb → Type 0
IsNoneOf ls of = AllByRecursion (λ l. ◌≢◌ {A = Leb} (leb_of l.header) of) ls

-- each LEB of the volumes lies in some eraseblock, and no other LEB of theirs has a member
pub record AreLaidIn (s : Sizes) (bs : List (List ℕ)) (volumes : VolumeMap) : Type 0 where
  pub each : AllByRecursion (λ l. (p : ℕ) × IsLaidAt s bs l p) (laid_blocks s (entries volumes))
  pub no_other : (id lnum : ℕ) (v : Volume) → get volumes id ≡ Some v → IsNoneOf (laid_blocks s (entries volumes)) (id, lnum)
      → NoMember s bs (id, lnum)
