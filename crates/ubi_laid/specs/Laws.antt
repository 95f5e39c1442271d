-- Laws of the definitions, as they stand on functions that do nothing.
use Rattle.std.specs.Prelude.{◌≡◌, ℕ, List, Some, IfSome}
use Rattle.std.specs.FinMap.{entries, get}
use Rattle.std.specs.List.{AllByRecursion}
use Rattle.ubi_media.specs.Geometry.{IsGeometry, Sizes}
use Rattle.ubi_scan.specs.Faults.{NoFault}
use Rattle.ubi_volume.specs.Meant.{IsVolume, VolumeMap}
use Rattle.ubi_volume.specs.Means.{VolumeReads}
use Rattle.ubi_volume.specs.declared.content.Volume.{Volume}
use Rattle.ubi_laid.specs.Laid.{AreApart, CanBeLaid, laid_blocks}
use Rattle.ubi_laid.specs.LaidIn.{AreLaidIn}

-- each is a volume that a meaning can have
abbrev pub EachIsVolume : Sizes → VolumeMap → Type 0
EachIsVolume s volumes = (id : ℕ) → IfSome (get volumes id) (IsVolume s id)

-- each LEB of volumes can be laid out
abbrev pub EachCanBeLaid : Type 0
EachCanBeLaid = (s : Sizes) (volumes : VolumeMap) → IsGeometry s → EachIsVolume s volumes
    → AllByRecursion (CanBeLaid s) (laid_blocks s (entries volumes))

-- no two of them are the same LEB
abbrev pub AllApart : Type 0
AllApart = (s : Sizes) (volumes : VolumeMap) → AreApart (laid_blocks s (entries volumes))

-- laid out among eraseblocks without a fault, wherever each LEB lies, volumes read what they hold
abbrev pub LaidRead : Type 0
LaidRead = (s : Sizes) (bs : List (List ℕ)) (volumes : VolumeMap) → IsGeometry s → EachIsVolume s volumes → NoFault s bs
    → AreLaidIn s bs volumes → (id : ℕ) (v : Volume) → get volumes id ≡ Some v → VolumeReads s bs id v.entry v.content
