-- How the sections of a config are gathered, in order.
use Rattle.std.specs.Prelude.{◌≡◌, ℕ, List, [], ◌∷◌, IfSome, MatchOption, None, Ok, Option, Some, length, sum_by}
use Rattle.ubi_media.specs.Geometry.{Sizes}
use Rattle.ubi_media.specs.declared.record.VolumeRecord.{VolumeRecord}
use Rattle.ubi_config.specs.Records.{record_in}
use Rattle.ubi_config.specs.declared.section.Section.{Section}
use Rattle.ubi_laid.specs.declared.part.Part.{Part}
use Rattle.ubi_writing.specs.Build.{AreGathered, IsUnreadLine, Sized, image_path, len_of, section_part}
use Rattle.ubi_files.specs.Disk.{Files}
use Rattle.ubi_files.specs.declared.outcome.Outcome.{Outcome}
use Rattle.std.specs.Prelude.{Contains}
use Rattle.std.specs.List.{AllByRecursion}
use Rattle.ubi_writing.specs.Build.{image_paths}

-- the image file of a section was found, if it names one: what it holds, if that is known, and its size in bytes; and the line
-- that is answered if it can't be read, or else that of the config
abbrev pub IsFoundFile : Files → List ℕ → Section → Outcome → Option (Option (List ℕ) × ℕ) → Type 0
IsFoundFile d config x unread file = MatchOption x.image ((file ≡ None) × IsUnreadLine config unread)
    (λ image. (held : Option (List ℕ)) × (n : ℕ) × (file ≡ Some (held, n)) × (held ≡ d.holds (image_path config image))
    × IfSome held (λ all. length all ≡ n) × IsUnreadLine (image_path config image) unread)

-- the part is the volume of a section, whose bytes begin at a place
abbrev pub IsSectionPart : Sizes → ℕ → Sized → Part → Type 0
IsSectionPart s start e p = (r : VolumeRecord) × (record_in s e.0 e.1 ≡ Ok r) × (p ≡ section_part start e r)

-- an element, if there is one, as a list
abbrev pub as_list : {X : Type 0} → Option X → List X
as_list None = []
as_list (Some x) = x ∷ []

-- what sections give so far, whose files have this many bytes together
pub record AreSoFar (d : Files) (s : Sizes) (config : List ℕ) (sections : List Section) (parts : List Part)
    (held : List (Option (List ℕ))) (n : ℕ) : Type 0 where
  pub gathered : AreGathered d s config sections parts held
  pub total : n ≡ sum_by len_of gathered.sized

-- each is the line of a file that can't be read: of an image file that the sections name, or of the config
abbrev pub AreUnread : List ℕ → List Section → List Outcome → Type 0
AreUnread config sections lines =
    AllByRecursion (λ o. (path : List ℕ) × Contains (config ∷ image_paths config sections) path × IsUnreadLine path o) lines
