-- What is answered for a build that ended.
use Rattle.std.specs.Prelude.{ℕ, ◌/◌, ◌∷◌, List, Contains, Result, Ok, Err, codes}
use Rattle.ubi_media.specs.Geometry.{Sizes}
use Rattle.ubi_config.specs.declared.section.Section.{Section}
use Rattle.ubi_compose.specs.declared.errors.BuildError.{BuildError}
use Rattle.ubi_compose.specs.declared.errors.BuildError.TheVariants as build
use Rattle.ubi_files.specs.Answer.{Gives, says}
use Rattle.ubi_writing.specs.Build.{IsUnreadLine, image_paths}
use Rattle.ubi_writing.specs.inner.Gathering.{AreUnread}
use Rattle.ubi_writing.specs.Compose.{room_line}
use Rattle.ubi_writing.specs.Lines.{blocks_line}
use Rattle.ubi_files.specs.Lines.{file_line}
use Rattle.ubi_writing.specs.declared.build.Answers.{Answers}
use Rattle.ubi_files.specs.declared.outcome.Outcome.{Outcome}

-- the lines of files that fail: of those that sections name and that hold the bytes of volumes, of the config, and of the output
pub record AreAnswers (config out : List ℕ) (sections : List Section) (a : Answers) : Type 0 where
  pub unread : AreUnread config sections a.unread.items
  pub unread_else : IsUnreadLine config a.unread_else
  pub unwritten : Gives a.unwritten (says (file_line (codes "cannot write ") out) 1)

-- what is answered when a build ended: how many eraseblocks were written; or the line of a device that is too small, of a file
-- that can't be read, or of the output; nothing if memory ran out
abbrev pub IsToldOf : Sizes → List ℕ → List ℕ → List Section → Result ℕ BuildError → Outcome → Type 0
IsToldOf s config out sections (Ok n) o = Gives o (says (blocks_line (n / s.peb_size)) 0)
IsToldOf s config out sections (Err build.TooMany) o = Gives o (says room_line 1)
IsToldOf s config out sections (Err build.Memory) o = ⊥
IsToldOf s config out sections (Err (build.Write n)) o = Gives o (says (file_line (codes "cannot write ") out) 1)
IsToldOf s config out sections (Err _) o =
    (path : List ℕ) × Contains (config ∷ image_paths config sections) path × IsUnreadLine path o

-- a build that failed before anything was written
abbrev pub IsNotBegun : BuildError → Type 0
IsNotBegun (build.Read id n) = ⊥
IsNotBegun (build.Write n) = ⊥
IsNotBegun _ = Unit {0}
