-- What a command can answer over one file.
use Rattle.std.specs.Prelude.{◌≡◌, ℕ, ◌*◌, ◌+◌, ◌≤◌, List, length, Some, None, IfSome, codes}
use Rattle.ubi_media.specs.Geometry.{Sizes}
use Rattle.ubi_media.specs.Limits.{first_broken}
use Rattle.ubi_media.specs.declared.geometry.GeometryError.{GeometryError}
use Rattle.ubi_scan.specs.Image.{Image, image_of}
use Rattle.ubi_scan.specs.Source.{Agreed, Source, holds, known_by, memory}
use Rattle.ubi_files.specs.Answer.{Gives, says}
use Rattle.ubi_files.specs.Disk.{Files, IsJudgedOf}
use Rattle.ubi_files.specs.Dump.{Fits, FitsWhole, as_read, misfit_of, seen, whole_len}
use Rattle.ubi_files.specs.Lines.{file_line, geometry_line, misfit_line}
use Rattle.ubi_files.specs.Numbers.{sizes_of}
use Rattle.ubi_files.specs.declared.dump.Dump.{Dump}
use Rattle.ubi_files.specs.declared.numbers.Numbers.{Numbers}
use Rattle.ubi_files.specs.declared.outcome.Outcome.{Outcome}
use Rattle.ubi_files.specs.declared.view.Misfit.{Misfit}

-- what is answered if an image can't be opened: the line of a limit that the numbers break, or of a file that can't be
-- read
pub data IsUnread (numbers : Numbers) (path : List ℕ) : Outcome → Type 0 where
  bad_limit : {o : Outcome} (e : GeometryError) → first_broken (sizes_of numbers) ≡ Some e → Gives o (says (geometry_line e) 2)
      → IsUnread numbers path o
  cannot_read : {o : Outcome} → first_broken (sizes_of numbers) ≡ None → Gives o (says (file_line (codes "cannot read ") path) 1)
      → IsUnread numbers path o

-- what is answered if a dump can't be opened: the same; or the line of why the file can't be read as the dump, by how many bytes it has,
-- or if it is read whole, by how many of them were read
pub data IsUnseen (d : Files) (dump : Dump) (path : List ℕ) : Outcome → Type 0 where
  unreadable : {o : Outcome} → IsUnread dump.numbers path o → IsUnseen d dump path o
  unfit : {o : Outcome} (n : ℕ) (m : Misfit) → first_broken (sizes_of dump.numbers) ≡ None
      → IfSome (d.holds path) (λ all. n ≡ length all) → misfit_of dump n ≡ Some m → Gives o (says (misfit_line m) 1)
      → IsUnseen d dump path o
  unfit_whole : {o : Outcome} (n : ℕ) (m : Misfit) → first_broken (sizes_of dump.numbers) ≡ None
      → IfSome (d.holds path) (λ all. n ≡ whole_len dump (length all)) → misfit_of (as_read dump) n ≡ Some m
      → Gives o (says (misfit_line m) 1) → IsUnseen d dump path o

-- the sizes break no limit, and the bytes are at most one more than the device has
pub record IsRead (s : Sizes) (bytes : List ℕ) : Type 0 where
  pub limits : first_broken s ≡ None
  pub few : length bytes ≤ s.pebs * s.peb_size + 1

-- what a command over one image file can answer: the same, or the answer for the image that the file holds
pub data OfImage (d : Files) (numbers : Numbers) (path : List ℕ) (answers : Image → Outcome → Type 0) : Outcome → Type 0 where
  no_image : {o : Outcome} → IsUnread numbers path o → OfImage d numbers path answers o
  image : {o : Outcome} (bytes : List ℕ) → IsRead (sizes_of numbers) bytes → IsJudgedOf d path (sizes_of numbers) bytes
      → answers (image_of (sizes_of numbers) bytes) o → OfImage d numbers path answers o

-- something is known of a dump that can be read: of a source that holds the bytes that are seen of it, read whole; or of a source
-- that is known by reads, with which the bytes that are seen agree
pub data WhereRead (d : Files) (dump : Dump) (path : List ℕ) (known : Source → Agreed → Type 0) : Type 0 where
  whole : (bytes : List ℕ) → IsRead (sizes_of dump.numbers) bytes → IsJudgedOf (seen dump d) path (sizes_of dump.numbers) bytes
      → FitsWhole d dump path → known (memory bytes) (holds bytes) → WhereRead d dump path known
  places : (k : Source) (reads : List (ℕ × List ℕ)) → first_broken (sizes_of dump.numbers) ≡ None → k.failures ≡ 0
      → IfSome ((seen dump d).holds path) (known_by k.size reads) → Fits d dump path → known k (known_by k.size reads)
      → WhereRead d dump path known

-- what a command can answer over a dump of known geometry: the answer if it can't be opened, or the answer for a source
pub data OfFile (d : Files) (dump : Dump) (path : List ℕ) (answers : Sizes → Source → Agreed → Outcome → Type 0) : Outcome
    → Type 0 where
  no_file : {o : Outcome} → IsUnseen d dump path o → OfFile d dump path answers o
  file : {o : Outcome} → WhereRead d dump path (λ k agrees. answers (sizes_of dump.numbers) k agrees o) → OfFile d dump path answers o
