-- What is detected about the geometry of a file, or why nothing is.
use Rattle.std.specs.Prelude.{IfErr, ◌≡◌, ◌≢◌, ℕ, ◌-◌, ◌<◌, ◌≤◌, ◌⊎◌, IsFalse, IsTrue, List, [], Result, Err, length}
use Rattle.ubi_detect.specs.Groups.{IsImage}
use Rattle.ubi_detect.specs.Heads.{heads_of, key_count, most_keys}
use Rattle.ubi_detect.specs.Place.{end_of_last, has_no_page, told}
use Rattle.ubi_detect.specs.Plain.{IsSurelyPlain}
use Rattle.ubi_scan.specs.Source.{Agreed, Narrows, Source, WhereHeld, failed}
use Rattle.ubi_scan.specs.declared.source.BlockSource.{Ghosts}
use Rattle.ubi_detect.specs.Sure.{is_sure}
use Rattle.ubi_detect.specs.declared.detect.DetectError.{DetectError}
use Rattle.ubi_detect.specs.declared.detect.DetectError.TheVariants as error
use Rattle.ubi_detect.specs.declared.detect.Detected.{Detected}
use Rattle.ubi_detect.specs.declared.detect.Undetected.{Undetected}
use Rattle.ubi_detect.specs.declared.detect.Undetected.TheVariants as cause
use Rattle.ubi_detect.specs.declared.groups.Group.{Group}

-- no group is plainly that of the file's image
abbrev pub NonePlain : List ℕ → Type 0
NonePlain bytes = (g : Group) → IsSurelyPlain bytes g → ⊥

-- this is the group of the image that the headers of a file say, if none plainly is, the headers name few keys, and the last
-- eraseblock of the image is all there
pub record IsWholeGroup (bytes : List ℕ) (g : Group) : Type 0 where
  pub none : NonePlain bytes
  pub few : key_count bytes ≤ most_keys
  pub index : ℕ
  pub image : IsImage (heads_of bytes) index g
  pub whole : end_of_last g ≤ length bytes

-- this is the group of the image that a file holds
abbrev pub IsFound : List ℕ → Group → Type 0
IsFound bytes g = IsSurelyPlain bytes g ⊎ (IsWholeGroup bytes g × IsTrue (is_sure bytes g))

-- this is what is found in a file
pub record AreDetected (bytes : List ℕ) (found : List Detected) : Type 0 where
  pub group : Group
  pub is : IsFound bytes group
  pub are : found ≡ told bytes group
  pub some : found ≢ []

-- why nothing is found
abbrev pub IsUndetected : List ℕ → Undetected → Type 0
-- no header stands in the file
IsUndetected bytes cause.NoHeader = heads_of bytes ≡ []
-- headers do, but they name too many keys, or no group says a size, or the size isn't sure
IsUndetected bytes cause.NoSize =
    (heads_of bytes ≢ []) × NonePlain bytes × ((most_keys < key_count bytes)
    ⊎ (((j : ℕ) (g : Group) → IsImage (heads_of bytes) j g → ⊥) ⊎ ((g : Group) × IsWholeGroup bytes g × IsFalse (is_sure bytes g))))
-- they name few keys, and only `rest` bytes of the last eraseblock of the image are there
IsUndetected bytes (cause.Length size rest) =
    NonePlain bytes × (key_count bytes ≤ most_keys) × ((j : ℕ) × (g : Group) × IsImage (heads_of bytes) j g × (length bytes < end_of_last g) × (size ≡ g.size)
    × (rest ≡ length bytes - g.last))
-- there are pages, and no volume-identifier header stands where one of them has it
IsUndetected bytes (cause.OutOfBand size) =
    (g : Group) × IsFound bytes g × (told bytes g ≡ []) × IsFalse (has_no_page g) × (size ≡ g.size)
-- no page fits the size and the offsets
IsUndetected bytes (cause.Page size o) =
    (g : Group) × IsFound bytes g × (told bytes g ≡ []) × IsTrue (has_no_page g) × (size ≡ g.size) × (o ≡ g.key.offsets)

-- what is known of a source afterwards: one read has failed if the answer is Read, and none if it isn't
abbrev pub after_detecting : {A : Type 0} → Source → Result A DetectError → Source
after_detecting k (Err (error.Read _)) = failed k
after_detecting k _ = k

-- the answer names the place where a failed read began
abbrev pub NamesPlace : ℕ → DetectError → Type 0
NamesPlace at (error.Read place) = place ≡ at
NamesPlace at _ = Unit {0}

-- what a call does to a source: one more read has failed if the answer is Read, and none otherwise; what the source may hold, it could
-- hold before; and Read names the place where the failed read began
pub record Looks {S A : Type 0} (g : Ghosts S) (old new : S) (result : Result A DetectError) : Type 0 where
  pub known : g.known new ≡ after_detecting (g.known old) result
  pub narrows : Narrows (g.agrees old) (g.agrees new)
  pub named : IfErr result (NamesPlace (g.failed_at new))

-- what is found in a source: it is right for whatever the source may hold
abbrev pub AreDetectedOf : Agreed → List Detected → Type 0
AreDetectedOf agrees found = WhereHeld agrees (λ bytes. AreDetected bytes found)

-- why nothing is found in a source: for a cause that applies to whatever it may hold; or a read that began in it failed; or memory
-- ran out
abbrev pub IsDetectError : Source → Agreed → DetectError → Type 0
IsDetectError k agrees (error.Undetected c) = WhereHeld agrees (λ bytes. IsUndetected bytes c)
IsDetectError k agrees (error.Read at) = at < k.size
IsDetectError k agrees error.Memory = Unit {0}
