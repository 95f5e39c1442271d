-- Laws of an image that lies in a file, with anything before and after it: the file shows the same image as the image's own bytes.
use Rattle.std.specs.Prelude.{◌≡◌, ◌≢◌, ℕ, ◌+◌, ◌-◌, ◌*◌, ◌%◌, ◌<◌, ◌≤◌, ◌⊎◌, IsFalse, IsTrue, List, [], Some, length, map, slice_range}
use Rattle.ubi_detect.specs.Detected.{AreDetected, IsWholeGroup, NonePlain}
use Rattle.ubi_detect.specs.Groups.{Says, spoken}
use Rattle.ubi_detect.specs.Heads.{heads_of, is_of, key_at, key_count, most_keys, step}
use Rattle.ubi_detect.specs.Place.{end_of_image, end_of_last, start_of_image, told}
use Rattle.ubi_detect.specs.Sure.{is_sure}
use Rattle.ubi_detect.specs.declared.detect.Detected.{Detected}
use Rattle.ubi_detect.specs.declared.groups.Group.{Group}
use Rattle.ubi_detect.specs.declared.heads.Key.{Key}

-- some bytes lie in a file from a place on, where a header may stand
pub record LiesAt (file : List ℕ) (at : ℕ) (part : List ℕ) : Type 0 where
  pub unit : at % step ≡ 0
  pub inside : at + length part ≤ length file
  pub bytes : slice_range file at (at + length part) ≡ part

-- such bytes have headers that say a group, whose last eraseblock is all there
pub record HoldsPart (file : List ℕ) (at : ℕ) (part : List ℕ) (g : Group) : Type 0 where
  pub lies : LiesAt file at part
  pub index : ℕ
  pub says : Says (heads_of part) index g
  pub whole : end_of_last g ≤ length part

-- each header that doesn't lie within the n bytes from a place on is of another image than those of k
abbrev pub NoneOutside : List ℕ → ℕ → ℕ → Key → Type 0
NoneOutside file at n k = (u : ℕ) (l : Key) → u * step + step ≤ length file → key_at file (u * step) ≡ Some l
    → (u * step < at) ⊎ (at + n < u * step + step) → IsFalse (is_of k l) × IsFalse (is_of l k)

-- nothing else is found in the file: no header outside is of the group's image, no other group speaks for as many bytes, and the
-- file is neither plainly an image nor one of too many keys
pub record IsForemost (file : List ℕ) (at : ℕ) (part : List ℕ) (g : Group) : Type 0 where
  pub none : NoneOutside file at (length part) g.key
  pub most : (j : ℕ) (f : Group) → Says (heads_of file) j f → f.key ≢ g.key → spoken f < spoken g
  pub plain : NonePlain file
  pub few : key_count file ≤ most_keys

-- the group of the same headers, this many bytes further on
abbrev pub moved : ℕ → Group → Group
moved at g = record g { first = at + g.first; last = at + g.last }

-- the same geometry, for an image that is all whole eraseblocks of a file on the grid of a group
abbrev pub placed_in : List ℕ → Group → Detected → Detected
placed_in file g d = record d { start = start_of_image g; length = end_of_image file g - start_of_image g }

-- the group is that of the file's image
abbrev pub PartOfFile : Type 0
PartOfFile = (file : List ℕ) (at : ℕ) (part : List ℕ) (g : Group) → HoldsPart file at part g → IsForemost file at part g
    → IsWholeGroup file (moved at g)

-- the size of the image is sure in the file if it is in its own bytes
abbrev pub SureOfPart : Type 0
SureOfPart = (file : List ℕ) (at : ℕ) (part : List ℕ) (g : Group) → HoldsPart file at part g
    → is_sure file (moved at g) ≡ is_sure part g

-- what is found in the file has the geometries that are found in the image's own bytes
abbrev pub ToldOfPart : Type 0
ToldOfPart = (file : List ℕ) (at : ℕ) (part : List ℕ) (g : Group) → HoldsPart file at part g → IsForemost file at part g
    → IsTrue (is_sure part g) → told part g ≢ [] → AreDetected file (map (placed_in file (moved at g)) (told part g))
