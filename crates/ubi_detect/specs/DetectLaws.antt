-- Laws of what is detected.
use Rattle.std.specs.Prelude.{◌≡◌, ℕ, ◌+◌, ◌-◌, ◌<◌, ◌≤◌, ◌⊎◌, Contains, IsFalse, IsTrue, List, None, length}
use Rattle.std.specs.Int.{◌∣◌}
use Rattle.ubi_media.specs.Limits.{first_broken}
use Rattle.ubi_detect.specs.Detected.{AreDetected, IsFound, IsUndetected}
use Rattle.ubi_detect.specs.Groups.{Divides, IsImage}
use Rattle.ubi_detect.specs.Heads.{heads_of, places}
use Rattle.ubi_detect.specs.Layout.{data_place, layout_sizes}
use Rattle.ubi_detect.specs.Place.{end_of_image, end_of_last, has_vote, is_voted, is_without, start_of_image, told, told_by, ways_with}
use Rattle.ubi_detect.specs.declared.detect.Detected.{Detected}
use Rattle.ubi_detect.specs.declared.detect.Undetected.{Undetected}
use Rattle.ubi_detect.specs.declared.groups.Group.{Group}
use Rattle.ubi_detect.specs.declared.heads.Head.{Head}
use Rattle.ubi_detect.specs.declared.way.Way.{Way}

-- headers say at most one image
abbrev pub OneImage : Type 0
OneImage = (heads : List Head) (i j : ℕ) (f g : Group) → IsImage heads i f → IsImage heads j g → (i ≡ j) × (f ≡ g)

-- a file holds at most one image
abbrev pub OneFound : Type 0
OneFound = (bytes : List ℕ) (f g : Group) → IsFound bytes f → IsFound bytes g → f ≡ g

-- at least two headers say the image of a file
abbrev pub TwoHeaders : Type 0
TwoHeaders = (bytes : List ℕ) (g : Group) → IsFound bytes g → 2 ≤ g.count

-- each header of the image that the headers of a file say stands at the start of one of its eraseblocks, from the first one to the last
abbrev pub EachOnGrid : Type 0
EachOnGrid = (bytes : List ℕ) (j p : ℕ) (g : Group) → IsImage (heads_of bytes) j g → Contains (places (heads_of bytes) g.key) p
    → (g.first ≤ p) × (p ≤ g.last) × (g.size ∣ (p - g.first))

-- the size of the image is the greatest of which all distances between its headers are multiples
abbrev pub GreatestSize : Type 0
GreatestSize = (bytes : List ℕ) (j q : ℕ) (g : Group) → IsImage (heads_of bytes) j g → Divides q (places (heads_of bytes) g.key)
    → q ≤ g.size

-- if all headers of the image stand at multiples of q from the first, and two of them stand q apart, its size is q
abbrev pub SizeOfImage : Type 0
SizeOfImage = (bytes : List ℕ) (j q p : ℕ) (g : Group) → IsImage (heads_of bytes) j g → 1 ≤ q
    → Divides q (places (heads_of bytes) g.key) → Contains (places (heads_of bytes) g.key) p → Contains (places (heads_of bytes) g.key) (p + q)
    → g.size ≡ q

-- a page that Linux lays out so, without out-of-band bytes, is among those that are found for an image, if one volume-identifier header
-- stands where this page has it, and eraseblocks of its size have no out-of-band bytes, or fewer volume-identifier headers say that they do
abbrev pub GeometryOfImage : Type 0
GeometryOfImage = (bytes : List ℕ) (g : Group) (page : ℕ) → IsFound bytes g
    → let s = layout_sizes g.size g.key.offsets page in let w : Way = record { geometry = s; oob = 0 } in
    first_broken s ≡ None → data_place page g.key.offsets.vid_offset ≡ g.key.offsets.data_offset
    → IsTrue (is_without bytes g) → IsTrue (has_vote bytes g w)
    → AreDetected bytes (told bytes g) × Contains (told bytes g) (told_by (start_of_image g) (end_of_image bytes g) w)

-- so is a page with out-of-band bytes, if they don't: as many volume-identifier headers stand where it has them as for any other
abbrev pub OutOfBandOfImage : Type 0
OutOfBandOfImage = (bytes : List ℕ) (g : Group) (w : Way) → IsFound bytes g → Contains (ways_with g) w → IsFalse (is_without bytes g)
    → IsTrue (is_voted bytes g w)
    → AreDetected bytes (told bytes g) × Contains (told bytes g) (told_by (start_of_image g) (end_of_image bytes g) w)

-- the place of an image is all whole eraseblocks of the file on the grid of its headers: less than one eraseblock lies before it, and
-- less than one behind it; if the eraseblock of the last header is all there, it lies in the place
abbrev pub PlaceOnGrid : Type 0
PlaceOnGrid = (bytes : List ℕ) (g : Group) → 1 ≤ g.size → g.first ≤ g.last → end_of_last g ≤ length bytes
    → g.size ∣ (g.last - g.first)
    → (start_of_image g < g.size) × (start_of_image g ≤ g.first) × (g.size ∣ (g.first - start_of_image g))
    × (end_of_last g ≤ end_of_image bytes g) × (g.size ∣ (end_of_image bytes g - end_of_last g))
    × (end_of_image bytes g ≤ length bytes) × (length bytes < end_of_image bytes g + g.size)

-- what is found in a file is one list
abbrev pub OneDetection : Type 0
OneDetection = (bytes : List ℕ) (found other : List Detected) → AreDetected bytes found → AreDetected bytes other → found ≡ other

-- a file in which something is found isn't refused
abbrev pub DetectedOrNot : Type 0
DetectedOrNot = (bytes : List ℕ) (found : List Detected) (c : Undetected) → AreDetected bytes found → IsUndetected bytes c → ⊥

-- a file is refused for at most one cause
abbrev pub OneUndetected : Type 0
OneUndetected = (bytes : List ℕ) (c d : Undetected) → IsUndetected bytes c → IsUndetected bytes d → c ≡ d

-- in each file something is found, or it is refused for a cause
abbrev pub DetectedOrRefused : Type 0
DetectedOrRefused = (bytes : List ℕ) → ((found : List Detected) × AreDetected bytes found) ⊎ ((c : Undetected) × IsUndetected bytes c)
