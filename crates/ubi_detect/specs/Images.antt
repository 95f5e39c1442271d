-- The images that lie in a file beside the one that is found.
use Rattle.std.specs.Prelude.{◌≡◌, ℕ, ◌+◌, ◌-◌, ◌*◌, ◌/◌, ◌%◌, ◌==◌, ◌&&◌, ◌||◌, ◌∷◌, ◌⊎◌, Bool, IsFalse, IsTrue, List, [], filter, if◌then◌else◌, is_some, length, map, min, nat_le, nat_lt, not, slice_range}
use Rattle.std.specs.List.{list_any}
use Rattle.ubi_media.specs.Ec.{ec_reading}
use Rattle.ubi_media.specs.Vid.{vid_reading}
use Rattle.ubi_scan.specs.Members.{member_if}
use Rattle.ubi_detect.specs.Detected.{IsWholeGroup}
use Rattle.ubi_detect.specs.Groups.{AreGroups, says_size}
use Rattle.ubi_detect.specs.Heads.{heads_of, same_offsets}
use Rattle.ubi_detect.specs.Place.{start_of_image}
use Rattle.ubi_detect.specs.Plain.{IsSurelyPlain}
use Rattle.ubi_detect.specs.Sure.{count_starts, is_sure}
use Rattle.ubi_detect.specs.Ways.{put}
use Rattle.ubi_detect.specs.declared.detect.Detected.{Detected}
use Rattle.ubi_detect.specs.declared.groups.Group.{Group}
use Rattle.ubi_detect.specs.declared.images.Images.{Images}
use Rattle.ubi_detect.specs.declared.images.Span.{Span}
use Rattle.ubi_detect.specs.declared.way.Way.{Way}

-- whether the headers of a group name the offsets of an image, and all stand where eraseblocks of it begin
abbrev pub is_kin : Group → Group → Bool
is_kin g f = same_offsets g.key f.key && (f.size % g.size == 0) && (f.first % g.size == start_of_image g)

-- where the eraseblock begins that has a place, on the grid of an image
abbrev pub block_with : Group → ℕ → ℕ
block_with g p = p - (p - start_of_image g) % g.size

-- whether 64 bytes at each of two places are there, and are the headers of a member of a LEB
abbrev pub are_headers : List ℕ → Way → ℕ → ℕ → Bool
are_headers bytes w ec vid =
    nat_le (ec + 64) (length bytes) && nat_le (vid + 64) (length bytes)
    && is_some (member_if (ec_reading w.geometry (slice_range bytes ec (ec + 64))) (vid_reading w.geometry (slice_range bytes vid (vid + 64))))

-- whether the eraseblock at a place is a member of a LEB
abbrev pub holds_member : List ℕ → Way → ℕ → Bool
holds_member bytes w b = are_headers bytes w b (b + put w w.geometry.vid_offset)

-- whether a place stands apart from an image: no whole eraseblock on its grid has it that is a member of a LEB
abbrev pub is_apart : List ℕ → Group → Way → ℕ → Bool
is_apart bytes g w p =
    nat_lt p (start_of_image g) || nat_lt (length bytes) (block_with g p + g.size) || not (holds_member bytes w (block_with g p))

-- whether a group is that of an image in the file: it says a size; and its headers stand where eraseblocks of the image that is found
-- begin, or two of them stand apart from it. So the headers of an image in a volume aren't those of an image in the file
abbrev pub is_image : List ℕ → Group → Way → List Group → Group → Bool
is_image bytes g w gs f = says_size gs f && (is_kin g f || nat_le 2 (count_starts bytes f (is_apart bytes g w)))

-- the groups that are
abbrev pub groups_of_images : List ℕ → Group → Way → List Group → List Group
groups_of_images bytes g w gs = filter (is_image bytes g w gs) gs

-- where the headers of a group stand in a file of n bytes, from the first one to the end of the eraseblock of the last one
abbrev pub span_of : ℕ → Group → Span
span_of n f = record { start = f.first; length = min (f.last + f.size) n - f.first }

-- where all images lie, if there are several
abbrev pub spans_of : ℕ → List Group → List Span
spans_of n fs = if nat_lt 1 (length fs) then map (span_of n) fs else []

-- whether one of them isn't on the grid of the image that is found, or names other offsets
abbrev pub are_apart : Group → List Group → Bool
are_apart g fs = list_any (λ f. not (is_kin g f)) fs

-- these are the images of a file, by the groups of its headers
pub record AreImagesAmong (bytes : List ℕ) (g : Group) (w : Way) (images : Images) : Type 0 where
  pub groups : List Group
  pub all : AreGroups (heads_of bytes) groups
  pub spans : images.spans.items ≡ spans_of (length bytes) (groups_of_images bytes g w groups)
  pub apart : images.are_apart ≡ are_apart g (groups_of_images bytes g w groups)

-- there are no other images
pub record AreNoOthers (images : Images) : Type 0 where
  pub spans : images.spans.items ≡ []
  pub apart : IsFalse images.are_apart

-- the geometry and the out-of-band bytes of what is found
abbrev pub told_way : Detected → Way
told_way told = record { geometry = told.geometry; oob = told.oob }

-- these are the images of a file, if this is found in it: none beside it if the file is plainly an image
abbrev pub AreImages : List ℕ → Detected → Images → Type 0
AreImages bytes told images = (g : Group)
    × ((IsSurelyPlain bytes g × AreNoOthers images)
    ⊎ (IsWholeGroup bytes g × IsTrue (is_sure bytes g) × AreImagesAmong bytes g (told_way told) images))

-- the same for the first of all that is found
abbrev pub AreImagesBeside : List ℕ → List Detected → Images → Type 0
AreImagesBeside bytes found images =
    (first : Detected) × (more : List Detected) × (found ≡ first ∷ more) × AreImages bytes first images
