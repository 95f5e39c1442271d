-- The geometry of a device, and the numbers that follow from it.
use Rattle.std.specs.Prelude.{◌≡◌, ℕ, ◌+◌, ◌-◌, ◌/◌, ◌%◌, ◌≤◌, ◌==◌, List, [], ◌∷◌, IsTrue, min}
use Rattle.std.specs.List.{list_any}

-- the five numbers of a geometry: the sizes of an eraseblock and of a page in bytes, the offsets of the
-- volume-identifier header and of the data in an eraseblock, and the number of eraseblocks of the device
pub record Sizes : Type 0 where
  pub peb_size : ℕ
  pub page : ℕ
  pub vid_offset : ℕ
  pub data_offset : ℕ
  pub pebs : ℕ

-- the size of a logical eraseblock in bytes: that of an eraseblock from the data on
abbrev pub leb_size : Sizes → ℕ
leb_size s = s.peb_size - s.data_offset

-- how many records a volume table has
abbrev pub slots : Sizes → ℕ
slots s = min 128 (leb_size s / 172)

-- the powers of two from 64 to 65,536
abbrev pub page_sizes : List ℕ
page_sizes =
    64 ∷ 128 ∷ 256 ∷ 512 ∷ 1024 ∷ 2048 ∷ 4096 ∷ 8192 ∷ 16384 ∷ 32768 ∷ 65536 ∷ []

-- what holds of the numbers of every geometry
pub record IsGeometry (s : Sizes) : Type 0 where
  pub page : IsTrue (list_any (λ size. size == s.page) page_sizes)
  pub page_multiple : s.page % 64 ≡ 0
  pub page_from : 64 ≤ s.page
  pub peb_from : s.page ≤ s.peb_size
  pub peb_to : s.peb_size ≤ 16777216
  pub peb_pages : s.peb_size % s.page ≡ 0
  pub vid_from : 64 ≤ s.vid_offset
  pub vid_multiple : s.vid_offset % 64 ≡ 0
  pub data_from : s.vid_offset + 64 ≤ s.data_offset
  pub data_pages : s.data_offset % s.page ≡ 0
  pub leb : s.data_offset + 172 ≤ s.peb_size
  pub pebs_from : 2 ≤ s.pebs
  pub pebs_to : s.pebs ≤ 1048576
