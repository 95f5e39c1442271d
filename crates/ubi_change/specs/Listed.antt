-- What is found in listed eraseblocks, which a plan doesn't see, but a kernel may.
use Rattle.std.specs.Prelude.{ℕ, ◌+◌, ◌==◌, Bool, List, if◌then◌else◌, length, map, min, nat_lt, slice_index, None, Option, refl, Some}
use Rattle.std.specs.Coded.{Coded, code_by, coded×, coded_list, coded_ℕ}
use Rattle.std.specs.List.{range_with_len}
use Rattle.std.specs.Option.{option_map_or}
use Rattle.ubi_media.specs.Geometry.{Sizes, slots}
use Rattle.ubi_media.specs.declared.vid.VidHeader.{VidHeader}
use Rattle.ubi_media.specs.declared.vid.VidRead.{VidRead}
use Rattle.ubi_media.specs.declared.vid.VidRead.TheVariants as vid_read
use Rattle.ubi_scan.specs.Image.{block, vid}
use Rattle.ubi_scan.specs.Marks.{is_listed}
use Rattle.ubi_scan.specs.Numbers.{greatest}

-- what headers name that are hidden from a plan: the greatest sequence number, 0 if there is none; and by the number of each volume one
-- more than the greatest LEB, 0 if there is none
pub record Hidden : Type 0 where
  pub above : ℕ
  pub ends : List ℕ

-- what is hidden, as a pair
abbrev pub hidden_code : Coded Hidden
hidden_code = code_by (ℕ × List ℕ) (coded× coded_ℕ (coded_list coded_ℕ)) (λ h. (h.above, h.ends)) (λ p. record { above = p.0; ends = p.1 }) (λ _. refl)

-- whether a LEB of a volume, at or above a number, is hidden, by one more than the greatest of each volume
abbrev pub is_hidden : List ℕ → ℕ → ℕ → Bool
is_hidden ends vol from = nat_lt from (slice_index ends vol)

-- a volume-identifier header that is Valid
abbrev pub valid_header : VidRead → Option VidHeader
valid_header (vid_read.Valid h) = Some h
valid_header _ = None

-- the sequence number that a header names, 0 if there is none
abbrev pub sqnum_named : Option VidHeader → ℕ
sqnum_named o = option_map_or (λ h. h.sqnum) o 0

-- one more than the LEB of a volume that a header names, 0 if there is none or it names another volume
abbrev pub end_named : ℕ → Option VidHeader → ℕ
end_named vol o = option_map_or (λ h. if h.vol_id == vol then h.lnum + 1 else 0) o 0

module _ (s : Sizes) (bs : List (List ℕ)) (marks : List Bool) where
  -- the Valid volume-identifier header of an eraseblock, if it is listed
  abbrev pub listed_header : ℕ → Option VidHeader
  listed_header p = if is_listed marks p then valid_header (vid s (block bs p)) else None

  -- the greatest sequence number that a header of the first n eraseblocks names
  abbrev pub listed_top_of : ℕ → ℕ
  listed_top_of n = greatest (map (λ p. sqnum_named (listed_header p)) (range_with_len 0 n))

  -- one more than the greatest LEB of a volume that one of them names
  abbrev pub listed_end_of : ℕ → ℕ → ℕ
  listed_end_of n vol = greatest (map (λ p. end_named vol (listed_header p)) (range_with_len 0 n))

  -- how many eraseblocks the device has
  abbrev pub held : ℕ
  held = min (length bs) s.pebs

  -- what headers of the listed eraseblocks of the device name, for volumes in slots
  abbrev pub hidden_in : Hidden
  hidden_in = record { above = listed_top_of held; ends = map (listed_end_of held) (range_with_len 0 (slots s)) }
