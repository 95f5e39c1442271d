-- The limits of a geometry, in the order in which they are tried.
use Rattle.std.specs.Prelude.{◌+◌, ◌%◌, ◌==◌, ◌&&◌, Bool, not, nat_le, List, [], ◌∷◌, Option, find}
use Rattle.std.specs.List.{list_any}
use Rattle.ubi_media.specs.Geometry.{Sizes, leb_size, page_sizes}
use Rattle.ubi_media.specs.declared.geometry.GeometryError.{GeometryError}
use Rattle.ubi_media.specs.declared.geometry.GeometryError.TheVariants as fault

-- whether the numbers keep the limit that an error is named after
abbrev pub keeps : Sizes → GeometryError → Bool
keeps s fault.Page = list_any (λ size. size == s.page) page_sizes
keeps s fault.PebSize = nat_le s.page s.peb_size && nat_le s.peb_size 16777216 && (s.peb_size % s.page == 0)
keeps s fault.VidOffset = nat_le 64 s.vid_offset && (s.vid_offset % 64 == 0)
keeps s fault.DataOffset = nat_le (s.vid_offset + 64) s.data_offset && (s.data_offset % s.page == 0)
keeps s fault.LebTooSmall = nat_le 172 (leb_size s)
keeps s fault.Pebs = nat_le 2 s.pebs && nat_le s.pebs 1048576

-- the limits, in the order in which they are tried
abbrev pub limits : List GeometryError
limits =
    fault.Page ∷ fault.PebSize ∷ fault.VidOffset ∷ fault.DataOffset ∷ fault.LebTooSmall ∷ fault.Pebs ∷ []

-- the first limit that the numbers break
unfoldable pub first_broken : Sizes → Option GeometryError
first_broken s = find (λ limit. not (keeps s limit)) limits
