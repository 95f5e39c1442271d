-- The geometry of a size, of offsets and of a page, if the data begin where Linux has them.
use Rattle.std.specs.Prelude.{ℕ, ◌+◌, ◌*◌, ◌==◌, ◌&&◌, Bool, Option, is_none}
use Rattle.std.specs.Int.{div_ceil}
use Rattle.std.specs.Bool.{then_some}
use Rattle.ubi_media.specs.Geometry.{Sizes}
use Rattle.ubi_media.specs.Limits.{first_broken}
use Rattle.ubi_media.specs.declared.ec.EcOffsets.{EcOffsets}

-- the sizes of a device with eraseblocks of a size, with a page and with offsets; it may have as many eraseblocks as any
abbrev pub layout_sizes : ℕ → EcOffsets → ℕ → Sizes
layout_sizes size o page =
    record { peb_size = size; page = page; vid_offset = o.vid_offset; data_offset = o.data_offset; pebs = 1048576 }

-- where Linux has the data begin: at the end of the volume-identifier header, rounded up to a page
abbrev pub data_place : ℕ → ℕ → ℕ
data_place page vid_offset = div_ceil (vid_offset + 64) page * page

-- whether sizes are those of a geometry whose data begin where Linux has them
abbrev pub is_laid_out : Sizes → Bool
is_laid_out s = (data_place s.page s.vid_offset == s.data_offset) && is_none (first_broken s)

-- the geometry of a page, if it is one
abbrev pub geometry_of : ℕ → EcOffsets → ℕ → Option Sizes
geometry_of size o page = then_some (is_laid_out (layout_sizes size o page)) (layout_sizes size o page)
