-- The numbers of a geometry, as the words of a command give them.
use Rattle.std.specs.Prelude.{◌*◌, None, Some, unwrap_or}
use Rattle.ubi_media.specs.Geometry.{Sizes}
use Rattle.ubi_files.specs.declared.numbers.Numbers.{Numbers}

-- the sizes that the numbers name: if they are left out, the volume-identifier header follows the first page, the data
-- follow the second, and the device is as large as any
abbrev pub sizes_of : Numbers → Sizes
sizes_of n = record {
  peb_size = n.peb_size;
  page = n.page;
  vid_offset = unwrap_or n.vid_offset n.page;
  data_offset = unwrap_or n.data_offset (2 * n.page);
  pebs = unwrap_or n.pebs 1048576;
}

-- the numbers of a geometry, with none left out
abbrev pub numbers_of : Sizes → Numbers
numbers_of s = record {
  peb_size = s.peb_size;
  page = s.page;
  vid_offset = Some s.vid_offset;
  data_offset = Some s.data_offset;
  pebs = Some s.pebs;
}

-- the numbers of the greatest device that there is: no more is read of a file of unknown geometry
abbrev pub greatest_numbers : Numbers
greatest_numbers = record {
  peb_size = 16777216;
  page = 65536;
  vid_offset = None;
  data_offset = None;
  pebs = None;
}
