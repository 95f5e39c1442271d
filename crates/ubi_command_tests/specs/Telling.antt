-- What is known about a disk for tests.
use Rattle.std.specs.Prelude.{◌&&◌, Bool, List, None, Option, codes, if◌then◌else◌, is_some, true, ℕ}
use Rattle.std.specs.Str.{bytes_eq}
use Rattle.ubi_files.specs.Disk.{Files}

-- the path of the disk's image
abbrev pub told_image : List ℕ
told_image = codes "told.img"

-- the path of the disk's output
abbrev pub out_path : List ℕ
out_path = codes "kept.img"

-- the path of the file of a volume for which its folder has room
abbrev pub unpacked_path : List ℕ
unpacked_path = codes "made/0-root"

-- the path of the config in that folder
abbrev pub written_path : List ℕ
written_path = codes "made/ubi.ini"

-- the path of the disk's config
abbrev pub told_config : List ℕ
told_config = codes "told.ini"

-- what its image, its config, its output and the files in its folder hold is known, if they are there; nothing is known of other paths
abbrev pub telling : Option (List ℕ) → Option (List ℕ) → Option (List ℕ) → Option (List ℕ) → Option (List ℕ) → Files
telling image config out unpacked written = record {
  tells = true;
  holds = λ path. if bytes_eq path out_path then out
      else (if bytes_eq path unpacked_path then unpacked
      else (if bytes_eq path written_path then written
      else (if bytes_eq path told_image then image else (if bytes_eq path told_config then config else None))));
}

-- whether its image can be opened: it can, if it is there
abbrev pub opens_image : Option (List ℕ) → List ℕ → Bool
opens_image image path = bytes_eq path told_image && is_some image
