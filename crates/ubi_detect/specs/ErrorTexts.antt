-- The texts that are printed if no geometry is found in a file.
use Rattle.std.specs.Prelude.{ℕ, List, ◌++◌, codes, decimal}
use Rattle.ubi_detect.specs.declared.detect.DetectError.{DetectError}
use Rattle.ubi_detect.specs.declared.detect.DetectError.TheVariants as detect
use Rattle.ubi_detect.specs.declared.detect.Undetected.{Undetected}
use Rattle.ubi_detect.specs.declared.detect.Undetected.TheVariants as cause

-- the text that says why no geometry is found in a file
abbrev pub undetected_text : Undetected → List ℕ
undetected_text cause.NoHeader = codes "F1 NoHeader"
undetected_text cause.NoSize = codes "F2 NoSize"
undetected_text (cause.Length size rest) = codes "F3 Length peb=" ++ decimal size ++ codes " rest=" ++ decimal rest
undetected_text (cause.OutOfBand size) = codes "F5 OutOfBand peb=" ++ decimal size
undetected_text (cause.Page size o) =
    codes "F6 Page peb=" ++ decimal size ++ codes " vid=" ++ decimal o.vid_offset ++ codes " data=" ++ decimal o.data_offset

-- the text that says why the geometry of a source isn't detected
abbrev pub detect_error_text : DetectError → List ℕ
detect_error_text (detect.Undetected c) = undetected_text c
detect_error_text (detect.Read at) = codes "a read failed at=" ++ decimal at
detect_error_text detect.Memory = codes "out of memory"
