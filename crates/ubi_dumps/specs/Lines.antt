-- Printed lines of dumps that aren't found, or have other geometries; and the words of geometries and volumes.
use Rattle.std.specs.Prelude.{ℕ, List, ◌++◌, codes, decimal}
use Rattle.std.specs.List.{flat_map}
use Rattle.ubi_media.specs.Geometry.{Sizes}
use Rattle.ubi_detect.specs.ErrorTexts.{undetected_text}
use Rattle.ubi_detect.specs.declared.detect.Undetected.{Undetected}
use Rattle.ubi_detect.specs.declared.images.Span.{Span}
use Rattle.ubi_volume.specs.declared.block.Amount.{Amount}
use Rattle.ubi_volume.specs.declared.block.Amount.TheVariants as amount
use Rattle.ubi_files.specs.Lines.{refused_line}

-- the line of a file in which no geometry is found
abbrev pub undetected_line : Undetected → List ℕ
undetected_line c = refused_line (undetected_text c)

-- the same for one of two files, after the side on which it stands
abbrev pub undetected_side_line : List ℕ → Undetected → List ℕ
undetected_side_line side c = side ++ undetected_line c

-- where an image of a file lies
abbrev pub span_words : Span → List ℕ
span_words span = codes " start=" ++ decimal span.start ++ codes " length=" ++ decimal span.length

-- the line of a file, or of one of two after the side on which it stands, that has several images apart from each other
abbrev pub images_side_line : List ℕ → List Span → List ℕ
images_side_line side spans = side ++ codes "refused F10 Images" ++ flat_map span_words spans ++ codes "\n"

-- how much a volume reads, or why it can't be read
abbrev pub amount_word : Amount → List ℕ
amount_word amount.Updating = codes "updating"
amount_word amount.Damaged = codes "damaged"
amount_word (amount.Bytes bytes) = codes "bytes=" ++ decimal bytes
amount_word (amount.Lebs count) = codes "lebs=" ++ decimal count

-- the numbers of a geometry except how many eraseblocks there are
unfoldable pub layout_words : Sizes → List ℕ
layout_words s =
    codes "peb=" ++ decimal s.peb_size ++ codes " page=" ++ decimal s.page ++ codes " vid=" ++ decimal s.vid_offset
    ++ codes " data=" ++ decimal s.data_offset

-- the line of two images whose own geometries differ
abbrev pub unlike_line : Sizes → Sizes → List ℕ
unlike_line left right = refused_line (codes "F9 Geometries left " ++ layout_words left ++ codes " right " ++ layout_words right)
