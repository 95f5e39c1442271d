-- What comparing two images answers, as JSON.
use Rattle.std.specs.Prelude.{ℕ, ◌==◌, Bool, List, codes, length, map}
use Rattle.serde_json.specs.Data.{Data, array, boolean, member, no_members, number, object, string, unsigned}
use Rattle.serde_json.specs.View.{items_of}
use Rattle.ubi_compare.specs.declared.difference.Difference.{Difference}
use Rattle.ubi_compare.specs.declared.difference.Difference.TheVariants as difference
use Rattle.ubi_json.specs.Line.{numbered, worded}
use Rattle.ubi_json.specs.Words.{condition_word, kind_word, side_word}
use Rattle.ubi_words.specs.Shown.{shown}

-- whether two images mean the same
abbrev pub same_data : Bool → Data
same_data same = object (member (codes "same") (boolean same) no_members)

-- a difference of the volume with a number, and what stands on either side
abbrev pub sides_data : ℕ → List ℕ → Data → Data → Data
sides_data id what left right =
    object
    (numbered (codes "id") id (member (codes "left") left (member (codes "right") right (worded (codes "what") what no_members))))

-- a difference with a number on either side
abbrev pub numbers_data : ℕ → List ℕ → ℕ → ℕ → Data
numbers_data id what left right = sides_data id what (number (unsigned left)) (number (unsigned right))

-- a difference with a word on either side
abbrev pub words_data : ℕ → List ℕ → List ℕ → List ℕ → Data
words_data id what left right = sides_data id what (string left) (string right)

-- a difference: the flags are a number, the names are as they are shown, and a range has its first LEB and its last
abbrev pub difference_data : Difference → Data
difference_data (difference.ImageSeq left right) =
    object (numbered (codes "left") left (numbered (codes "right") right (worded (codes "what") (codes "image_seq") no_members)))
difference_data (difference.Only id side) =
    object (numbered (codes "id") id (worded (codes "only") (side_word side) (worded (codes "what") (codes "volume") no_members)))
difference_data (difference.Kind id left right) = words_data id (codes "kind") (kind_word left) (kind_word right)
difference_data (difference.Reserved id left right) = numbers_data id (codes "reserved") left right
difference_data (difference.Alignment id left right) = numbers_data id (codes "alignment") left right
difference_data (difference.Flags id left right) = numbers_data id (codes "flags") left right
difference_data (difference.Name id left right) = words_data id (codes "name") (shown left) (shown right)
difference_data (difference.Condition id left right) = words_data id (codes "contents") (condition_word left) (condition_word right)
difference_data (difference.Bytes id left right) = numbers_data id (codes "bytes") left right
difference_data (difference.Lebs id first last) =
    object
    (numbered (codes "first") first (numbered (codes "id") id (numbered (codes "last") last (worded (codes "what") (codes "lebs") no_members))))

-- whether there are no differences
abbrev pub are_none : List Difference → Bool
are_none ds = length ds == 0

-- all differences in order, and whether there are none
abbrev pub differences_data : List Difference → Data
differences_data ds =
    object
    (member (codes "differences") (array (items_of (map difference_data ds))) (member (codes "same") (boolean (are_none ds)) no_members))
