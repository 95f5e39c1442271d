-- The JSON of differences has no float, and nests little.
use Rattle.ubi_json.proofs.Prelude.{◌≡◌, ◌≤◌, List, [], ◌∷◌, arith, false, map, refl, depth, items_depth, items_of, has_float, items_have_float, Difference, difference_data, differences_data}
use Rattle.ubi_compare.specs.declared.difference.Difference.TheVariants as difference

difference_whole : (d : Difference) → has_float (difference_data d) ≡ false
difference_whole (difference.ImageSeq left right) = refl
difference_whole (difference.Only id side) = refl
difference_whole (difference.Kind id left right) = refl
difference_whole (difference.Reserved id left right) = refl
difference_whole (difference.Alignment id left right) = refl
difference_whole (difference.Flags id left right) = refl
difference_whole (difference.Name id left right) = refl
difference_whole (difference.Condition id left right) = refl
difference_whole (difference.Bytes id left right) = refl
difference_whole (difference.Lebs id first last) = refl

difference_flat : (d : Difference) → depth (difference_data d) ≡ 1
difference_flat (difference.ImageSeq left right) = refl
difference_flat (difference.Only id side) = refl
difference_flat (difference.Kind id left right) = refl
difference_flat (difference.Reserved id left right) = refl
difference_flat (difference.Alignment id left right) = refl
difference_flat (difference.Flags id left right) = refl
difference_flat (difference.Name id left right) = refl
difference_flat (difference.Condition id left right) = refl
difference_flat (difference.Bytes id left right) = refl
difference_flat (difference.Lebs id first last) = refl

items_whole : (ds : List Difference) → items_have_float (items_of (map difference_data ds)) ≡ false
items_whole [] = refl
items_whole (d ∷ ds) = rw (difference_whole d) (items_whole ds)

items_flat : (ds : List Difference) → items_depth (items_of (map difference_data ds)) ≤ 1
items_flat [] = omega arith
items_flat (d ∷ ds) = let rest = items_flat ds in rw (difference_flat d) (omega (arith, rest))

pub differences_whole : (ds : List Difference) → has_float (differences_data ds) ≡ false
differences_whole ds = rw (items_whole ds) refl

pub differences_flat : (ds : List Difference) → depth (differences_data ds) ≤ 127
differences_flat ds = let flat = items_flat ds in omega (arith, flat)
