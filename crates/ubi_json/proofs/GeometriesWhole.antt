-- The JSON of geometries has no float, and nests little.
use Rattle.ubi_json.proofs.Prelude.{◌≡◌, ◌+◌, ◌^◌, ◌≤◌, Bool, List, [], ◌∷◌, arith, cond, false, map, nat_lt, refl, true, ℕ, decimal, depth, items_depth, number, string, unsigned, items_of, has_float, items_have_float, Detected, FilePart, detected_data, geometries_data, place_data, span_data, Span}

either_whole : (b : Bool) (n : ℕ) → has_float (cond b (number (unsigned n)) (string (decimal n))) ≡ false
either_whole true n = refl
either_whole false n = refl

either_flat : (b : Bool) (n : ℕ) → depth (cond b (number (unsigned n)) (string (decimal n))) ≡ 0
either_flat true n = refl
either_flat false n = refl

place_whole : (n : ℕ) → has_float (place_data n) ≡ false
place_whole n = either_whole (nat_lt n (2 ^ 64)) n

place_flat : (n : ℕ) → depth (place_data n) ≡ 0
place_flat n = either_flat (nat_lt n (2 ^ 64)) n

items_whole : (part : FilePart) (found : List Detected) → items_have_float (items_of (map (detected_data part) found)) ≡ false
items_whole part [] = refl
items_whole part (told ∷ rest) = rw (place_whole (part.start + told.start)) (items_whole part rest)

items_flat : (part : FilePart) (found : List Detected) → items_depth (items_of (map (detected_data part) found)) ≤ 1
items_flat part [] = omega arith
items_flat part (told ∷ rest) =
    let later = items_flat part rest in
    rw (place_flat (part.start + told.start)) (omega (arith, later))

spans_whole : (part : FilePart) (spans : List Span) → items_have_float (items_of (map (span_data part) spans)) ≡ false
spans_whole part [] = refl
spans_whole part (span ∷ rest) = rw (place_whole (part.start + span.start)) (spans_whole part rest)

spans_flat : (part : FilePart) (spans : List Span) → items_depth (items_of (map (span_data part) spans)) ≤ 1
spans_flat part [] = omega arith
spans_flat part (span ∷ rest) =
    let later = spans_flat part rest in
    rw (place_flat (part.start + span.start)) (omega (arith, later))

pub geometries_whole : (part : FilePart) (found : List Detected) (spans : List Span) → has_float (geometries_data part found spans) ≡ false
geometries_whole part found spans = rw (items_whole part found, spans_whole part spans) refl

pub geometries_flat : (part : FilePart) (found : List Detected) (spans : List Span) → depth (geometries_data part found spans) ≤ 127
geometries_flat part found spans =
    let flat = items_flat part found in
    let low = spans_flat part spans in omega (arith, flat, low)
