-- Where in a file the image that is found lies.
use Rattle.ubi_dumps.proofs.Prelude.{◌≡◌, ℕ, ◌+◌, ◌-◌, ◌≤◌, List, [], ◌∷◌, ap, arith, inl, inr, length, refl, mod-add-div', Contains, AreDetected, first_place, heads_of, end_of_image, end_of_last, start_of_image, told_by, told_ways, holds, Detected, Group, Way, each_on_grid, IsToldFirst, IsFound, FilePart, map, places}

-- the first of some places is one of them
contains_first : (ps : List ℕ) → 1 ≤ length ps → Contains ps (first_place ps)
contains_first [] some = absurd (omega (arith, some))
contains_first (p ∷ ps) some = (0, some, refl)

-- the image of a file lies in it
pub found_inside : (bytes : List ℕ) (g : Group) → IsFound bytes g → (g.first ≤ end_of_last g) × (end_of_last g ≤ length bytes) × (1 ≤ g.size)
found_inside bytes g (inl plain) =
    let is = plain.plain in
    let first = is.first in
    let last = is.last in
    let from = is.from in
    (omega (arith, first), omega (arith, last), from)
found_inside bytes g (inr (whole, sure)) =
    let group = whole.image.says.group in
    let two = whole.image.says.two in
    let count = group.count in
    let has = contains_first (places (heads_of bytes) g.key) (omega (arith, two, count)) in
    let on = each_on_grid bytes whole.index (first_place (places (heads_of bytes) g.key)) g whole.image has in
    let low = on.0 in
    let high = on.1 in
    (omega (arith, low, high), whole.whole, whole.image.says.from)

-- the first of what is told of an image is told of its place
head_placed : (start end : ℕ) (ways : List Way) (t : Detected) (others : List Detected) → t ∷ others ≡ map (told_by start end) ways
    → (t.start ≡ start) × (t.length ≡ end - start)
head_placed start end [] t others is = absurd (cc)
head_placed start end (w ∷ ws) t others is =
    let same : t ≡ told_by start end w = head_eq is in
    (ap (λ (d : Detected). d.start) same, ap (λ (d : Detected). d.length) same)
  where
    head_eq : t ∷ others ≡ told_by start end w ∷ map (told_by start end) ws → t ≡ told_by start end w
    head_eq e = cc

-- what is told first of some bytes lies in them
pub told_inside : (part : FilePart) (bytes : List ℕ) (t : Detected) → IsToldFirst part (holds bytes) t → t.start + t.length ≤ length bytes
told_inside part bytes t (others, images, are, of, whole) =
    let is : AreDetected bytes (t ∷ others) = are bytes refl in
    let g = is.group in
    let place = found_inside bytes g is.is in
    let order = place.0 in
    let last = place.1 in
    let head = head_placed (start_of_image g) (end_of_image bytes g) (told_ways bytes g) t others is.are in
    let start = head.0 in
    let count = head.1 in
    let split = mod-add-div' g.first g.size in
    omega (arith, order, last, start, count, split)
