-- What is kept of a file that was read whole to find how it is read.
use Rattle.ubi_dumps.proofs.Prelude.{◌≡◌, ◌∙◌, ℕ, ◌+◌, ◌-◌, ◌*◌, ◌≤◌, Bool, List, ap, arith, drop, false, length, refl, take, true, ltb-false, drop-drop, drop-take, length-drop, length-take, take-take, option_map_or, IfSome, Option, option_map, unwrap_or, Sizes, seen_of, holds, Detected, Files, IsJudgedOf, FitsWhole, as_read, greatest_dump, misfit_of, seen, told_dump, viewed, whole_len, sizes_of, IsToldFirst, misfit, part_of, Sought, FilePart, masked_none, pages_none, IsPartOf, None, if◌then◌else◌, Some}
use Rattle.ubi_dumps.proofs.ToldPlaces.{told_inside}

-- what lies within the first bytes is the same without the others
within : (xs : List ℕ) (n start count : ℕ) → start + count ≤ length (take n xs)
    → take count (drop start (take n xs)) ≡ take count (drop start xs)
within xs n start count inside =
    let few = length-take n xs in
    let whole : n ≡ start + (n - start) = omega (arith, few, inside) in
    ap (λ k. take count (drop start (take k xs))) whole
    ∙ ap (λ ys. take count ys) (drop-take start (n - start) xs)
    ∙ take-take count (n - start) (drop start xs) (omega (arith, few, inside))

if_none : {X : Type 0} (b : Bool) (x : X) (o : Option X) → (if b then Some x else o) ≡ None → b ≡ false
if_none true x o e = absurd (cc)
if_none false x o e = refl

-- a part that fits begins in its file
begins_inside : (part : FilePart) (page oob n : ℕ) → misfit part page oob n ≡ None → part.start ≤ n
begins_inside part page oob n none =
    let inside = ltb-false n (part.start + unwrap_or part.length 0) (if_none _ _ _ none) in
    omega (arith, inside)

module _ (sought : Sought) (t : Detected) (bytes kept : List ℕ) (first : IsToldFirst sought.part (holds bytes) t)
    (are : kept ≡ take t.length (drop t.start bytes)) where
  abbrev part : FilePart
  part = sought.part

  abbrev device : Sizes
  device = sizes_of (greatest_dump part).numbers

  -- of a part of a file, as it lies there
  in_file : (all : List ℕ) → t.start + t.length ≤ length (part_of part all)
      → take t.length (drop t.start (part_of part all)) ≡ take t.length (drop (part.start + t.start) all)
  in_file all inside = by_len part.length inside ∙ ap (λ ys. take t.length ys) (drop-drop t.start part.start all)
    where
      by_len : (o : Option ℕ) → t.start + t.length ≤ length (option_map_or (λ n. take n (drop part.start all)) o (drop part.start all))
          → take t.length (drop t.start (option_map_or (λ n. take n (drop part.start all)) o (drop part.start all)))
          ≡ take t.length (drop t.start (drop part.start all))
      by_len None h = refl
      by_len (Some n) h = within (drop part.start all) n t.start t.length h

  part_most : (all : List ℕ) → length (part_of part all) ≤ length all - part.start
  part_most all = by_len part.length
    where
      by_len : (o : Option ℕ) → length (option_map_or (λ n. take n (drop part.start all)) o (drop part.start all)) ≤ length all - part.start
      by_len None = let e = length-drop part.start all in omega (arith, e)
      by_len (Some n) =
          let e = length-drop part.start all in
          let f = length-take n (drop part.start all) in
          omega (arith, e, f)

  of_file : (all : List ℕ) → bytes ≡ seen_of device (viewed (greatest_dump part) all)
      → misfit_of (as_read (greatest_dump part)) (whole_len (greatest_dump part) (length all)) ≡ None
      → (kept ≡ part_of (told_dump sought t).part all) × (part.start + t.start ≤ length all)
  of_file all is fits =
      let whole : viewed (greatest_dump part) all ≡ part_of part all =
      masked_none device.peb_size _ ∙ pages_none device.page (omega arith) (part_of part all) in
      let read : bytes ≡ take (device.pebs * device.peb_size + 1) (part_of part all) =
      is ∙ ap (λ xs. take (device.pebs * device.peb_size + 1) xs) whole in
      let inside = told_inside part bytes t first in
      let long = ap length read in
      let few = length-take (device.pebs * device.peb_size + 1) (part_of part all) in
      let within_read : t.start + t.length ≤ length (take (device.pebs * device.peb_size + 1) (part_of part all)) = omega (arith, inside, long) in
      let within_part : t.start + t.length ≤ length (part_of part all) = omega (arith, within_read, few) in
      let most = part_most all in
      let begins = begins_inside (as_read (greatest_dump part)).part device.page 0 (whole_len (greatest_dump part) (length all)) fits in (
        are ∙ ap (λ xs. take t.length (drop t.start xs)) read
            ∙ within (part_of part all) (device.pebs * device.peb_size + 1) t.start t.length within_read ∙ in_file all within_part,
        omega (arith, within_part, most, begins),
      )

  -- what is kept of the bytes that were read is what the file holds of the dump that is told
  pub kept_of_told : (d : Files) (path : List ℕ) → IsJudgedOf (seen (greatest_dump part) d) path device bytes
      → FitsWhole d (greatest_dump part) path → IsPartOf d (told_dump sought t) path kept
  kept_of_told d path = go (d.holds path)
    where
      go : (o : Option (List ℕ)) → IfSome (option_map (viewed (greatest_dump part)) o) (λ all. bytes ≡ seen_of device all)
          → IfSome o (λ all. misfit_of (as_read (greatest_dump part)) (whole_len (greatest_dump part) (length all)) ≡ None)
          → IfSome o (λ all. (kept ≡ part_of (told_dump sought t).part all) × (part.start + t.start ≤ length all))
      go None is fits = tt
      go (Some all) is fits = of_file all is fits
