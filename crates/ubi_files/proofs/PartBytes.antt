-- Parts of files, and which files have them.
use Rattle.ubi_files.proofs.Prelude.{◌≡◌, ◌∙◌, ℕ, ◌+◌, ◌-◌, ◌<◌, ◌≤◌, List, ap, arith, drop, length, refl, subst, sym, take, ◌++◌, ReadsAtMost, ForSome, option_map_or, Err, IfOk, None, Ok, Option, Result, option_map, unwrap_or, drop-drop, drop-take, length-take-le, take-append-le, take-take, take_rest, StandsAt, part_len, part_of, FilePart, Some}
use Rattle.ubi_files.proofs.MaskedBytes.{for_mapped}

-- what stands in a file stands in its part
pub stands_in_part : (start len at : ℕ) (all bytes : List ℕ) → at < len → length bytes ≤ len - at → StandsAt all (start + at) bytes
    → StandsAt (take len (drop start all)) at bytes
stands_in_part start len at all bytes inside few stands =
    stands ∙ sym (ap (λ ys. take (length bytes) ys) later ∙ take-take (length bytes) (len - at) (drop (start + at) all) few)
  where
    later : drop at (take len (drop start all)) ≡ take (len - at) (drop (start + at) all)
    later =
        ap (λ n. drop at (take n (drop start all))) (let e : len ≡ at + (len - at) = omega arith in e)
        ∙ drop-take at (len - at) (drop start all)
        ∙ ap (λ ys. take (len - at) ys) (drop-drop at start all)

-- a file that has the part has its bytes
pub is_part : (part : FilePart) (all : List ℕ) → take (part_len part (length all)) (drop part.start all) ≡ part_of part all
is_part part all = by_len part.length
  where
    by_len : (o : Option ℕ) → take (unwrap_or o (length all - part.start)) (drop part.start all)
        ≡ option_map_or (λ n. take n (drop part.start all)) o (drop part.start all)
    by_len None = take_rest all part.start
    by_len (Some n) = refl

-- what is read of a file at the place of a part stands in the part
pub read_part_of : {E : Type 0} (start len at : ℕ) (held : Option (List ℕ)) (r : Result ℕ E) (out rest : List ℕ) → at < len
    → length out ≤ len - at → ReadsAtMost r out → IfOk r (λ n. ForSome held (λ all. StandsAt all (start + at) (take n out)))
    → IfOk r (λ n. ForSome (option_map (λ all. take len (drop start all)) held) (λ all. StandsAt all at (take n (out ++ rest))))
read_part_of start len at held (Err e) out rest inside few bound h = tt
read_part_of start len at held (Ok n) out rest inside few bound h =
    for_mapped (λ all. take len (drop start all)) (λ all. StandsAt all at (take n (out ++ rest))) held
    (λ all is.
    let count = length-take-le n out bound.0 in
    subst (λ bytes. StandsAt (take len (drop start all)) at bytes) (sym (take-append-le n out rest bound.0))
    (stands_in_part start len at all (take n out) inside (omega (arith, count, few, bound.0)) (h all is)))
