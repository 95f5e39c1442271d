-- How much is read of the part of a dump that is read whole.
use Rattle.ubi_files.proofs.Prelude.{◌≡◌, ◌∙◌, ◌⊎◌, ℕ, ◌+◌, ◌-◌, ◌*◌, ◌/◌, ◌<◌, ◌≤◌, List, ap, arith, drop, inl, inr, length, length-drop, length-take, min, refl, sym, take, take_all, unwrap_or, as_read, sizes_of, Dump, Err, FilePart, Files, IfOk, IfSome, None, Ok, Option, Result, Some, ◌^◌, PartRead, IsReadOf}

module _ (dump : Dump) where
  -- how many bytes the pages of the device and one more have
  abbrev pub raw : ℕ
  raw = let s = sizes_of dump.numbers in (s.pebs * s.peb_size / s.page + 1) * (s.page + dump.oob)

  -- the part as far as it is read
  abbrev pub as_far : ℕ → FilePart
  as_far n = record { start = dump.part.start; length = Some n }

  pub as_read_some : (n : ℕ) → dump.part.length ≡ Some n → as_far (min n raw) ≡ (as_read dump).part
  as_read_some n has =
      let same : min n raw ≡ min n (min n raw) = omega arith in
      rw has (ap as_far same)

-- how many bytes are read at most is counted in 64 bits; no vector has so many that this makes a difference
module _ (len : Option ℕ) (raw most : ℕ) (counted : most ≡ min raw (2 ^ 64 - 1)) where
  abbrev few : ℕ
  few = min (unwrap_or len most) most

  abbrev all_of : ℕ
  all_of = min (unwrap_or len raw) raw

  as_many : (few ≡ all_of) ⊎ ((2 ^ 64 - 1 ≤ few) × (2 ^ 64 - 1 ≤ all_of))
  as_many = by_len len
    where
      by_len : (o : Option ℕ) → (min (unwrap_or o most) most ≡ min (unwrap_or o raw) raw)
          ⊎ ((2 ^ 64 - 1 ≤ min (unwrap_or o most) most) × (2 ^ 64 - 1 ≤ min (unwrap_or o raw) raw))
      by_len None = grind (arith, counted)
      by_len (Some n) = grind (arith, counted)

  module _ (start : ℕ) (all got : List ℕ) (are : got ≡ take few (drop start all)) (small : length got < 2 ^ 64 - 1) where
    pub part_bytes : got ≡ take all_of (drop start all)
    part_bytes = by_count as_many
      where
        by_count : (few ≡ all_of) ⊎ ((2 ^ 64 - 1 ≤ few) × (2 ^ 64 - 1 ≤ all_of)) → got ≡ take all_of (drop start all)
        by_count (inl same) = are ∙ ap (λ n. take n (drop start all)) same
        by_count (inr more) =
            let long = ap length are ∙ length-take few (drop start all) in
            are ∙ take_all few (drop start all) (omega (arith, long, small, more)) ∙ sym (take_all all_of (drop start all) (omega (arith, long, small, more)))

    pub part_end : min (start + few) (length all) ≡ min (start + all_of) (length all)
    part_end = by_count as_many
      where
        by_count : (few ≡ all_of) ⊎ ((2 ^ 64 - 1 ≤ few) × (2 ^ 64 - 1 ≤ all_of))
            → min (start + few) (length all) ≡ min (start + all_of) (length all)
        by_count (inl same) = ap (λ n. min (start + n) (length all)) same
        by_count (inr more) =
            let long = ap length are ∙ length-take few (drop start all) in
            let rest = length-drop start all in
            omega (arith, long, rest, small, more)

-- what is read of a part of a file, if it is known what the file holds
pub is_read_of : {E : Type 0} (d : Files) (dump : Dump) (path : List ℕ) (held : Option (List ℕ)) (most : ℕ) (r : Result PartRead E)
    → most ≡ min (raw dump) (2 ^ 64 - 1) → IfSome (d.holds path) (λ all. held ≡ Some all)
    → IfOk r (λ read. IfSome held (λ all. read.bytes.items ≡ take (min (unwrap_or dump.part.length most) most) (drop dump.part.start all)))
    → IfOk r (λ read. IfSome held (λ all. read.len ≡ min (dump.part.start + min (unwrap_or dump.part.length most) most) (length all)))
    → IfOk r (λ read. IsReadOf d dump path read.bytes.items read.len)
is_read_of d dump path held most (Err e) counted there bytes len = tt
is_read_of d dump path held most (Ok read) counted there bytes len = of_held (d.holds path) refl there
  where
    small : length read.bytes.items < 2 ^ 64 - 1
    small = let ok = read.bytes.ok in let small = read.bytes.small in omega (arith, ok, small)

    of_held : (o : Option (List ℕ)) → d.holds path ≡ o → IfSome o (λ all. held ≡ Some all) → IsReadOf d dump path read.bytes.items read.len
    of_held None is there = record { bytes = rw is tt; len = rw is tt }
    of_held (Some all) is there =
        let got = rw there at bytes in
        let end = rw there at len in
        record {
          bytes = rw is (part_bytes dump.part.length (raw dump) most counted dump.part.start all read.bytes.items got small);
          len = rw is (end ∙ part_end dump.part.length (raw dump) most counted dump.part.start all read.bytes.items got small);
        }
