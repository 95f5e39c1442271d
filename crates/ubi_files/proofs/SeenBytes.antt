-- The bytes of a file, as a dump is read.
use Rattle.ubi_files.proofs.Prelude.{◌≡◌, ◌∙◌, ◌++◌, ℕ, ◌+◌, ◌*◌, ◌/◌, ◌<◌, ◌≤◌, ◌⊎◌, Bool, List, ap, arith, before, blank, blocks_before, drop, inl, inr, length, min, refl, subst, sym, take, cases_lt, length-take, take-take, take_all, ForSome, option_map_or, IfSome, None, Option, option_map, unwrap_or, Sizes, seen_of, masked, Files, Fits, marks_of, misfit_of, most_of, viewed, sizes_of, pages_of, part_len, part_of, Dump, Some}
use Rattle.ubi_files.proofs.BehindBytes.{take_behind}
use Rattle.ubi_files.proofs.MaskedBytes.{for_mapped, length-masked, masked-take}
use Rattle.ubi_files.proofs.PageBytes.{judged_pages}
use Rattle.ubi_files.proofs.PartBytes.{is_part}

-- a file of which the length is known has it also as it is seen
pub viewed_sized : (size : ℕ) (marks : List Bool) (held : Option (List ℕ)) (n : ℕ) → ForSome held (λ all. length all ≡ n)
    → ForSome (option_map (masked size marks) held) (λ all. length all ≡ n)
viewed_sized size marks held n sized =
    for_mapped (masked size marks) (λ all. length all ≡ n) held (λ all is. length-masked size marks all ∙ sized all is)

-- what is read of the pages of a part, with 0xFF in the place of bad eraseblocks and of those before it, is what is seen
pub seen_is : (dump : Dump) (held : Option (List ℕ)) (size page oob start len n b : ℕ) (marks : List Bool)
    → size ≡ (sizes_of dump.numbers).peb_size → marks ≡ marks_of dump → page ≡ (sizes_of dump.numbers).page → oob ≡ dump.oob
    → start ≡ dump.part.start → len ≡ part_len dump.part n → b ≡ blocks_before dump * (sizes_of dump.numbers).peb_size
    → ForSome held (λ all. length all ≡ n)
    → option_map (masked size marks)
    (option_map (λ all. blank b ++ all) (option_map (pages_of page oob) (option_map (λ all. take len (drop start all)) held)))
    ≡ option_map (viewed dump) held
seen_is dump None size page oob start len n behind marks a b c d e f h sized = refl
seen_is dump (Some all) size page oob start len n behind marks a b c d e f h sized =
    ap Some (rw (a, b, c, d, e, f, h)
    (ap (λ bytes. masked (sizes_of dump.numbers).peb_size (marks_of dump)
    (before dump ++ pages_of (sizes_of dump.numbers).page dump.oob bytes))
    (ap (λ k. take (part_len dump.part k) (drop dump.part.start all)) (sym (sized all refl)) ∙ is_part dump.part all)))

-- ---- a file that is read whole

-- the first bytes of a part, where fewer are read than it has, or that of the device
pub take-part : (len : Option ℕ) (raw : ℕ) (xs : List ℕ)
    → take (min (unwrap_or len raw) raw) xs ≡ take raw (option_map_or (λ n. take n xs) len xs)
take-part None raw xs = ap (λ n. take n xs) (let e : min raw raw ≡ raw = omega arith in e)
take-part (Some n) raw xs = by_len (cases_lt n raw)
  where
    by_len : (n < raw) ⊎ (raw ≤ n) → take (min n raw) xs ≡ take raw (take n xs)
    by_len (inl less) =
        let count = length-take n xs in
        ap (λ k. take k xs) (let e : min n raw ≡ n = omega arith in e) ∙ sym (take_all raw (take n xs) (omega (arith, count, less)))
    by_len (inr more) =
        ap (λ k. take k xs) (let e : min n raw ≡ raw = omega arith in e) ∙ sym (take-take raw n xs more)

-- what is seen of the bytes of a part, as far as it is judged
abbrev pub seen_whole : Dump → ℕ → List ℕ → List ℕ
seen_whole dump blocks bytes =
    let s = sizes_of dump.numbers in
    let device = s.pebs * s.peb_size in
    masked s.peb_size (marks_of dump) (take (device + 1) (blank (min (blocks * s.peb_size) (device + 1)) ++ pages_of s.page dump.oob bytes))

-- what is read of a part, once it is seen, is what is judged of the file as it is seen
judged_whole : (dump : Dump) (all bytes : List ℕ) → 0 < (sizes_of dump.numbers).page
    → bytes ≡ take (most_of dump) (drop dump.part.start all)
    → seen_whole dump (blocks_before dump) bytes ≡ seen_of (sizes_of dump.numbers) (viewed dump all)
judged_whole dump all bytes some are =
    ap (λ xs. masked s.peb_size (marks_of dump) xs)
    (take_behind (device + 1) (blocks_before dump * s.peb_size) (pages_of s.page dump.oob bytes) (pages_of s.page dump.oob (part_of dump.part all))
    (ap (λ xs. take (device + 1) (pages_of s.page dump.oob xs)) (are ∙ take-part dump.part.length raw (drop dump.part.start all))
    ∙ judged_pages s.page dump.oob some device (part_of dump.part all)))
    ∙ masked-take s.peb_size (marks_of dump) (device + 1) (before dump ++ pages_of s.page dump.oob (part_of dump.part all))
  where
    s : Sizes
    s = sizes_of dump.numbers

    device : ℕ
    device = s.pebs * s.peb_size

    raw : ℕ
    raw = (device / s.page + 1) * (s.page + dump.oob)

-- and so it is of any file of which it is known what it holds
pub judged_seen : (dump : Dump) (held : Option (List ℕ)) (bytes now : List ℕ) → 0 < (sizes_of dump.numbers).page
    → now ≡ seen_whole dump (blocks_before dump) bytes
    → IfSome held (λ all. bytes ≡ take (most_of dump) (drop dump.part.start all))
    → IfSome (option_map (viewed dump) held) (λ all. now ≡ seen_of (sizes_of dump.numbers) all)
judged_seen dump None bytes now some is are = tt
judged_seen dump (Some all) bytes now some is are = is ∙ judged_whole dump all bytes some are

-- it has as many bytes as are judged at most
pub length-whole : (size device : ℕ) (marks : List Bool) (xs : List ℕ) → length (masked size marks (take (device + 1) xs)) ≤ device + 1
length-whole size device marks xs =
    let long = length-masked size marks (take (device + 1) xs) in
    let few = length-take (device + 1) xs in omega (arith, long, few)

-- ---- which files fit

-- of a file of which the length is known
pub fits : (d : Files) (dump : Dump) (path : List ℕ) (held : Option (List ℕ)) (n : ℕ) → held ≡ d.holds path
    → ForSome held (λ all. length all ≡ n) → misfit_of dump n ≡ None → Fits d dump path
fits d dump path held n same sized none =
    subst (λ (o : Option (List ℕ)). IfSome o (λ all. misfit_of dump (length all) ≡ None)) same (of_held held sized)
  where
    of_held : (o : Option (List ℕ)) → ForSome o (λ all. length all ≡ n) → IfSome o (λ all. misfit_of dump (length all) ≡ None)
    of_held None sized = tt
    of_held (Some all) sized = ap (misfit_of dump) (sized all refl) ∙ none

pub has_len : (d : Files) (dump : Dump) (path : List ℕ) (held : Option (List ℕ)) (n : ℕ) → held ≡ d.holds path
    → ForSome held (λ all. length all ≡ n) → IfSome (d.holds path) (λ all. n ≡ length all)
has_len d dump path held n same sized =
    subst (λ (o : Option (List ℕ)). IfSome o (λ all. n ≡ length all)) same (of_held held sized)
  where
    of_held : (o : Option (List ℕ)) → ForSome o (λ all. length all ≡ n) → IfSome o (λ all. n ≡ length all)
    of_held None sized = tt
    of_held (Some all) sized = sym (sized all refl)
