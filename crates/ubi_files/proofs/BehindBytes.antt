-- Bytes behind bytes 0xFF.
use Rattle.ubi_files.proofs.Prelude.{◌≡◌, ◌∙◌, ◌⊎◌, ℕ, ◌+◌, ◌-◌, ◌<◌, ◌≤◌, ◌++◌, List, ap, arith, drop, inl, inr, length, min, sym, take, cases_lt, drop-append-add, drop-append-le, drop-replicate, length-replicate, take-append-add, take-append-le, take-replicate, take-take, ForSome, Err, IfOk, Ok, Option, Result, option_map, StandsAt, blank}
use Rattle.ubi_files.proofs.MaskedBytes.{for_mapped}

-- what is behind the first places
drop_behind : (n at : ℕ) (all : List ℕ) → n ≤ at → drop at (blank n ++ all) ≡ drop (at - n) all
drop_behind n at all behind =
    let long = length-replicate {A = ℕ} n 255 in
    let e : at ≡ length (blank n) + (at - n) = omega (arith, long, behind) in
    ap (λ k. drop k (blank n ++ all)) e ∙ drop-append-add (blank n) all (at - n)

-- what stands in bytes stands so much further on
pub read_behind : {E : Type 0} (n at : ℕ) (held : Option (List ℕ)) (r : Result ℕ E) (out : List ℕ) → n ≤ at
    → IfOk r (λ k. ForSome held (λ all. StandsAt all (at - n) (take k out)))
    → IfOk r (λ k. ForSome (option_map (λ all. blank n ++ all) held) (λ all. StandsAt all at (take k out)))
read_behind n at held (Err e) out behind h = tt
read_behind n at held (Ok k) out behind h =
    for_mapped (λ all. blank n ++ all) (λ all. StandsAt all at (take k out)) held
    (λ all is. h all is ∙ ap (λ bytes. take (length (take k out)) bytes) (sym (drop_behind n at all behind)))

-- 0xFF stands before them
stand_before : (n at k : ℕ) (all : List ℕ) → k ≤ n - at → blank k ≡ take k (drop at (blank n ++ all))
stand_before n at k all few = by_place (cases_lt at n)
  where
    by_place : (at < n) ⊎ (n ≤ at) → blank k ≡ take k (drop at (blank n ++ all))
    by_place (inl before) =
        let long = length-replicate {A = ℕ} n 255 in
        let rest = length-replicate {A = ℕ} (n - at) 255 in
        sym (ap (take k) (drop-append-le at (blank n) all (omega (arith, long, before)) ∙ ap (λ xs. xs ++ all) (drop-replicate at n 255))
        ∙ take-append-le k (blank (n - at)) all (omega (arith, rest, few)) ∙ take-replicate k (n - at) 255 few)
    by_place (inr behind) =
        let none : k ≡ 0 = omega (arith, few, behind) in
        ap blank none ∙ sym (ap (λ i. take i (drop at (blank n ++ all))) none)

pub read_before : (n at k : ℕ) (held : Option (List ℕ)) (out : List ℕ) → k ≤ n - at → out ≡ blank k
    → ForSome (option_map (λ all. blank n ++ all) held) (λ all. StandsAt all at out)
read_before n at k held out few is =
    for_mapped (λ all. blank n ++ all) (λ all. StandsAt all at out) held
    (λ all there.
    let long : length out ≡ k = ap length is ∙ length-replicate {A = ℕ} k 255 in
    is ∙ stand_before n at k all few ∙ ap (λ i. take i (drop at (blank n ++ all))) (sym long))

-- of the first n bytes only as many can be 0xFF, and of the others only the first n matter
pub take_behind : (n b : ℕ) (xs ys : List ℕ) → take n xs ≡ take n ys → take n (blank (min b n) ++ xs) ≡ take n (blank b ++ ys)
take_behind n b xs ys same = by_len (cases_lt b n)
  where
    all_blank : (m : ℕ) (zs : List ℕ) → n ≤ m → take n (blank m ++ zs) ≡ blank n
    all_blank m zs few =
        let long = length-replicate {A = ℕ} m 255 in take-append-le n (blank m) zs (omega (arith, long, few)) ∙ take-replicate n m 255 few

    some_blank : (zs : List ℕ) → b < n → take n (blank b ++ zs) ≡ blank b ++ take (n - b) zs
    some_blank zs less =
        let long = length-replicate {A = ℕ} b 255 in
        let e : n ≡ length (blank b) + (n - b) = omega (arith, long, less) in
        ap (λ k. take k (blank b ++ zs)) e ∙ take-append-add (blank b) zs (n - b)

    by_len : (b < n) ⊎ (n ≤ b) → take n (blank (min b n) ++ xs) ≡ take n (blank b ++ ys)
    by_len (inl less) =
        let whole : min b n ≡ b = omega (arith, less) in
        let few : n - b ≤ n = omega arith in
        ap (λ m. take n (blank m ++ xs)) whole ∙ some_blank xs less
        ∙ ap (λ zs. blank b ++ zs) (sym (take-take (n - b) n xs few) ∙ ap (take (n - b)) same ∙ take-take (n - b) n ys few)
        ∙ sym (some_blank ys less)
    by_len (inr more) =
        let whole : min b n ≡ n = omega (arith, more) in
        let least : n ≤ n = omega arith in
        ap (λ m. take n (blank m ++ xs)) whole ∙ all_blank n xs least ∙ sym (all_blank b ys more)
