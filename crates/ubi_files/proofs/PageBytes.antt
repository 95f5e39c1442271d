-- Which of the bytes of a file are in pages.
use Rattle.ubi_files.proofs.Prelude.{◌≡◌, ◌∙◌, ℕ, zero, suc, ◌+◌, ◌-◌, ◌*◌, ◌/◌, ◌%◌, ◌<◌, ◌≤◌, ◌⊎◌, List, [], ◌∷◌, ◌++◌, ap, arith, drop, false, inl, inr, le_refl, length, min, nat_lt, refl, subst, sym, take, true, then_some, cons_option, enumerate_from, ForSome, Err, IfOk, Ok, Option, Result, filter_map, option_map, cases_lt, nat_tests, div-add-mod', mod-mul-add, mod_below, mul-le, drop_all, drop-drop, drop-take, drop_at, length-append, length-drop, length-take, length-take-le, nil_from_length, take-append-drop, take-append-le, take-take, take_all, take_at, take_min, paste, drop-paste, length-paste, take-paste, filter_map-append, StandsAt, pages_from, pages_of, append-nil}
use Rattle.ubi_files.proofs.MaskedBytes.{for_mapped}

enumerate_from-append : (i : ℕ) (xs ys : List ℕ)
    → enumerate_from i (xs ++ ys) ≡ enumerate_from i xs ++ enumerate_from (i + length xs) ys
enumerate_from-append i [] ys = ap (λ n. enumerate_from n ys) (omega arith)
enumerate_from-append i (x ∷ xs) ys =
    ap (λ es. (i, x) ∷ es) (enumerate_from-append (i + 1) xs ys ∙ ap (λ n. enumerate_from (i + 1) xs ++ enumerate_from n ys) (omega arith))

module _ (page oob : ℕ) where
  -- of bytes and more behind them
  pub pages_from-append : (i : ℕ) (xs ys : List ℕ)
      → pages_from i page oob (xs ++ ys) ≡ pages_from i page oob xs ++ pages_from (i + length xs) page oob ys
  pages_from-append i xs ys =
      ap (filter_map (λ (e : ℕ × ℕ). then_some (nat_lt (e.0 % (page + oob)) page) e.1)) (enumerate_from-append i xs ys)
      ∙ filter_map-append (λ (e : ℕ × ℕ). then_some (nat_lt (e.0 % (page + oob)) page) e.1) (enumerate_from i xs) (enumerate_from (i + length xs) ys)

  next_place : (i : ℕ) → 0 < page → i % (page + oob) + 1 < page + oob → (i + 1) % (page + oob) ≡ i % (page + oob) + 1
  next_place i some small =
      let e : i + 1 ≡ i / (page + oob) * (page + oob) + (i % (page + oob) + 1) = omega (arith, div-add-mod' i (page + oob)) in
      ap (λ n. n % (page + oob)) e ∙ mod-mul-add (i / (page + oob)) (page + oob) (i % (page + oob) + 1) small

  kept_one : (i x : ℕ) (xs : List ℕ) → i % (page + oob) < page → pages_from i page oob (x ∷ xs) ≡ x ∷ pages_from (i + 1) page oob xs
  kept_one i x xs l =
      let here : nat_lt (i % (page + oob)) page ≡ true = grind (arith, nat_tests) in
      ap (λ b. cons_option (then_some b x) (pages_from (i + 1) page oob xs)) here

  left_one : (i x : ℕ) (xs : List ℕ) → page ≤ i % (page + oob) → pages_from i page oob (x ∷ xs) ≡ pages_from (i + 1) page oob xs
  left_one i x xs l =
      let here : nat_lt (i % (page + oob)) page ≡ false = grind (arith, nat_tests) in
      ap (λ b. cons_option (then_some b x) (pages_from (i + 1) page oob xs)) here

  -- bytes of one page all lie in it
  pub pages_from_in : 0 < page → (i : ℕ) (xs : List ℕ) → i % (page + oob) + length xs ≤ page → pages_from i page oob xs ≡ xs
  pages_from_in some i [] l = refl
  pages_from_in some i (x ∷ []) l = kept_one i x [] (omega arith)
  pages_from_in some i (x ∷ y ∷ ys) l =
      let next = next_place i some (omega arith) in
      kept_one i x (y ∷ ys) (omega arith) ∙ ap (λ zs. x ∷ zs) (pages_from_in some (i + 1) (y ∷ ys) (omega (arith, next)))

  -- and none of the out-of-band bytes behind it
  pub pages_from_out : 0 < page → (i : ℕ) (xs : List ℕ) → page ≤ i % (page + oob) → i % (page + oob) + length xs ≤ page + oob
      → pages_from i page oob xs ≡ []
  pages_from_out some i [] out l = refl
  pages_from_out some i (x ∷ []) out l = left_one i x [] out
  pages_from_out some i (x ∷ y ∷ ys) out l =
      let next = next_place i some (omega arith) in
      left_one i x (y ∷ ys) out ∙ pages_from_out some (i + 1) (y ∷ ys) (omega (arith, next)) (omega (arith, next))

  -- of bytes that begin with a page: the page
  pub pages_from_unit : 0 < page → (i : ℕ) (xs : List ℕ) → i % (page + oob) ≡ 0 → length xs ≤ page + oob
      → pages_from i page oob xs ≡ take page xs
  pages_from_unit some i xs begins few =
      let front = length-take page xs in
      let rest = length-drop page xs in
      ap (λ ys. pages_from i page oob ys) (sym (take-append-drop page xs))
      ∙ pages_from-append i (take page xs) (drop page xs)
      ∙ ap (λ ys. ys ++ pages_from (i + length (take page xs)) page oob (drop page xs)) (pages_from_in some i (take page xs) (omega (arith, front)))
      ∙ ap (λ ys. take page xs ++ ys) (by_len (cases_lt page (length xs)))
      ∙ append-nil (take page xs)
    where
      by_len : (page < length xs) ⊎ (length xs ≤ page) → pages_from (i + length (take page xs)) page oob (drop page xs) ≡ []
      by_len (inl more) =
          let front = length-take-le page xs (omega arith) in
          let rest = length-drop page xs in
          let e : i + length (take page xs) ≡ i / (page + oob) * (page + oob) + page = omega (arith, front, begins, div-add-mod' i (page + oob)) in
          let place : (i + length (take page xs)) % (page + oob) ≡ page = ap (λ n. n % (page + oob)) e ∙ mod-mul-add (i / (page + oob)) (page + oob) page (omega (arith, more, few)) in
          pages_from_out some (i + length (take page xs)) (drop page xs) (omega (arith, place)) (omega (arith, place, rest, few))
      by_len (inr less) =
          ap (λ ys. pages_from (i + length (take page xs)) page oob ys) (drop_all page xs less)

  -- the bytes before a place, and those from it on
  pub pages_from_cut : (i n : ℕ) (xs : List ℕ) → n ≤ length xs
      → pages_from i page oob xs ≡ pages_from i page oob (take n xs) ++ pages_from (i + n) page oob (drop n xs)
  pages_from_cut i n xs few =
      ap (λ ys. pages_from i page oob ys) (sym (take-append-drop n xs))
      ∙ pages_from-append i (take n xs) (drop n xs)
      ∙ ap (λ k. pages_from i page oob (take n xs) ++ pages_from (i + k) page oob (drop n xs)) (length-take-le n xs few)

  -- what lies in pages of the first bytes stands in front of the rest
  pub pages_from-take : (i n : ℕ) (xs : List ℕ)
      → pages_from i page oob (take n xs) ≡ take (length (pages_from i page oob (take n xs))) (pages_from i page oob xs)
  pages_from-take i n xs = by_len (cases_lt n (length xs))
    where
      by_len : (n < length xs) ⊎ (length xs ≤ n)
          → pages_from i page oob (take n xs) ≡ take (length (pages_from i page oob (take n xs))) (pages_from i page oob xs)
      by_len (inl less) =
          let front = pages_from i page oob (take n xs) in
          sym (ap (λ ys. take (length front) ys) (pages_from_cut i n xs (omega arith)) ∙ take_at front (pages_from (i + n) page oob (drop n xs)) (length front) refl)
      by_len (inr all) =
          ap (λ ys. pages_from i page oob ys) (take_all n xs all)
          ∙ sym (take_all (length (pages_from i page oob (take n xs))) (pages_from i page oob xs) (let e = ap (λ ys. length (pages_from i page oob ys)) (take_all n xs all) in omega (arith, e)))

  -- the next page begins behind the out-of-band bytes
  pub next_begins : (i : ℕ) → i % (page + oob) ≡ 0 → 0 < page → (i + (page + oob)) % (page + oob) ≡ 0
  next_begins i begins some =
      let e : i + (page + oob) ≡ suc (i / (page + oob)) * (page + oob) + 0 = omega (arith, begins, div-add-mod' i (page + oob)) in
      ap (λ n. n % (page + oob)) e ∙ mod-mul-add (suc (i / (page + oob))) (page + oob) 0 (omega arith)

  -- whole pages with their out-of-band bytes: so many pages
  pub length-pages : 0 < page → (q i : ℕ) (xs : List ℕ) → i % (page + oob) ≡ 0 → length xs ≡ q * (page + oob)
      → length (pages_from i page oob xs) ≡ q * page
  length-pages some zero i xs begins long =
      let none = nil_from_length xs (omega (arith, long)) in
      ap (λ ys. length (pages_from i page oob ys)) none ∙ (let e : 0 ≡ 0 * page = omega arith in e)
  length-pages some (suc q) i xs begins long =
      let unit = page + oob in
      let enough : unit ≤ length xs = omega (arith, long) in
      let first = length-take-le unit xs enough in
      let rest = length-drop unit xs in
      let one = pages_from_unit some i (take unit xs) begins (omega (arith, first)) in
      let page_of = length-take-le page (take unit xs) (omega (arith, first)) in
      let next : (i + unit) % unit ≡ 0 = next_begins i begins some in
      let more = length-pages some q (i + unit) (drop unit xs) next (omega (arith, rest, long)) in
      ap length (pages_from_cut i unit xs enough)
      ∙ length-append (pages_from i page oob (take unit xs)) (pages_from (i + unit) page oob (drop unit xs))
      ∙ (let e = ap length one in omega (arith, e, page_of, more))

  -- a place some pages further on lies in its page as the place does
  pages_from_later : 0 < page → (q i : ℕ) (xs : List ℕ) → pages_from (q * (page + oob) + i) page oob xs ≡ pages_from i page oob xs
  pages_from_later some q i [] = refl
  pages_from_later some q i (x ∷ xs) =
      let unit = page + oob in
      let e : q * unit + i ≡ (q + i / unit) * unit + i % unit = omega (arith, div-add-mod' i unit) in
      let same : (q * unit + i) % unit ≡ i % unit =
      ap (λ n. n % unit) e ∙ mod-mul-add (q + i / unit) unit (i % unit) (mod_below i unit (omega arith)) in
      ap (λ n. cons_option (then_some (nat_lt n page) x) (pages_from (q * unit + i + 1) page oob xs)) same
      ∙ ap (λ n. cons_option (then_some (nat_lt (i % unit) page) x) (pages_from n page oob xs)) (let f : q * unit + i + 1 ≡ q * unit + (i + 1) = omega arith in f)
      ∙ ap (λ ys. cons_option (then_some (nat_lt (i % unit) page) x) ys) (pages_from_later some q (i + 1) xs)

  pub begins_at_0 : 0 < page → 0 % (page + oob) ≡ 0
  begins_at_0 some =
      let e : 0 ≡ 0 * (page + oob) + 0 = omega arith in ap (λ n. n % (page + oob)) e ∙ mod-mul-add 0 (page + oob) 0 (omega arith)

  fits_in : (q r : ℕ) → r < page → (n : ℕ) → q < n / (page + oob) → q * (page + oob) + r ≤ n
  fits_in q r small n inside =
      let unit = page + oob in
      let step = mul-le (suc q) unit (n / unit) unit inside (le_refl unit) in
      let e : suc q * unit ≡ q * unit + unit = omega arith in
      omega (arith, step, e, div-add-mod' n unit)

  -- the bytes of the pages before a place in one
  length-before : 0 < page → (q r : ℕ) (xs : List ℕ) → r < page → q * (page + oob) + r ≤ length xs
      → length (pages_from 0 page oob (take (q * (page + oob) + r) xs)) ≡ q * page + r
  length-before some q r xs small inside =
      let unit = page + oob in
      let raw : ℕ = q * unit + r in
      let front = take raw xs in
      let many = length-take-le raw xs inside in
      let first = length-take-le (q * unit) front (omega (arith, many)) in
      let rest = length-drop (q * unit) front in
      let begins : (0 + q * unit) % unit ≡ 0 =
      (let e : 0 + q * unit ≡ q * unit + 0 = omega arith in ap (λ n. n % unit) e) ∙ mod-mul-add q unit 0 (omega arith) in
      let whole = length-pages some q 0 (take (q * unit) front) (begins_at_0 some) first in
      let last = ap length (pages_from_in some (0 + q * unit) (drop (q * unit) front) (omega (arith, begins, rest, many, small))) in
      ap length (pages_from_cut 0 (q * unit) front (omega (arith, many)))
      ∙ length-append (pages_from 0 page oob (take (q * unit) front)) (pages_from (0 + q * unit) page oob (drop (q * unit) front))
      ∙ (omega (arith, whole, last, rest, many))

  -- what stands in a file with out-of-band bytes: the pages of it stand among the pages
  pub stands_in_pages : 0 < page → (all bytes : List ℕ) (at : ℕ) → at / page < length all / (page + oob)
      → StandsAt all (at / page * (page + oob) + at % page) bytes
      → StandsAt (pages_of page oob all) at (pages_from (at % page) page oob bytes)
  stands_in_pages some all bytes at inside stands =
      let unit = page + oob in
      let q : ℕ = at / page in
      let r : ℕ = at % page in
      let raw : ℕ = q * unit + r in
      let small = mod_below at page some in
      let fits : raw ≤ length all = fits_in q r small (length all) inside in
      let count = length-before some q r all small fits in
      let at_is : q * page + r ≡ at = div-add-mod' at page in
      let later : drop at (pages_of page oob all) ≡ pages_from r page oob (drop raw all) =
      ap (λ ys. drop at ys) (pages_from_cut 0 raw all fits)
      ∙ drop_at (pages_from 0 page oob (take raw all)) (pages_from (0 + raw) page oob (drop raw all)) at (count ∙ at_is)
      ∙ ap (λ n. pages_from n page oob (drop raw all)) (let e : 0 + raw ≡ q * unit + r = omega arith in e)
      ∙ pages_from_later some q r (drop raw all) in
      ap (λ ys. pages_from r page oob ys) stands
      ∙ pages_from-take r (length bytes) (drop raw all)
      ∙ ap (λ ys. take (length (pages_from r page oob ys)) (pages_from r page oob (drop raw all))) (sym stands)
      ∙ ap (λ ys. take (length (pages_from r page oob bytes)) ys) (sym later)

  -- the pages of as many bytes as a device has, and of one page more, are judged as those of all bytes
  pub judged_pages : 0 < page → (device : ℕ) (xs : List ℕ)
      → take (device + 1) (pages_of page oob (take ((device / page + 1) * (page + oob)) xs)) ≡ take (device + 1) (pages_of page oob xs)
  judged_pages some device xs = by_len (cases_lt most (length xs))
    where
      most : ℕ
      most = (device / page + 1) * (page + oob)

      by_len : (most < length xs) ⊎ (length xs ≤ most)
          → take (device + 1) (pages_of page oob (take most xs)) ≡ take (device + 1) (pages_of page oob xs)
      by_len (inr all) = ap (λ ys. take (device + 1) (pages_of page oob ys)) (take_all most xs all)
      by_len (inl more) =
          let front = pages_of page oob (take most xs) in
          let count = length-pages some (device / page + 1) 0 (take most xs) (begins_at_0 some) (length-take-le most xs (omega arith)) in
          let e : (device / page + 1) * page ≡ device / page * page + page = omega arith in
          let enough : device + 1 ≤ length front = omega (arith, count, e, div-add-mod' device page, mod_below device page some) in
          sym (ap (λ ys. take (device + 1) ys) (pages_from_cut 0 most xs (omega arith))
          ∙ take-append-le (device + 1) front (pages_from (0 + most) page oob (drop most xs)) enough)

-- without out-of-band bytes all lie in pages
pub pages_from_none : (page : ℕ) → 0 < page → (i : ℕ) (xs : List ℕ) → pages_from i page 0 xs ≡ xs
pages_from_none page some i [] = refl
pages_from_none page some i (x ∷ xs) =
    kept_one page 0 i x xs (let e : page + 0 ≡ page = omega arith in subst (λ n. i % n < page) (sym e) (mod_below i page some))
    ∙ ap (λ ys. x ∷ ys) (pages_from_none page some (i + 1) xs)

pub pages_none : (page : ℕ) → 0 < page → (xs : List ℕ) → pages_of page 0 xs ≡ xs
pages_none page some xs = pages_from_none page some 0 xs

-- bytes of which the first gaps are closed: `kept` of the first `from` bytes lie in pages and stand in front, and the next page begins
-- behind them
pub record AreClosed (page oob place : ℕ) (old now : List ℕ) (kept from : ℕ) : Type 0 where
  pub front : take kept now ≡ pages_from place page oob (take from old)
  pub rest : drop from now ≡ drop from old
  pub behind : kept ≤ from
  pub within : kept ≤ length now
  pub begins : (place + from) % (page + oob) ≡ 0
  pub long : length now ≡ length old

module _ (page oob place : ℕ) (old : List ℕ) (small : place < page) where
  -- the first page, of which some bytes may lie before
  pub closed_first : (kept from : ℕ) → kept ≡ min (length old) (page - place) → from ≡ page - place + oob
      → AreClosed page oob place old old kept from
  closed_first kept from first next = record {
    front = by_len (cases_lt (length old) (page - place));
    rest = refl;
    behind = omega (arith, first, next);
    within = omega (arith, first);
    begins =
        let e : place + from ≡ 1 * (page + oob) + 0 = omega (arith, next) in
        ap (λ n. n % (page + oob)) e ∙ mod-mul-add 1 (page + oob) 0 (omega arith);
    long = refl;
  }
    where
      in_page : place % (page + oob) ≡ place
      in_page =
          let e : place ≡ 0 * (page + oob) + place = omega arith in
          ap (λ k. k % (page + oob)) e ∙ mod-mul-add 0 (page + oob) place (omega arith)

      by_len : (length old < page - place) ⊎ (page - place ≤ length old) → take kept old ≡ pages_from place page oob (take from old)
      by_len (inl less) =
          take_all kept old (omega (arith, first, less))
          ∙ sym (ap (λ ys. pages_from place page oob ys) (take_all from old (omega (arith, next, less)))
          ∙ pages_from_in page oob (omega arith) place old (omega (arith, in_page, less)))
      by_len (inr more) =
          let n : ℕ = page - place in
          let kept_is : kept ≡ n = omega (arith, first, more) in
          let front = length-take n (take from old) in
          let few = length-take from old in
          let rest = length-drop n (take from old) in
          let enough : n ≤ length (take from old) = omega (arith, next, more, few) in
          ap (λ k. take k old) kept_is
          ∙ sym (take-take n from old (omega (arith, next)))
          ∙ sym (pages_from_cut page oob place n (take from old) enough
          ∙ ap (λ ys. ys ++ pages_from (place + n) page oob (drop n (take from old)))
          (pages_from_in page oob (omega arith) place (take n (take from old)) (omega (arith, in_page, front)))
          ∙ ap (λ ys. take n (take from old) ++ ys) (gap (drop n (take from old)) (omega (arith, next, few, rest)) (cases_lt 0 oob))
          ∙ append-nil (take n (take from old)))
        where
          gap : (xs : List ℕ) → length xs ≤ oob → (0 < oob) ⊎ (oob ≤ 0) → pages_from (place + (page - place)) page oob xs ≡ []
          gap xs few (inr none) = ap (λ ys. pages_from (place + (page - place)) page oob ys) (nil_from_length xs (omega (arith, few, none)))
          gap xs few (inl some) =
              let e : place + (page - place) ≡ 0 * (page + oob) + page = omega arith in
              let at : (place + (page - place)) % (page + oob) ≡ page = ap (λ k. k % (page + oob)) e ∙ mod-mul-add 0 (page + oob) page (omega arith) in
              pages_from_out page oob (omega arith) (place + (page - place)) xs (omega (arith, at)) (omega (arith, at, few))

  -- and one page more
  pub closed_more : (now : List ℕ) (kept from n next : ℕ) → AreClosed page oob place old now kept from → from < length now
      → n ≡ min (length now) (from + page) - from → next ≡ from + page + oob
      → AreClosed page oob place old (paste now kept (drop from now) n) (kept + n) next
  closed_more now kept from n next h inside count later = record {
    front =
        take-paste now kept (drop from now) n h.within enough
        ∙ ap (λ ys. ys ++ take n (drop from now)) h.front
        ∙ ap (λ ys. pages_from place page oob (take from old) ++ take n ys) h.rest
        ∙ ap (λ ys. pages_from place page oob (take from old) ++ ys) one
        ∙ sym (pages_from_cut page oob place from (take next old) (omega (arith, some, h.long, inside, later))
        ∙ ap (λ ys. pages_from place page oob ys ++ pages_from (place + from) page oob (drop from (take next old))) (take-take from next old (omega (arith, later))));
    rest =
        ap (λ k. drop k (paste now kept (drop from now) n)) gap_is
        ∙ sym (drop-drop gap (kept + n) (paste now kept (drop from now) n))
        ∙ ap (λ ys. drop gap ys) (drop-paste now kept (drop from now) n h.within enough)
        ∙ drop-drop gap (kept + n) now
        ∙ ap (λ k. drop k now) (sym gap_is ∙ skip_is)
        ∙ sym (drop-drop (page + oob) from now) ∙ ap (λ ys. drop (page + oob) ys) h.rest ∙ drop-drop (page + oob) from old
        ∙ ap (λ k. drop k old) (sym skip_is);
    behind = omega (arith, h.behind, count, later);
    within = omega (arith, long, h.behind, count);
    begins =
        let e : place + next ≡ place + from + (page + oob) = omega (arith, later) in
        ap (λ k. k % (page + oob)) e ∙ next_begins page oob (place + from) h.begins (omega arith);
    long = long ∙ h.long;
  }
    where
      left : length (drop from now) ≡ length now - from
      left = length-drop from now

      enough : n ≤ length (drop from now)
      enough = omega (arith, left, count)

      long : length (paste now kept (drop from now) n) ≡ length now
      long = length-paste now kept (drop from now) n (omega (arith, h.behind, count, inside)) enough

      gap : ℕ
      gap = next - (kept + n)

      gap_is : next ≡ kept + n + gap
      gap_is = omega (arith, h.behind, count, later)

      skip_is : next ≡ from + (page + oob)
      skip_is = omega (arith, later)

      some : length (take next old) ≡ min next (length old)
      some = length-take next old

      unit : drop from (take next old) ≡ take (page + oob) (drop from old)
      unit = ap (λ k. drop from (take k old)) skip_is ∙ drop-take from (page + oob) old

      one : take n (drop from old) ≡ pages_from (place + from) page oob (drop from (take next old))
      one =
          let rest = length-drop from old in
          let few = length-take (page + oob) (drop from old) in
          let count_is : n ≡ min page (length (drop from old)) = omega (arith, count, rest, h.long, inside) in
          ap (λ k. take k (drop from old)) count_is ∙ take_min page (drop from old)
          ∙ sym (take-take page (page + oob) (drop from old) (omega arith))
          ∙ sym (pages_from_unit page oob (omega arith) (place + from) (take (page + oob) (drop from old)) h.begins (omega (arith, few)))
          ∙ ap (λ ys. pages_from (place + from) page oob ys) (sym unit)

-- the first of bytes that stand in a file stand there
stands_shorter : (all : List ℕ) (at n : ℕ) (bytes : List ℕ) → n ≤ length bytes → StandsAt all at bytes → StandsAt all at (take n bytes)
stands_shorter all at n bytes few stands =
    ap (λ ys. take n ys) stands ∙ take-take n (length bytes) (drop at all) few
    ∙ ap (λ k. take k (drop at all)) (sym (length-take-le n bytes few))

-- ---- what is read of a file with out-of-band bytes

module _ (page : ℕ) (some : 0 < page) (held : Option (List ℕ)) (at : ℕ) where
  pub read_without_oob : {E : Type 0} (oob : ℕ) (r : Result ℕ E) (out : List ℕ) → oob ≡ 0
      → IfOk r (λ n. ForSome held (λ all. StandsAt all at (take n out)))
      → IfOk r (λ n. ForSome (option_map (pages_of page oob) held) (λ all. StandsAt all at (take n out)))
  read_without_oob oob (Err e) out none h = tt
  read_without_oob oob (Ok n) out none h =
      for_mapped (pages_of page oob) (λ all. StandsAt all at (take n out)) held
      (λ all is. subst (λ (xs : List ℕ). StandsAt xs at (take n out))
      (sym (ap (λ k. pages_of page k all) none ∙ pages_none page some all)) (h all is))

  pub read_pages : (oob len n kept : ℕ) (out closed rest : List ℕ) → ForSome held (λ all. length all ≡ len)
      → at / page < len / (page + oob) → kept ≤ length closed → take kept closed ≡ pages_from (at % page) page oob (take n out)
      → ForSome held (λ all. StandsAt all (at / page * (page + oob) + at % page) (take n out))
      → ForSome (option_map (pages_of page oob) held) (λ all. StandsAt all at (take kept (closed ++ rest)))
  read_pages oob len n kept out closed rest sized inside within are h =
      for_mapped (pages_of page oob) (λ all. StandsAt all at (take kept (closed ++ rest))) held
      (λ all is.
      subst (λ bytes. StandsAt (pages_of page oob all) at bytes) (sym (take-append-le kept closed rest within ∙ are))
      (stands_in_pages page oob some all (take n out) at (subst (λ k. at / page < k / (page + oob)) (sym (sized all is)) inside) (h all is)))

  -- and of fewer that are handed on
  pub read_some_pages : (oob len n kept given : ℕ) (out closed rest mine behind : List ℕ) → ForSome held (λ all. length all ≡ len)
      → at / page < len / (page + oob) → kept ≤ length closed → take kept closed ≡ pages_from (at % page) page oob (take n out)
      → given ≤ kept → mine ≡ take given (closed ++ rest)
      → ForSome held (λ all. StandsAt all (at / page * (page + oob) + at % page) (take n out))
      → ForSome (option_map (pages_of page oob) held) (λ all. StandsAt all at (take given (mine ++ behind)))
  read_some_pages oob len n kept given out closed rest mine behind sized inside within are few is h = λ all seen.
      let many = length-append closed rest in
      let count = length-take-le given (closed ++ rest) (omega (arith, many, few, within)) in
      let long = ap length is ∙ count in
      let shown = length-take-le kept (closed ++ rest) (omega (arith, many, within)) in
      let stands = read_pages oob len n kept out closed rest sized inside within are h all seen in
      subst (λ bytes. StandsAt all at bytes)
      (sym (take_at mine behind given long ∙ is ∙ sym (take-take given kept (closed ++ rest) few)))
      (stands_shorter all at given (take kept (closed ++ rest)) (omega (arith, shown, few)) stands)

-- how many bytes lie in pages
pub length-pages_of : (page oob len : ℕ) (bytes : List ℕ) → 0 < page → length bytes ≡ len → len % (page + oob) ≡ 0
    → length (pages_of page oob bytes) ≡ len / (page + oob) * page
length-pages_of page oob len bytes some long whole =
    length-pages page oob some (len / (page + oob)) 0 bytes (begins_at_0 page oob some)
    (long ∙ (omega (arith, whole, div-add-mod' len (page + oob))))

pub length-without_oob : (page oob len : ℕ) (bytes : List ℕ) → 0 < page → length bytes ≡ len → oob ≡ 0
    → length (pages_of page oob bytes) ≡ len
length-without_oob page oob len bytes some long none =
    ap (λ k. length (pages_of page k bytes)) none ∙ ap length (pages_none page some bytes) ∙ long
