-- The headers of a file, unit by unit.
use Rattle.ubi_detect.proofs.Prelude.{◌≡◌, ℕ, ◌+◌, ◌-◌, ◌*◌, ◌/◌, ◌%◌, ◌<◌, ◌≤◌, List, [], ◌∷◌, ◌++◌, length, take, drop, slice_range, refl, ap, sym, ◌∙◌, arith, div_ceil, cons_option, filter_map, range_with_len, option_to_list, min, None, Option, Some, mod-add-div', drop-drop, drop-take, map-id, take-take, filter_map-append, map-range_with_len_more, head_at, heads_to, step, head_in}

-- n numbers and one more
pub range_more : (n : ℕ) → range_with_len 0 (n + 1) ≡ range_with_len 0 n ++ n ∷ []
range_more n =
    sym (map-id (range_with_len 0 (n + 1))) ∙ map-range_with_len_more (λ x. x) 0 n n (omega arith)
    ∙ ap (λ xs. xs ++ n ∷ []) (map-id (range_with_len 0 n))

one_or_none : {X : Type 0} (o : Option X) → cons_option o [] ≡ option_to_list o
one_or_none None = refl
one_or_none (Some x) = refl

-- the headers in one unit more
pub heads_more : (bytes : List ℕ) (n : ℕ)
    → heads_to bytes (n + 1) ≡ heads_to bytes n ++ head_in (n * step) (slice_range bytes (n * step) (n * step + 64))
heads_more bytes n =
    ap (filter_map (head_at bytes)) (range_more n) ∙ filter_map-append (head_at bytes) (range_with_len 0 n) (n ∷ [])
    ∙ ap (λ hs. heads_to bytes n ++ hs) (one_or_none (head_at bytes n))

-- a part of what stands in a range
pub inner_range : (all bytes : List ℕ) (place at n : ℕ) → slice_range all place (place + length bytes) ≡ bytes → at + n ≤ length bytes
    → slice_range all (place + at) (place + at + n) ≡ slice_range bytes at (at + n)
inner_range all bytes place at n e inside =
    let m = length bytes in
    let count : place + at + n - (place + at) ≡ n = omega arith in
    let short : at + n - at ≡ n = omega arith in
    let whole : place + m - place ≡ at + (m - at) = omega (arith, inside) in
    sym (ap (λ xs. slice_range xs at (at + n)) (sym e)
    ∙ ap (λ k. take k (drop at (take (place + m - place) (drop place all)))) short
    ∙ ap (λ k. take n (drop at (take k (drop place all)))) whole
    ∙ ap (take n) (drop-take at (m - at) (drop place all))
    ∙ take-take n (m - at) (drop at (drop place all)) (omega (arith, inside))
    ∙ ap (take n) (drop-drop at place all)
    ∙ ap (λ k. take k (drop (place + at) all)) (sym count))

module _ (all bytes : List ℕ) (place i : ℕ) (here : slice_range all place (place + length bytes) ≡ bytes)
    (begin : place % step ≡ 0) (inside : i * step + 64 ≤ length bytes) where
  unit_is : (place / step + i) * step ≡ place + i * step
  unit_is = let e = mod-add-div' place step in omega (arith, e, begin)

  -- the headers in one unit more of those that begin at a place
  pub heads_of_unit : heads_to all (place / step + (i + 1))
      ≡ heads_to all (place / step + i) ++ head_in (place + i * step) (slice_range bytes (i * step) (i * step + 64))
  heads_of_unit =
      let next : place / step + (i + 1) ≡ place / step + i + 1 = omega arith in
      ap (heads_to all) next ∙ heads_more all (place / step + i)
      ∙ ap (λ p. heads_to all (place / step + i) ++ head_in p (slice_range all p (p + 64))) unit_is
      ∙ ap (λ xs. heads_to all (place / step + i) ++ head_in (place + i * step) xs) (inner_range all bytes place (i * step) 64 here inside)

-- that many units of 64 bytes
pub unit_inside : (i n : ℕ) → i < n / step → i * step + 64 ≤ n
unit_inside i n below = let e = mod-add-div' n step in omega (arith, e, below)

-- the unit of a place that is a number of units behind another
pub unit_behind : (place i : ℕ) → place % step ≡ 0 → ((place + i * step) / step ≡ place / step + i) × ((place + i * step) % step ≡ 0)
unit_behind place i begin = (omega (arith, begin), omega (arith, begin))

-- the units in one window more, and those in all windows
pub next_window : (i n : ℕ) → i * 65536 < n
    → (min (i * 1024) (n / step) ≡ i * 65536 / step) × (min ((i + 1) * 1024) (n / step) ≡ i * 65536 / step + min (n - i * 65536) 65536 / step)
next_window i n more = (omega (arith, more), omega (arith, more))

pub all_windows : (i n : ℕ) → n ≤ i * 65536 → min (i * 1024) (n / step) ≡ n / step
all_windows i n done = omega (arith, done)

pub below_ceil : (i n : ℕ) {m : ℕ} → m ≡ div_ceil n 65536 → i < m → i * 65536 < n
below_ceil i n e less = omega (arith, e, less)

pub past_ceil : (i n : ℕ) {m : ℕ} → m ≡ div_ceil n 65536 → m ≤ i → n ≤ i * 65536
past_ceil i n e more = omega (arith, e, more)
