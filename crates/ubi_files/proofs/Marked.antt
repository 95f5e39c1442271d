-- Marks of eraseblocks, range by range.
use Rattle.ubi_files.proofs.Prelude.{◌≡◌, ◌∙◌, ℕ, ◌+◌, ◌-◌, ◌<◌, ◌≤◌, ◌&&◌, ◌||◌, ◌⊎◌, Bool, List, [], ◌∷◌, ◌++◌, ap, arith, cond, drop, false, get_or, length, map, min, nat_le, nat_lt, refl, replicate, sym, take, true, list_any, slice_split, cases_lt, nat_tests, length-append, length-drop, length-replicate, length-take-le, map-append, same_lists, take_more, length-slice_split, Bor, option_map_or, None, Option, filter_map, filter_map-append, has_number, one_block, range_of, range_of_parts, ranges_of, with_ranges, BlockRange, Some}
use Rattle.std.specs.Prelude.{is_some}
use Rattle.std.specs.Prelude.{◌==◌}
use Rattle.ubi_files.proofs.PlaceByPlace.{get_or-filled, get_or-placed, length-placed}

-- an item that is cut twice at its hyphens has no range
pub range_of_cut_twice : (item first rest last : List ℕ) (behind : Option (Bor (List ℕ)))
    → slice_split (λ b. b == 45) item ≡ first ∷ slice_split (λ b. b == 45) rest
    → slice_split (λ b. b == 45) rest ≡ last ∷ option_map_or (λ more. slice_split (λ b. b == 45) more.now) behind []
    → is_some behind ≡ true → range_of item ≡ None
range_of_cut_twice item first rest last None one two there = absurd cc
range_of_cut_twice item first rest last (Some more) one two there =
    ap range_of_parts (one ∙ ap (λ parts. first ∷ parts) two)
    ∙ three (slice_split (λ b. b == 45) more.now) _ (length-slice_split (λ b. b == 45) more.now)
  where
    three : (parts : List (List ℕ)) (n : ℕ) → length parts ≡ n + 1 → range_of_parts (first ∷ last ∷ parts) ≡ None
    three [] n h = absurd (omega (arith, h))
    three (part ∷ parts) n h = refl

-- whether one of the ranges has a number
abbrev in_ranges : List BlockRange → ℕ → Bool
in_ranges ranges p = list_any (λ r. has_number r p) ranges

-- a mark, where the ranges are marked too
pub get_or-with_ranges : (marks : List Bool) (ranges : List BlockRange) (k : ℕ) (d : Bool) → k < length marks
    → get_or (with_ranges marks ranges) k d ≡ (get_or marks k d || list_any (λ r. has_number r k) ranges)
get_or-with_ranges marks ranges k d l =
    get_or-placed (λ p m. m || in_ranges ranges p) 0 marks k d d l
    ∙ ap (λ p. get_or marks k d || in_ranges ranges p) (omega arith)

pub length-with_ranges : (marks : List Bool) (ranges : List BlockRange) → length (with_ranges marks ranges) ≡ length marks
length-with_ranges marks ranges = length-placed (λ p m. m || in_ranges ranges p) 0 marks

or_false : (b : Bool) → (b || false) ≡ b
or_false true = refl
or_false false = refl

or_assoc : (a b c : Bool) → ((a || b) || c) ≡ (a || (b || c))
or_assoc true b c = refl
or_assoc false b c = refl

-- no range marks nothing
pub with_no_ranges : (marks : List Bool) → with_ranges marks [] ≡ marks
with_no_ranges marks = same_lists (with_ranges marks []) marks (length-with_ranges marks [])
    (λ k d l. get_or-with_ranges marks [] k d (let n = length-with_ranges marks [] in omega arith) ∙ or_false (get_or marks k d))

any-append : (xs ys : List BlockRange) (p : ℕ) → in_ranges (xs ++ ys) p ≡ (in_ranges xs p || in_ranges ys p)
any-append [] ys p = refl
any-append (a ∷ xs) ys p =
    ap (λ x. has_number a p || x) (any-append xs ys p) ∙ sym (or_assoc (has_number a p) (in_ranges xs p) (in_ranges ys p))

-- ranges after ranges mark what all of them mark
pub with_more_ranges : (marks : List Bool) (xs ys : List BlockRange)
    → with_ranges (with_ranges marks xs) ys ≡ with_ranges marks (xs ++ ys)
with_more_ranges marks xs ys = same_lists (with_ranges (with_ranges marks xs) ys) (with_ranges marks (xs ++ ys))
    (length-with_ranges (with_ranges marks xs) ys ∙ length-with_ranges marks xs ∙ sym (length-with_ranges marks (xs ++ ys)))
    (λ k d l.
    let one = length-with_ranges (with_ranges marks xs) ys in
    let two = length-with_ranges marks xs in
    let here : k < length marks = omega arith in
    get_or-with_ranges (with_ranges marks xs) ys k d (omega arith)
    ∙ ap (λ m. m || in_ranges ys k) (get_or-with_ranges marks xs k d here)
    ∙ or_assoc (get_or marks k d) (in_ranges xs k) (in_ranges ys k)
    ∙ ap (λ x. get_or marks k d || x) (sym (any-append xs ys k))
    ∙ sym (get_or-with_ranges marks (xs ++ ys) k d here))

-- one number more marks one eraseblock more
pub mark_number : (marks : List Bool) (numbers : List ℕ) (i : ℕ) → i < length numbers
    → with_ranges (with_ranges marks (map one_block (take i numbers))) (one_block (get_or numbers i 0) ∷ [])
    ≡ with_ranges marks (map one_block (take (i + 1) numbers))
mark_number marks numbers i l =
    with_more_ranges marks (map one_block (take i numbers)) (one_block (get_or numbers i 0) ∷ [])
    ∙ ap (with_ranges marks) (sym (ap (map one_block) (take_more numbers i 0 l)
    ∙ map-append one_block (take i numbers) (get_or numbers i 0 ∷ [])))

-- an item, and those behind it
pub mark_next : (marks : List Bool) (items item : List ℕ) (behind : List (List ℕ)) → slice_split (λ b. b == 44) items ≡ item ∷ behind
    → with_ranges marks (filter_map range_of (slice_split (λ b. b == 44) items))
    ≡ with_ranges (with_ranges marks (filter_map range_of (item ∷ []))) (filter_map range_of behind)
mark_next marks items item behind is =
    ap (λ parts. with_ranges marks (filter_map range_of parts)) is
    ∙ ap (λ ranges. with_ranges marks ranges) (filter_map-append range_of (item ∷ []) behind)
    ∙ sym (with_more_ranges marks (filter_map range_of (item ∷ [])) (filter_map range_of behind))

-- the marks of a word with items, and of one without
pub with_some_items : (marks : List Bool) (word : List ℕ) → (length word == 0) ≡ false
    → with_ranges marks (ranges_of word) ≡ with_ranges marks (filter_map range_of (slice_split (λ b. b == 44) word))
with_some_items marks word some =
    ap (λ none. with_ranges marks (filter_map range_of (cond none [] (slice_split (λ b. b == 44) word)))) some

pub with_no_items : (marks : List Bool) (word : List ℕ) → (length word == 0) ≡ true → with_ranges marks (ranges_of word) ≡ marks
with_no_items marks word none =
    ap (λ empty. with_ranges marks (filter_map range_of (cond empty [] (slice_split (λ b. b == 44) word)))) none
    ∙ with_no_ranges marks

-- one range marks what lies between its ends, xs far xs there are marks
module _ (marks : List Bool) (r : BlockRange) (end : ℕ) (is : end ≡ min (length marks) (r.last + 1)) where
  in_one : (k : ℕ) → k < length marks → (nat_le r.first k && nat_lt k end) ≡ has_number r k
  in_one k l = by_last (cases_lt r.last k)
    where
      by_last : (r.last < k) ⊎ (k ≤ r.last) → (nat_le r.first k && nat_lt k end) ≡ has_number r k
      by_last h = grind (arith, nat_tests)

  pub mark_one : (filled : List Bool) → r.first < end → filled ≡ replicate (end - r.first) true
      → take r.first marks ++ (filled ++ drop (end - r.first) (drop r.first marks)) ≡ with_ranges marks (r ∷ [])
  mark_one filled some are =
      let few : end ≤ length marks = omega arith in
      let long = ap length are ∙ length-replicate (end - r.first) true in
      let front = length-take-le r.first marks (omega arith) in
      same_lists (take r.first marks ++ (filled ++ drop (end - r.first) (drop r.first marks))) (with_ranges marks (r ∷ []))
      (simp (length-append, length-drop, length-with_ranges) (omega (arith, long, front)))
      (λ k d l.
      let here : k < length marks = omega (arith, simp (length-append, length-drop) at l, long, front) in
      get_or-filled true r.first (end - r.first) marks filled (omega arith) are k d here
      ∙ ap (λ e. cond (nat_le r.first k && nat_lt k e) true (get_or marks k d)) (let e : r.first + (end - r.first) ≡ end = omega arith in e)
      ∙ by_test (get_or marks k d) (nat_le r.first k && nat_lt k end) (has_number r k) (in_one k here)
      ∙ sym (get_or-with_ranges marks (r ∷ []) k d here))
    where
      by_test : (m b c : Bool) → b ≡ c → cond b true m ≡ (m || (c || false))
      by_test true true true e = refl
      by_test true false false e = refl
      by_test false true true e = refl
      by_test false false false e = refl
      by_test true true false e = absurd (cc)
      by_test true false true e = absurd (cc)
      by_test false true false e = absurd (cc)
      by_test false false true e = absurd (cc)

  pub mark_none : end ≤ r.first → marks ≡ with_ranges marks (r ∷ [])
  mark_none none = same_lists marks (with_ranges marks (r ∷ [])) (sym (length-with_ranges marks (r ∷ [])))
      (λ k d l.
      let out : has_number r k ≡ false = sym (in_one k l) ∙ (grind (arith, nat_tests)) in
      sym (or_false (get_or marks k d))
      ∙ ap (λ b. get_or marks k d || (b || false)) (sym out)
      ∙ sym (get_or-with_ranges marks (r ∷ []) k d l))
