-- The first of what is found in a file has the least page, and if pages have no out-of-band bytes nothing else differs.
use Rattle.ubi_detect.proofs.Prelude.{◌≡◌, ℕ, suc, ◌-◌, ◌/◌, ◌%◌, ◌*◌, ◌≤◌, Bool, true, false, cond, List, [], ◌∷◌, ◌++◌, refl, sym, subst, arith, then_some, ◌∣◌, All, AllByRecursion, AllPairs, cons_option, filter_map, flat_map, Contains, option_map, nat_le, nat_lt, ◌==◌, ◌&&◌, nat_tests, All-append, All-cons, All-contains, All-from_recursion, All-head, All-map, All-nil, All-tail, All-weaker, AllPairs-cons, AllPairs-filter, dvd_of_mod-eq-zero, dvd_refl, mod_self, page_sizes, with_page, EcOffsets, AreDetected, is_laid_out, layout_sizes, end_of_image, has_vote, is_voted, is_without, start_of_image, told, told_by, told_ways, ways_with, ways_without, page_counts, plain_way, way_of, Detected, Group, Way}
use Rattle.std.proofs.Common.{map}
use Rattle.std.specs.Prelude.{filter}

-- what holds of each pair of elements
module _ {X : Type 0} (R : X → X → Type 0) where
  pairs_none : AllPairs R []
  pairs_none i j d below inside = absurd (omega arith)

  pairs_first : (x : X) (xs : List X) → AllPairs R (x ∷ xs) → All (R x) xs
  pairs_first x xs h k d inside = h 0 (suc k) d (omega arith) (omega arith)

  pairs_behind : (x : X) (xs : List X) → AllPairs R (x ∷ xs) → AllPairs R xs
  pairs_behind x xs h i j d below inside = h (suc i) (suc j) d (omega arith) (omega arith)

  pairs_map : {Y : Type 0} (f : Y → X) (ys : List Y) → AllPairs (λ x y. R (f x) (f y)) ys → AllPairs R (map f ys)
  pairs_map f [] h = pairs_none
  pairs_map f (y ∷ ys) h =
      AllPairs-cons R (f y) (map f ys)
      (All-map (R (f y)) f ys (λ k d inside. h 0 (suc k) d (omega arith) (omega arith)))
      (pairs_map f ys (λ i j d below inside. h (suc i) (suc j) d (omega arith) (omega arith)))

-- a page is a multiple of another
abbrev IsMultiple : ℕ → ℕ → Type 0
IsMultiple x y = y % x ≡ 0

-- of pages each is a multiple of those before it
abbrev AreMultiples : List ℕ → Type 0
AreMultiples [] = Unit {0}
AreMultiples (x ∷ xs) = AllByRecursion (IsMultiple x) xs × AreMultiples xs

pairs_of_pages : (xs : List ℕ) → AreMultiples xs → AllPairs IsMultiple xs
pairs_of_pages [] h = pairs_none IsMultiple
pairs_of_pages (x ∷ xs) h =
    AllPairs-cons IsMultiple x xs (All-from_recursion (IsMultiple x) xs h.0) (pairs_of_pages xs h.1)

page_pairs : AllPairs IsMultiple page_sizes
page_pairs = pairs_of_pages page_sizes (search arith)

-- the page of a way divides that of another, and where that one has no out-of-band bytes, nothing else differs
abbrev IsLesser : Way → Way → Type 0
IsLesser w v =
    (w.geometry.page ∣ v.geometry.page)
    × (v.oob ≡ 0 → (w.oob ≡ 0) × (w.geometry ≡ with_page v.geometry w.geometry.page))

-- so it is with what is told of both
abbrev pub IsLesserTold : Detected → Detected → Type 0
IsLesserTold d e =
    (d.geometry.page ∣ e.geometry.page) × (d.start ≡ e.start) × (d.length ≡ e.length)
    × (e.oob ≡ 0 → (d.oob ≡ 0) × (d.geometry ≡ with_page e.geometry d.geometry.page))

-- what holds of an element that may stand before others
all_more : (P : Way → Type 0) (b : Bool) (w : Way) (ws : List Way) → (b ≡ true → P w) → All P ws
    → All P (cons_option (then_some b w) ws)
all_more P true w ws first rest = All-cons P w ws (first refl) rest
all_more P false w ws first rest = rest

module _ (q : ℕ) (o : EcOffsets) where
  -- pages without out-of-band bytes
  abbrev plain : ℕ → Way
  plain page = record { geometry = layout_sizes q o page; oob = 0 }

  plain_all : (x : ℕ) (ys : List ℕ) → All (IsMultiple x) ys → All (IsLesser (plain x)) (filter_map (plain_way q o) ys)
  plain_all x [] h = All-nil (IsLesser (plain x))
  plain_all x (y ∷ ys) h = by (is_laid_out (layout_sizes q o y)) _ (plain_all x ys (All-tail (IsMultiple x) y ys h))
    where
      by : (b : Bool) (ws : List Way) → All (IsLesser (plain x)) ws
          → All (IsLesser (plain x))
          (cons_option (option_map (λ s. record { geometry = s; oob = 0 }) (then_some b (layout_sizes q o y))) ws)
      by true ws rest =
          All-cons (IsLesser (plain x)) (plain y) ws
          (dvd_of_mod-eq-zero x (All-head (IsMultiple x) y ys h), λ none. (refl, refl)) rest
      by false ws rest = rest

  plain_pairs : (xs : List ℕ) → AllPairs IsMultiple xs → AllPairs IsLesser (filter_map (plain_way q o) xs)
  plain_pairs [] h = pairs_none IsLesser
  plain_pairs (x ∷ xs) h =
      by (is_laid_out (layout_sizes q o x)) _ (plain_all x xs (pairs_first IsMultiple x xs h))
      (plain_pairs xs (pairs_behind IsMultiple x xs h))
    where
      by : (b : Bool) (ws : List Way) → All (IsLesser (plain x)) ws → AllPairs IsLesser ws
          → AllPairs IsLesser
          (cons_option (option_map (λ s. record { geometry = s; oob = 0 }) (then_some b (layout_sizes q o x))) ws)
      by true ws all rest = AllPairs-cons IsLesser (plain x) ws all rest
      by false ws all rest = rest

  -- whether a page with out-of-band bytes is a way
  abbrev fits : ℕ → ℕ → Bool
  fits page n =
      (q % n == 0) && nat_lt page (q / n) && nat_le 256 page && nat_le (q / n - page) (page / 4)
      && is_laid_out (layout_sizes (page * n) o page)

  some_oob : (page n : ℕ) → fits page n ≡ true → 1 ≤ q / n - page
  some_oob page n e = grind (arith, nat_tests)

  -- a way with them, whose page is a multiple of x
  abbrev IsFrom : ℕ → Way → Type 0
  IsFrom x w = IsMultiple x w.geometry.page × (1 ≤ w.oob)

  -- and one whose page is x
  abbrev IsOf : ℕ → Way → Type 0
  IsOf x w = (w.geometry.page ≡ x) × (1 ≤ w.oob)

  of_page : (x : ℕ) (ns : List ℕ) → All (IsOf x) (filter_map (way_of q o x) ns)
  of_page x [] = All-nil (IsOf x)
  of_page x (n ∷ ns) = all_more (IsOf x) (fits x n) _ _ (λ e. (refl, some_oob x n e)) (of_page x ns)

  from_of : (x page : ℕ) → IsMultiple x page → (w : Way) → IsOf page w → IsFrom x w
  from_of x page multiple w is = (subst (IsMultiple x) (sym is.0) multiple, is.1)

  from_pages : (x : ℕ) (pages : List ℕ) → All (IsMultiple x) pages
      → All (IsFrom x) (flat_map (λ page. filter_map (way_of q o page) page_counts) pages)
  from_pages x [] h = All-nil (IsFrom x)
  from_pages x (page ∷ pages) h =
      All-append (IsFrom x) _ _
      (All-weaker (IsOf page) (IsFrom x) (from_of x page (All-head (IsMultiple x) page pages h)) _
      (of_page page page_counts))
      (from_pages x pages (All-tail (IsMultiple x) page pages h))

  -- ways of a page, and behind them ways of its multiples
  lesser_of : (x : ℕ) (w v : Way) → IsOf x w → IsFrom x v → IsLesser w v
  lesser_of x w v is from = (
    subst (λ z. z ∣ v.geometry.page) (sym is.0) (dvd_of_mod-eq-zero x from.0),
    λ none. absurd (omega (arith, from.1, none)),
  )

  joined : (x : ℕ) (ws vs : List Way) → All (IsOf x) ws → All (IsFrom x) vs → AllPairs IsLesser vs
      → AllPairs IsLesser (ws ++ vs)
  joined x [] vs is from pairs = pairs
  joined x (w ∷ ws) vs is from pairs =
      let behind : All (IsOf x) ws = All-tail (IsOf x) w ws is in
      let all : All (IsFrom x) (ws ++ vs) =
      All-append (IsFrom x) ws vs (All-weaker (IsOf x) (IsFrom x) (from_of x x (mod_self x)) ws behind) from in
      AllPairs-cons IsLesser w (ws ++ vs)
      (All-weaker (IsFrom x) (IsLesser w) (λ v. lesser_of x w v (All-head (IsOf x) w ws is)) (ws ++ vs) all)
      (joined x ws vs behind from pairs)

  oob_pairs : (pages : List ℕ) → AllPairs IsMultiple pages
      → AllPairs IsLesser (flat_map (λ page. filter_map (way_of q o page) page_counts) pages)
  oob_pairs [] h = pairs_none IsLesser
  oob_pairs (x ∷ xs) h =
      joined x _ _ (of_page x page_counts) (from_pages x xs (pairs_first IsMultiple x xs h))
      (oob_pairs xs (pairs_behind IsMultiple x xs h))

module _ (bytes : List ℕ) (g : Group) where
  way_pairs : AllPairs IsLesser (told_ways bytes g)
  way_pairs = by (is_without bytes g)
    where
      by : (b : Bool)
          → AllPairs IsLesser
          (cond b (filter (has_vote bytes g) (ways_without g)) (filter (is_voted bytes g) (ways_with g)))
      by true =
          AllPairs-filter IsLesser (has_vote bytes g) (ways_without g)
          (plain_pairs g.size g.key.offsets page_sizes page_pairs)
      by false =
          AllPairs-filter IsLesser (is_voted bytes g) (ways_with g)
          (oob_pairs g.size g.key.offsets page_sizes page_pairs)

  told_pairs : AllPairs IsLesserTold (told bytes g)
  told_pairs =
      pairs_map IsLesserTold (told_by (start_of_image g) (end_of_image bytes g)) (told_ways bytes g)
      (λ i j d below inside. (let h = way_pairs i j d below inside in (h.0, refl, refl, h.1)))

-- of what is told of a file, the first is lesser than each, or it itself
pub least_first : (bytes : List ℕ) (d e : Detected) (rest : List Detected) → AreDetected bytes (d ∷ rest)
    → Contains (d ∷ rest) e → IsLesserTold d e
least_first bytes d e rest are has =
    let pairs : AllPairs IsLesserTold (d ∷ rest) =
    subst (AllPairs IsLesserTold) (sym are.are) (told_pairs bytes are.group) in
    let own : IsLesserTold d d = (dvd_refl d.geometry.page, refl, refl, λ none. (none, refl)) in
    All-contains (IsLesserTold d) (d ∷ rest) e
    (All-cons (IsLesserTold d) d rest own (pairs_first IsLesserTold d rest pairs)) has
