-- The group of an image that lies in a file is that of its own headers, that much further on.
use Rattle.ubi_detect.proofs.Prelude.{◌≡◌, ◌≢◌, ℕ, ◌+◌, ◌-◌, ◌<◌, ◌≤◌, ◌⊎◌, Bool, true, false, cond, List, [], ◌∷◌, ◌++◌, length, zero, suc, inl, inr, refl, ap, sym, ◌∙◌, subst, arith, ◌∣◌, filter, fold, last_or, list_all, list_any, ◌==◌, ◌&&◌, ◌||◌, IsTrue, Some, map, not, slice_index_or, unwrap_or, and_from, and_parts, eqb-true, not-true, or_left, or_right, true≢false, nat_eq_equiv, append-nil, get_or-map, length-map, map-append, filter-append, list_all-append, list_any-append, list_any_at, Divides, IsGroup, IsImage, IsSpacing, Says, no_key, spoken, first_place, heads_of, is_of, keys_of, last_place, places, same_key, same_offsets, speaks, with_key, PartOfFile, moved, Group, Head, Key}
use Rattle.ubi_detect.proofs.BestGroup.{same_spoken}
use Rattle.ubi_detect.proofs.NewGroups.{any_key, any_map}
use Rattle.ubi_detect.proofs.OnePlain.{same_keys}
use Rattle.ubi_detect.proofs.PartHeads.{HoldsHeads, is_apart, moved_head, part_heads}
use Rattle.ubi_detect.proofs.SaidGroups.{same_itself}

-- places so many bytes further behind
abbrev places_moved : ℕ → List ℕ → List ℕ
places_moved at ps = map (λ p. at + p) ps

module _ (k : Key) where
  places_append : (xs ys : List Head) → places (xs ++ ys) k ≡ places xs k ++ places ys k
  places_append xs ys =
      ap (map (λ h. h.place)) (filter-append (λ h. is_of k h.key) xs ys)
      ∙ map-append (λ h. h.place) (filter (λ h. is_of k h.key) xs) (filter (λ h. is_of k h.key) ys)

  places_apart : (xs : List Head) → list_all (is_apart k) xs ≡ true → places xs k ≡ []
  places_apart [] all = refl
  places_apart (x ∷ xs) all =
      let both = and_parts _ _ all in
      let other = not-true _ (and_parts _ _ both.0).0 in
      ap (λ b. map (λ h. h.place) (cond b (x ∷ filter (λ h. is_of k h.key) xs) (filter (λ h. is_of k h.key) xs))) other
      ∙ places_apart xs both.1

  module _ (at : ℕ) where
    place_more : (x : Head) (xs ys : List Head) (b : Bool) → map (λ h. h.place) ys ≡ places_moved at (map (λ h. h.place) xs)
        → map (λ h. h.place) (cond b (moved_head at x ∷ ys) ys) ≡ places_moved at (map (λ h. h.place) (cond b (x ∷ xs) xs))
    place_more x xs ys true e = ap (λ ps. (at + x.place) ∷ ps) e
    place_more x xs ys false e = e

    places_behind : (xs : List Head) → places (map (moved_head at) xs) k ≡ places_moved at (places xs k)
    places_behind [] = refl
    places_behind (x ∷ xs) =
        place_more x (filter (λ h. is_of k h.key) xs) (filter (λ h. is_of k h.key) (map (moved_head at) xs)) (is_of k x.key)
        (places_behind xs)

    own_places : (heads own : List Head) → HoldsHeads k at heads own → places heads k ≡ places_moved at (places own k)
    own_places heads own holds =
        ap (λ hs. places hs k) holds.are ∙ places_append (holds.before ++ map (moved_head at) own) holds.behind
        ∙ ap (λ ps. places (holds.before ++ map (moved_head at) own) k ++ ps) (places_apart holds.behind holds.behind_apart)
        ∙ append-nil (places (holds.before ++ map (moved_head at) own) k)
        ∙ places_append holds.before (map (moved_head at) own)
        ∙ ap (λ ps. ps ++ places (map (moved_head at) own) k) (places_apart holds.before holds.before_apart)
        ∙ places_behind own

-- their first one, their last one and their spacing
module _ (at : ℕ) where
  first_moved : (ps : List ℕ) → 1 ≤ length ps → first_place (places_moved at ps) ≡ at + first_place ps
  first_moved [] some = absurd (omega (arith, some))
  first_moved (p ∷ ps) some = refl

  last_by : (p : ℕ) (ps : List ℕ) → unwrap_or (last_or (Some (at + p)) (places_moved at ps)) 0 ≡ at + unwrap_or (last_or (Some p) ps) 0
  last_by p [] = refl
  last_by p (q ∷ ps) = last_by q ps

  last_moved : (ps : List ℕ) → 1 ≤ length ps → last_place (places_moved at ps) ≡ at + last_place ps
  last_moved [] some = absurd (omega (arith, some))
  last_moved (p ∷ ps) some = last_by p ps

  distance_moved : (ps : List ℕ) (i d e : ℕ) → i < length ps
      → slice_index_or (places_moved at ps) i e - first_place (places_moved at ps) ≡ slice_index_or ps i d - first_place ps
  distance_moved ps i d e below =
      let one = get_or-map (λ p. at + p) ps i d e below in
      let two = first_moved ps (omega (arith, below)) in
      omega (arith, one, two)

  divides_behind : (r : ℕ) (ps : List ℕ) → Divides r ps → Divides r (places_moved at ps)
  divides_behind r ps all i e below =
      let n = length-map ps (λ (p : ℕ). at + p) in
      let inside : i < length ps = omega (arith, below, n) in
      let P : ℕ → Type 0 = λ x. r ∣ x in subst P (sym (distance_moved ps i 0 e inside)) (all i 0 inside)

  divides_before : (r : ℕ) (ps : List ℕ) → Divides r (places_moved at ps) → Divides r ps
  divides_before r ps all i d below =
      let n = length-map ps (λ (p : ℕ). at + p) in
      let P : ℕ → Type 0 = λ x. r ∣ x in subst P (distance_moved ps i d 0 below) (all i 0 (omega (arith, below, n)))

  spacing_moved : (ps : List ℕ) (q : ℕ) → IsSpacing ps q → IsSpacing (places_moved at ps) q
  spacing_moved ps q is = record {
    divides = divides_behind q ps is.divides;
    greatest = λ r all. is.greatest r (divides_before r ps all);
  }

-- equal keys are one key
one_key : (k l : Key) → IsTrue (same_key k l) → k ≡ l
one_key k l e =
    let both = and_parts _ _ e in
    let offsets = and_parts _ _ both.0 in
    same_keys k l (eqb-true _ _ offsets.0) (eqb-true _ _ offsets.1) (eqb-true _ _ both.1)

-- the first place of a key that is among some
pub first_of : (k : Key) (ks : List Key) → list_any (same_key k) ks ≡ true
    → (j : ℕ) × (j < length ks) × (k ≡ slice_index_or ks j no_key)
    × ((i : ℕ) → i < length ks → k ≡ slice_index_or ks i no_key → j ≤ i)
first_of k [] any = absurd (cc)
first_of k (x ∷ xs) any = first_by (λ found. first_of k xs found) (same_key k x) refl any
  where
    first_by : (list_any (same_key k) xs ≡ true
        → (j : ℕ) × (j < length xs) × (k ≡ slice_index_or xs j no_key)
        × ((i : ℕ) → i < length xs → k ≡ slice_index_or xs i no_key → j ≤ i))
        → (b : Bool) → same_key k x ≡ b → b || list_any (same_key k) xs ≡ true
        → (j : ℕ) × (j < length (x ∷ xs)) × (k ≡ slice_index_or (x ∷ xs) j no_key)
        × ((i : ℕ) → i < length (x ∷ xs) → k ≡ slice_index_or (x ∷ xs) i no_key → j ≤ i)
    first_by later true e found = (0, omega arith, one_key k x e, λ i below is. omega arith)
    first_by later false e found =
        let rest = later found in (
          suc rest.0,
          (let below = rest.1 in omega (arith, below)),
          rest.2,
          not_before rest.0 rest.3,
        )
      where
        not_before : (j : ℕ) → ((i : ℕ) → i < length xs → k ≡ slice_index_or xs i no_key → j ≤ i)
            → (i : ℕ) → i < length (x ∷ xs) → k ≡ slice_index_or (x ∷ xs) i no_key → suc j ≤ i
        not_before j least zero below is =
            let also : same_key k x ≡ true = ap (same_key k) (sym is) ∙ same_itself k in absurd (cc)
        not_before j least (suc i) below is = let l = least i (omega (arith, below)) is in omega (arith, l)

-- what holds of the keys of headers holds of each header, and the other way round
module _ (t : Key → Bool) where
  keys_if : (b : Bool) (ks : List Key) (l : Key) → list_all t ks ≡ true → t l ≡ true → list_all t (cond b ks (ks ++ l ∷ [])) ≡ true
  keys_if true ks l all one = all
  keys_if false ks l all one = list_all-append t ks (l ∷ []) ∙ and_from _ _ all (and_from _ _ one refl)

  pub keys_fold : (ks : List Key) (heads : List Head) → list_all t ks ≡ true → list_all (λ h. t h.key) heads ≡ true
      → list_all t (fold with_key ks (map (λ h. h.key) heads)) ≡ true
  keys_fold ks [] all each = all
  keys_fold ks (h ∷ heads) all each =
      let both = and_parts _ _ each in
      keys_fold (with_key ks h.key) heads (keys_if (list_any (same_key h.key) ks) ks h.key all both.0) both.1

  pub from_keys : (ks : List Key) (l : Key) → list_all t ks ≡ true → list_any (same_key l) ks ≡ true → t l ≡ true
  from_keys [] l all any = absurd (cc)
  from_keys (x ∷ xs) l all any = let both = and_parts _ _ all in from_by (λ found. from_keys xs l both.1 found) (same_key l x) refl both.0 any
    where
      from_by : (list_any (same_key l) xs ≡ true → t l ≡ true) → (b : Bool) → same_key l x ≡ b → t x ≡ true
          → b || list_any (same_key l) xs ≡ true → t l ≡ true
      from_by later true e here found = ap t (one_key l x e) ∙ here
      from_by later false e here found = later found

  each_head : (heads hs : List Head) → list_all t (keys_of heads) ≡ true
      → ((i : ℕ) → i < length hs → (d : Head) → list_any (λ h. same_key (slice_index_or hs i d).key h.key) heads ≡ true)
      → list_all (λ h. t h.key) hs ≡ true
  each_head heads [] all among = refl
  each_head heads (x ∷ xs) all among =
      and_from _ _ (from_keys (keys_of heads) x.key all (any_key x.key heads ∙ among 0 (omega arith) x))
      (each_head heads xs all (λ i below d. among (suc i) (omega (arith, below)) d))

  of_heads : (heads : List Head) → list_all t (keys_of heads) ≡ true → list_all (λ h. t h.key) heads ≡ true
  of_heads heads all =
      each_head heads heads all
      (λ i below d. list_any_at (λ h. same_key (slice_index_or heads i d).key h.key) heads i d below (same_itself (slice_index_or heads i d).key))

  -- it is the same of headers further behind
  of_moved : (at : ℕ) (heads : List Head) → list_all (λ h. t h.key) heads ≡ true
      → list_all (λ h. t h.key) (map (moved_head at) heads) ≡ true
  of_moved at [] all = refl
  of_moved at (h ∷ heads) all = let both = and_parts _ _ all in and_from _ _ both.0 (of_moved at heads both.1)

-- a header of another image gives the offsets of a key without a number none either
quiet_by : (b c a z m : Bool) → b ≡ c → z ≡ true → c && (a || z) ≡ false → not b || m ≡ true
quiet_by false c a z m e f h = refl
quiet_by true c a z m e f h = absurd (true≢false (sym (and_from c (a || z) (sym e) (or_right a z f)) ∙ h))

-- whether a key gives the offsets of another one no number
abbrev pub is_quiet : Key → Key → Bool
is_quiet k l = not (same_offsets k l) || (l.image_seq == 0)

module _ (k : Key) (unnumbered : (k.image_seq == 0) ≡ true) where
  quiet : (l : Key) → is_of l k ≡ false → is_quiet k l ≡ true
  quiet l other =
      quiet_by (same_offsets k l) (same_offsets l k) (k.image_seq == l.image_seq) (k.image_seq == 0) (l.image_seq == 0)
      (ap (λ b. b && (k.offsets.data_offset == l.offsets.data_offset)) (nat_eq_equiv.symm k.offsets.vid_offset l.offsets.vid_offset)
      ∙ ap (λ b. (l.offsets.vid_offset == k.offsets.vid_offset) && b) (nat_eq_equiv.symm k.offsets.data_offset l.offsets.data_offset))
      unnumbered other

  all_quiet : (hs : List Head) → list_all (is_apart k) hs ≡ true → list_all (λ h. is_quiet k h.key) hs ≡ true
  all_quiet [] all = refl
  all_quiet (h ∷ hs) all =
      let both = and_parts _ _ all in
      and_from _ _ (quiet h.key (not-true _ (and_parts _ _ both.0).1)) (all_quiet hs both.1)

module _ (at j : ℕ) (heads own : List Head) (g : Group) (holds : HoldsHeads g.key at heads own) (says : Says own j g) where
  -- the group of the same headers
  group_moved : IsGroup heads (moved at g)
  group_moved =
      let ps = places own g.key in
      let are = own_places g.key at heads own holds in
      let many = says.group.count in
      let two = says.two in
      let some : 1 ≤ length ps = omega (arith, many, two) in
      let P : List ℕ → Type 0 = λ qs. IsSpacing qs g.size in
      record {
        first = ap (λ n. at + n) says.group.first ∙ sym (first_moved at ps some) ∙ sym (ap first_place are);
        last = ap (λ n. at + n) says.group.last ∙ sym (last_moved at ps some) ∙ sym (ap last_place are);
        count = many ∙ sym (length-map ps (λ (p : ℕ). at + p)) ∙ sym (ap length are);
        size = subst P (sym are) (spacing_moved at ps g.size says.group.size);
      }

  -- it speaks for an image there too
  quiet_heads : (g.key.image_seq == 0) ≡ true → list_all (λ h. is_quiet g.key h.key) own ≡ true
      → list_all (λ h. is_quiet g.key h.key) heads ≡ true
  quiet_heads none all =
      let test = λ (h : Head). is_quiet g.key h.key in
      let moved_own = map (moved_head at) own in
      ap (list_all test) holds.are ∙ list_all-append test (holds.before ++ moved_own) holds.behind
      ∙ and_from _ _
      (list_all-append test holds.before moved_own
      ∙ and_from _ _ (all_quiet g.key none holds.before holds.before_apart) (of_moved (is_quiet g.key) at own all))
      (all_quiet g.key none holds.behind holds.behind_apart)

  speaks_by : (b : Bool) → (g.key.image_seq == 0) ≡ b → speaks (keys_of heads) g.key ≡ true
  speaks_by false e = ap (λ b. not b || list_all (is_quiet g.key) (keys_of heads)) e
  speaks_by true e =
      let all = sym (ap (λ b. not b || list_all (is_quiet g.key) (keys_of own)) e) ∙ says.speaks in
      ap (λ b. not b || list_all (is_quiet g.key) (keys_of heads)) e
      ∙ keys_fold (is_quiet g.key) [] heads refl (quiet_heads e (of_heads (is_quiet g.key) own all))

  -- and its key is among those of the file
  named : list_any (same_key g.key) (keys_of heads) ≡ true
  named =
      let test = λ (h : Head). same_key g.key h.key in
      let moved_own = map (moved_head at) own in
      let here : list_any test own ≡ true = sym (any_key g.key own)
      ∙ list_any_at (same_key g.key) (keys_of own) j no_key says.inside (ap (same_key g.key) (sym says.key) ∙ same_itself g.key) in
      any_key g.key heads ∙ ap (list_any test) holds.are ∙ list_any-append test (holds.before ++ moved_own) holds.behind
      ∙ or_left _ (list_any test holds.behind)
      (list_any-append test holds.before moved_own ∙ or_right (list_any test holds.before) _ (any_map test (moved_head at) own ∙ here))

  abbrev index : ℕ
  index = (first_of g.key (keys_of heads) named).0

  says_moved : Says heads index (moved at g)
  says_moved =
      let found = first_of g.key (keys_of heads) named in
      record {
        inside = found.1;
        key = found.2;
        group = group_moved;
        speaks = speaks_by (g.key.image_seq == 0) refl;
        two = says.two;
        from = says.from;
        to = says.to;
      }

  -- it is that of the image, if no other group speaks for as many bytes
  image_moved : ((i : ℕ) (f : Group) → Says heads i f → f.key ≢ g.key → spoken f < spoken g) → IsImage heads index (moved at g)
  image_moved most = record {
    says = says_moved;
    most = λ i f other. by_key i f other (same_key g.key f.key) refl;
  }
    where
      by_key : (i : ℕ) (f : Group) → Says heads i f → (b : Bool) → same_key g.key f.key ≡ b
          → (spoken f < spoken (moved at g)) ⊎ ((spoken f ≡ spoken (moved at g)) × (index ≤ i))
      by_key i f other true e =
          let same = one_key g.key f.key e in
          let found = first_of g.key (keys_of heads) named in
          inr (same_spoken heads f (moved at g) other.group group_moved (sym same), found.3 i other.inside (same ∙ other.key))
      by_key i f other false e =
          inl (most i f other (λ same. true≢false (sym (ap (same_key g.key) same ∙ same_itself g.key) ∙ e)))

pub part_of_file : PartOfFile
part_of_file file at part g part_is foremost =
    let lies = part_is.lies in
    let heads = part_heads file part at lies g.key foremost.none in
    record {
      none = foremost.plain;
      few = foremost.few;
      index = index at part_is.index (heads_of file) (heads_of part) g heads part_is.says;
      image = image_moved at part_is.index (heads_of file) (heads_of part) g heads part_is.says foremost.most;
      whole = (let i = lies.inside in let w = part_is.whole in omega (arith, i, w));
    }
