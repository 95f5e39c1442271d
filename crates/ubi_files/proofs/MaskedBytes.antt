-- Bytes in which those of marked eraseblocks read 0xFF.
use Rattle.ubi_files.proofs.Prelude.{◌≡◌, ◌∙◌, ℕ, zero, suc, ◌+◌, ◌-◌, ◌*◌, ◌/◌, ◌%◌, ◌<◌, ◌≤◌, ◌&&◌, ◌||◌, ◌⊎◌, ◌==◌, Bool, List, [], ◌∷◌, ◌++◌, ap, arith, cond, drop, false, get_or, inl, inr, length, map, min, nat_le, nat_lt, refl, replicate, subst, sym, take, true, div-lt_iff_lt-mul, enumerate_from, ReadsAtMost, ForSome, Err, IfOk, None, Ok, Option, Result, if◌then◌else◌, option_map, cases_lt, nat_tests, div-mul-add, get_or-drop, get_or-replicate, get_or-take, length-append, length-drop, length-replicate, length-take, length-take-le, same_lists, take-append-le, take_all, is_listed, StandsAt, masked, Some}
use Rattle.ubi_files.proofs.PlaceByPlace.{get_or-filled, get_or-placed, length-placed}

pub length-masked : (size : ℕ) (marks : List Bool) (bytes : List ℕ) → length (masked size marks bytes) ≡ length bytes
length-masked size marks bytes = length-placed (λ i b. if is_listed marks (i / size) then 0xFF else b) 0 bytes

pub get_or-masked : (size : ℕ) (marks : List Bool) (bytes : List ℕ) (k d : ℕ) → k < length bytes
    → get_or (masked size marks bytes) k d ≡ cond (is_listed marks (k / size)) 0xFF (get_or bytes k d)
get_or-masked size marks bytes k d l =
    get_or-placed (λ i b. if is_listed marks (i / size) then 0xFF else b) 0 bytes k d d l
    ∙ ap (λ i. cond (is_listed marks (i / size)) 0xFF (get_or bytes k d)) (omega arith)

-- no marks mask nothing
pub masked_none : (size : ℕ) (bytes : List ℕ) → masked size [] bytes ≡ bytes
masked_none size bytes = same_lists (masked size [] bytes) bytes (length-masked size [] bytes)
    (λ k d l. get_or-masked size [] bytes k d (let n = length-masked size [] bytes in omega arith))

-- the eraseblock of a place
pub block_of_place : (size at i : ℕ) → 0 < size → at % size + i < size → (at + i) / size ≡ at / size
block_of_place size at i some small =
    ap (λ x. x / size) (let e : at + i ≡ at / size * size + (at % size + i) = omega (arith, split at size some) in e)
    ∙ div-mul-add (at / size) size (at % size + i) small
  where
    split : (n m : ℕ) → 0 < m → n / m * m + n % m ≡ n
    split n m some = omega arith

-- ---- at a place of one eraseblock
module _ (size : ℕ) (marks : List Bool) (all : List ℕ) (at : ℕ) (some : 0 < size) where
  in_block : (n i : ℕ) → n ≤ size - at % size → i < n → (at + i) / size ≡ at / size
  in_block n i few l = block_of_place size at i some (omega arith)

  -- what stands there in an eraseblock that isn't marked is read as it is
  pub stands_unmarked : (bytes : List ℕ) → length bytes ≤ size - at % size → is_listed marks (at / size) ≡ false
      → bytes ≡ take (length bytes) (drop at all) → bytes ≡ take (length bytes) (drop at (masked size marks all))
  stands_unmarked bytes few unmarked stands =
      stands ∙ same_lists (take n (drop at all)) (take n (drop at (masked size marks all)))
      (length-take n (drop at all) ∙ ap (min n) (length-drop at all ∙ ap (λ x. x - at) (sym (length-masked size marks all)) ∙ sym (length-drop at (masked size marks all)))
      ∙ sym (length-take n (drop at (masked size marks all))))
      (λ i d l.
      let size_of = length-take n (drop at all) in
      let rest = length-drop at all in
      let below : i < n = omega (arith, size_of) in
      let inside : at + i < length all = omega (arith, size_of, rest) in
      get_or-take n (drop at all) i d below ∙ get_or-drop at all i d
      ∙ ap (λ b. cond b 0xFF (get_or all (at + i) d)) (sym (ap (is_listed marks) (in_block n i few below) ∙ unmarked))
      ∙ sym (get_or-masked size marks all (at + i) d inside)
      ∙ sym (get_or-drop at (masked size marks all) i d) ∙ sym (get_or-take n (drop at (masked size marks all)) i d below))
    where
      n : ℕ
      n = length bytes

  -- and in one that is marked all is 0xFF
  pub stands_marked : (n : ℕ) → n ≤ size - at % size → n ≤ length all - at → is_listed marks (at / size) ≡ true
      → replicate n 0xFF ≡ take n (drop at (masked size marks all))
  stands_marked n few room marked =
      let full : List ℕ = replicate n 0xFF in
      let long : length full ≡ n = length-replicate n 0xFF in
      let whole = length-masked size marks all in
      let rest = length-drop at (masked size marks all) in
      same_lists full (take n (drop at (masked size marks all)))
      (long ∙ sym (length-take-le n (drop at (masked size marks all)) (omega (arith, whole, rest, room))))
      (λ (i d : ℕ) (l : i < length full).
      let below : i < n = omega (arith, long, l) in
      let inside : at + i < length all = omega (arith, below, room) in
      get_or-replicate n i 0xFF d below
      ∙ ap (λ b. cond b 0xFF (get_or all (at + i) d)) (sym (ap (is_listed marks) (in_block n i few below) ∙ marked))
      ∙ sym (get_or-masked size marks all (at + i) d inside)
      ∙ sym (get_or-drop at (masked size marks all) i d) ∙ sym (get_or-take n (drop at (masked size marks all)) i d below))

-- ---- eraseblock by eraseblock

-- of the first marks, and of one more
listed_next : (marks : List Bool) (p q : ℕ) → p < length marks
    → is_listed (take (suc p) marks) q ≡ (is_listed (take p marks) q || (q == p && get_or marks p false))
listed_next [] p q l = absurd (omega arith)
listed_next (m ∷ marks) zero zero l = refl
listed_next (m ∷ marks) zero (suc q) l =
    let no : (suc q == 0) ≡ false = grind (arith, nat_tests) in ap (λ b. b && m) (sym no)
listed_next (m ∷ marks) (suc p) zero l =
    let no : (0 == suc p) ≡ false = grind (arith, nat_tests) in
    or_false m ∙ ap (λ b. m || (b && get_or marks p false)) (sym no)
  where
    or_false : (b : Bool) → b ≡ (b || false)
    or_false true = refl
    or_false false = refl
listed_next (m ∷ marks) (suc p) (suc q) l =
    let same : (suc q == suc p) ≡ (q == p) = grind (arith, nat_tests) in
    listed_next marks p q (omega arith) ∙ ap (λ b. is_listed (take p marks) q || (b && get_or marks p false)) (sym same)

listed_more : (marks : List Bool) (p q : ℕ) → p < length marks
    → is_listed (take (p + 1) marks) q ≡ (is_listed (take p marks) q || (q == p && get_or marks p false))
listed_more marks p q l =
    let next : p + 1 ≡ suc p = omega arith in ap (λ n. is_listed (take n marks) q) next ∙ listed_next marks p q l

-- bytes of which the first eraseblocks are masked: the next one
module _ (size : ℕ) (some : 0 < size) (marks : List Bool) (p : ℕ) (inside : p < length marks) (bytes now : List ℕ)
    (are : now ≡ masked size (take p marks) bytes) where
  same_length : length now ≡ length bytes
  same_length = ap length are ∙ length-masked size (take p marks) bytes

  -- a place lies in it
  in_it : (k : ℕ) → (p * size ≤ k) × (k < p * size + size) → k / size ≡ p
  in_it k l =
      let e : k ≡ p * size + (k - p * size) = omega (arith, l.0) in
      ap (λ x. x / size) e ∙ div-mul-add p size (k - p * size) (omega (arith, l.0, l.1))

  -- or not
  out_of_it : (k : ℕ) → (k < p * size) ⊎ (p * size + size ≤ k) → (k / size == p) ≡ false
  out_of_it k (inl below) =
      let low : k / size < p = (div-lt_iff_lt-mul some).1 below in grind (arith, nat_tests)
  out_of_it k (inr above) = by_less (cases_lt (k / size) (p + 1))
    where
      by_less : (k / size < p + 1) ⊎ (p + 1 ≤ k / size) → (k / size == p) ≡ false
      by_less (inl less) =
          let low : k < (p + 1) * size = (div-lt_iff_lt-mul some).0 less in
          let e : (p + 1) * size ≡ p * size + size = omega arith in
          absurd (omega (arith, low, e, above))
      by_less (inr more) = grind (arith, nat_tests)

  -- where it isn't marked nothing changes
  pub not_masked : get_or marks p false ≡ false → now ≡ masked size (take (p + 1) marks) bytes
  not_masked unmarked = same_lists now (masked size (take (p + 1) marks) bytes)
      (same_length ∙ sym (length-masked size (take (p + 1) marks) bytes))
      (λ k d l.
      let here : k < length bytes = omega (arith, same_length, l) in
      ap (λ xs. get_or xs k d) are ∙ get_or-masked size (take p marks) bytes k d here
      ∙ ap (λ b. cond b 0xFF (get_or bytes k d)) (sym (listed_more marks p (k / size) inside ∙ no_more (is_listed (take p marks) (k / size)) (k / size == p) (get_or marks p false) unmarked))
      ∙ sym (get_or-masked size (take (p + 1) marks) bytes k d here))
    where
      no_more : (a b c : Bool) → c ≡ false → (a || (b && c)) ≡ a
      no_more true b c e = refl
      no_more false true c e = e
      no_more false false c e = refl

  -- where it is, its bytes become 0xFF, as far as there are some
  pub now_masked : (start end : ℕ) (filled : List ℕ) → get_or marks p false ≡ true → start ≡ min (p * size) (length bytes)
      → end ≡ min (start + size) (length bytes) → filled ≡ replicate (end - start) 0xFF
      → take start now ++ (filled ++ drop (end - start) (drop start now)) ≡ masked size (take (p + 1) marks) bytes
  now_masked start end filled marked begins ends full =
      let long = ap length full ∙ length-replicate (end - start) 0xFF in
      let same = same_length in
      let front = length-take-le start now (omega (arith, same)) in
      same_lists (take start now ++ (filled ++ drop (end - start) (drop start now))) (masked size (take (p + 1) marks) bytes)
      (simp (length-append, length-drop, length-masked) (omega (arith, long, front, same)))
      (λ k d l.
      let inside_it : k < length now = omega (arith, simp (length-append, length-drop) at l, long, front, same) in
      let here : k < length bytes = omega (arith, same, inside_it) in
      get_or-filled 0xFF start (end - start) now filled (omega (arith, same)) full k d inside_it
      ∙ ap (λ x. cond (nat_le start k && nat_lt k (start + (end - start))) 0xFF x) (ap (λ xs. get_or xs k d) are ∙ get_or-masked size (take p marks) bytes k d here)
      ∙ by_place k (get_or bytes k d) here (cases_lt k (p * size)) (cases_lt k (p * size + size))
      ∙ sym (get_or-masked size (take (p + 1) marks) bytes k d here))
    where
      before : ℕ → Bool
      before k = is_listed (take p marks) (k / size)

      or_true : (b : Bool) → (b || true) ≡ true
      or_true true = refl
      or_true false = refl

      or_false : (b : Bool) → (b || false) ≡ b
      or_false true = refl
      or_false false = refl

      -- of a place in it, and of one that isn't
      listed_in : (k : ℕ) → k / size ≡ p → is_listed (take (p + 1) marks) (k / size) ≡ true
      listed_in k at =
          let yes_it : (k / size == p) ≡ true = grind (arith, nat_tests) in
          listed_more marks p (k / size) inside
          ∙ ap (λ b. is_listed (take p marks) (k / size) || (b && get_or marks p false)) yes_it
          ∙ ap (λ b. is_listed (take p marks) (k / size) || (true && b)) marked
          ∙ or_true (is_listed (take p marks) (k / size))

      listed_out : (k : ℕ) → (k / size == p) ≡ false → is_listed (take (p + 1) marks) (k / size) ≡ is_listed (take p marks) (k / size)
      listed_out k out =
          listed_more marks p (k / size) inside
          ∙ ap (λ b. is_listed (take p marks) (k / size) || (b && get_or marks p false)) out
          ∙ or_false (is_listed (take p marks) (k / size))

      by_place : (k v : ℕ) → k < length bytes → (k < p * size) ⊎ (p * size ≤ k) → (k < p * size + size) ⊎ (p * size + size ≤ k)
          → cond (nat_le start k && nat_lt k (start + (end - start))) 0xFF (cond (is_listed (take p marks) (k / size)) 0xFF v)
          ≡ cond (is_listed (take (p + 1) marks) (k / size)) 0xFF v
      by_place k v here (inr from) (inl below) =
          let yes_it : (nat_le start k && nat_lt k (start + (end - start))) ≡ true = grind (arith, nat_tests) in
          ap (λ b. cond b 0xFF (cond (is_listed (take p marks) (k / size)) 0xFF v)) yes_it
          ∙ ap (λ b. cond b 0xFF v) (sym (listed_in k (in_it k (from, below))))
      by_place k v here (inl below) h =
          let no_it : (nat_le start k && nat_lt k (start + (end - start))) ≡ false = grind (arith, nat_tests) in
          ap (λ b. cond b 0xFF (cond (is_listed (take p marks) (k / size)) 0xFF v)) no_it
          ∙ ap (λ b. cond b 0xFF v) (sym (listed_out k (out_of_it k (inl below))))
      by_place k v here (inr from) (inr behind) =
          let no_it : (nat_le start k && nat_lt k (start + (end - start))) ≡ false = grind (arith, nat_tests) in
          ap (λ b. cond b 0xFF (cond (is_listed (take p marks) (k / size)) 0xFF v)) no_it
          ∙ ap (λ b. cond b 0xFF v) (sym (listed_out k (out_of_it k (inr behind))))

-- the first bytes of a file, masked
pub masked-take : (size : ℕ) (marks : List Bool) (n : ℕ) (bytes : List ℕ) → masked size marks (take n bytes) ≡ take n (masked size marks bytes)
masked-take size marks n bytes = from 0 n bytes
  where
    from : (i n : ℕ) (xs : List ℕ) → map (λ (e : ℕ × ℕ). if is_listed marks (e.0 / size) then 0xFF else e.1) (enumerate_from i (take n xs))
        ≡ take n (map (λ (e : ℕ × ℕ). if is_listed marks (e.0 / size) then 0xFF else e.1) (enumerate_from i xs))
    from i zero xs = refl
    from i (suc n) [] = refl
    from i (suc n) (x ∷ xs) = ap (λ ys. cond (is_listed marks (i / size)) 0xFF x ∷ ys) (from (i + 1) n xs)

-- ---- what is read of a file, as it is seen

pub for_mapped : {X Y : Type 0} (f : X → Y) (P : Y → Type 0) (o : Option X) → ForSome o (λ x. P (f x)) → ForSome (option_map f o) P
for_mapped f P None h y is = absurd cc
for_mapped f P (Some x) h y is = let same : f x ≡ y = cc in subst P same (h x refl)

module _ (size : ℕ) (some : 0 < size) (marks : List Bool) (held : Option (List ℕ)) (at : ℕ) where
  -- without marks, what is answered stands there
  pub read_without_marks : {E : Type 0} (r : Result ℕ E) (out : List ℕ) → (length marks == 0) ≡ true
      → IfOk r (λ n. ForSome held (λ all. StandsAt all at (take n out)))
      → IfOk r (λ n. ForSome (option_map (masked size marks) held) (λ all. StandsAt all at (take n out)))
  read_without_marks (Err e) out none h = tt
  read_without_marks (Ok n) out none h =
      for_mapped (masked size marks) (λ all. StandsAt all at (take n out)) held
      (λ all is. h all is ∙ ap (λ bytes. take (length (take n out)) (drop at bytes)) (sym (unmarked marks none all)))
    where
      unmarked : (marks : List Bool) → (length marks == 0) ≡ true → (all : List ℕ) → masked size marks all ≡ all
      unmarked [] none all = masked_none size all
      unmarked (m ∷ marks) none all = let some : (length (m ∷ marks) == 0) ≡ false = grind (arith, nat_tests) in absurd (cc)

  -- within an eraseblock that isn't marked too
  pub read_unmarked : {E : Type 0} (r : Result ℕ E) (out rest : List ℕ) → length out ≤ size - at % size
      → is_listed marks (at / size) ≡ false → ReadsAtMost r out
      → IfOk r (λ n. ForSome held (λ all. StandsAt all at (take n out)))
      → IfOk r (λ n. ForSome (option_map (masked size marks) held) (λ all. StandsAt all at (take n (out ++ rest))))
  read_unmarked (Err e) out rest few none bound h = tt
  read_unmarked (Ok n) out rest few none bound h =
      for_mapped (masked size marks) (λ all. StandsAt all at (take n (out ++ rest))) held
      (λ all is.
      let long = length-take-le n out bound.0 in
      subst (λ bytes. StandsAt (masked size marks all) at bytes) (sym (take-append-le n out rest bound.0))
      (stands_unmarked size marks all at some (take n out) (omega (arith, long, few, bound.0)) none (h all is)))

  -- and in one that is marked what is answered is 0xFF
  pub read_marked : (n : ℕ) (filled rest : List ℕ) → n ≤ size - at % size → is_listed marks (at / size) ≡ true
      → ForSome held (λ all. n ≤ length all - at) → filled ≡ replicate n 0xFF
      → ForSome (option_map (masked size marks) held) (λ all. StandsAt all at (take n (filled ++ rest)))
  read_marked n filled rest few marked room full =
      for_mapped (masked size marks) (λ all. StandsAt all at (take n (filled ++ rest))) held
      (λ all is.
      let long = length-replicate n 0xFF in
      subst (λ bytes. StandsAt (masked size marks all) at bytes)
      (sym (ap (λ ys. take n (ys ++ rest)) full ∙ take-append-le n (replicate n 0xFF) rest (omega (arith, long)) ∙ take_all n (replicate n 0xFF) (omega (arith, long))))
      (stands_marked size marks all at some n few (room all is) marked
      ∙ ap (λ m. take m (drop at (masked size marks all))) (sym long)))
