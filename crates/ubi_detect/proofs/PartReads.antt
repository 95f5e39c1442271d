-- What is read of a file where some bytes lie is what is read of these.
use Rattle.ubi_detect.proofs.Prelude.{◌≡◌, ℕ, ◌+◌, ◌-◌, ◌*◌, ◌/◌, ◌<◌, ◌≤◌, Bool, cond, List, [], ◌∷◌, length, slice_range, zero, suc, refl, ap, sym, ◌∙◌, arith, All, filter, fold, list_all, list_any, range_with_len, ◌==◌, ◌&&◌, ◌||◌, map, nat_le, nat_lt, mod-add-div', mul-le-mul_right, le-leb, nat_tests, All-head, All-tail, big_number, key_at, key_in, LiesAt, moved, count_starts, end_of_last, all_are, block_at, blocks, is_member, is_start, number_at, some_start, Group}
use Rattle.std.specs.List.{count_by}
use Rattle.ubi_detect.proofs.Surveyed.{inner_range}

-- two tests that agree on some numbers find the same among them
module _ (f h : ℕ → Bool) where
  any_agree : (a n : ℕ) → ((i : ℕ) → i < a + n → f i ≡ h i) → list_any f (range_with_len a n) ≡ list_any h (range_with_len a n)
  any_agree a zero agree = refl
  any_agree a (suc n) agree =
      ap (λ b. b || list_any f (range_with_len (a + 1) n)) (agree a (omega arith))
      ∙ ap (λ b. h a || b) (any_agree (a + 1) n (λ i below. agree i (omega (arith, below))))

  pub any_same : (n : ℕ) → ((i : ℕ) → i < n → f i ≡ h i) → list_any f (range_with_len 0 n) ≡ list_any h (range_with_len 0 n)
  any_same n agree = any_agree 0 n (λ i below. agree i (omega (arith, below)))

  all_agree : (a n : ℕ) → ((i : ℕ) → i < a + n → f i ≡ h i) → list_all f (range_with_len a n) ≡ list_all h (range_with_len a n)
  all_agree a zero agree = refl
  all_agree a (suc n) agree =
      ap (λ b. b && list_all f (range_with_len (a + 1) n)) (agree a (omega arith))
      ∙ ap (λ b. h a && b) (all_agree (a + 1) n (λ i below. agree i (omega (arith, below))))

  pub all_same : (n : ℕ) → ((i : ℕ) → i < n → f i ≡ h i) → list_all f (range_with_len 0 n) ≡ list_all h (range_with_len 0 n)
  all_same n agree = all_agree 0 n (λ i below. agree i (omega (arith, below)))

  count_agree : (c a n : ℕ) → ((i : ℕ) → i < a + n → f i ≡ h i)
      → fold (λ k x. k + cond (f x) 1 0) c (range_with_len a n) ≡ fold (λ k x. k + cond (h x) 1 0) c (range_with_len a n)
  count_agree c a zero agree = refl
  count_agree c a (suc n) agree =
      ap (λ b. fold (λ k x. k + cond (f x) 1 0) (c + cond b 1 0) (range_with_len (a + 1) n)) (agree a (omega arith))
      ∙ count_agree (c + cond (h a) 1 0) (a + 1) n (λ i below. agree i (omega (arith, below)))

  pub count_same : (n : ℕ) → ((i : ℕ) → i < n → f i ≡ h i) → count_by f (range_with_len 0 n) ≡ count_by h (range_with_len 0 n)
  count_same n agree = count_agree 0 0 n (λ i below. agree i (omega (arith, below)))

-- and so do two of which it is known of each element
module _ {X : Type 0} (P : X → Type 0) where
  pub any_each : (f h : X → Bool) → ((x : X) → P x → f x ≡ h x) → (xs : List X) → All P xs → list_any f xs ≡ list_any h xs
  any_each f h agree [] all = refl
  any_each f h agree (x ∷ xs) all =
      ap (λ b. b || list_any f xs) (agree x (All-head P x xs all))
      ∙ ap (λ b. h x || b) (any_each f h agree xs (All-tail P x xs all))

  pub filter_each : (f h : X → Bool) → ((x : X) → P x → f x ≡ h x) → (xs : List X) → All P xs → filter f xs ≡ filter h xs
  filter_each f h agree [] all = refl
  filter_each f h agree (x ∷ xs) all =
      ap (λ b. cond b (x ∷ filter f xs) (filter f xs)) (agree x (All-head P x xs all))
      ∙ ap (λ ys. cond (h x) (x ∷ ys) ys) (filter_each f h agree xs (All-tail P x xs all))

  pub map_each : (f h : X → ℕ) → ((x : X) → P x → f x ≡ h x) → (xs : List X) → All P xs → map f xs ≡ map h xs
  map_each f h agree [] all = refl
  map_each f h agree (x ∷ xs) all =
      ap (λ n. n ∷ map f xs) (agree x (All-head P x xs all)) ∙ ap (λ ns. h x ∷ ns) (map_each f h agree xs (All-tail P x xs all))

-- an order of places is that of places further behind
pub le_moved : (at a b : ℕ) → nat_le (at + a) (at + b) ≡ nat_le a b
le_moved at a b = grind (arith, nat_tests)

pub lt_moved : (at a b : ℕ) → nat_lt (at + a) (at + b) ≡ nat_lt a b
lt_moved at a b = grind (arith, nat_tests)

module _ (file part : List ℕ) (at : ℕ) (lies : LiesAt file at part) where
  both_there : (p n : ℕ) → p + n ≤ length part → nat_le (at + p + n) (length file) ≡ nat_le (p + n) (length part)
  both_there p n few =
      let i = lies.inside in
      le-leb (at + p + n) (length file) (omega (arith, few, i)) ∙ sym (le-leb (p + n) (length part) few)

  same_bytes : (p n : ℕ) → p + n ≤ length part → slice_range file (at + p) (at + p + n) ≡ slice_range part p (p + n)
  same_bytes p n few = inner_range file part at p n lies.bytes few

  pub same_all : (b n p : ℕ) → p + n ≤ length part → all_are b n file (at + p) ≡ all_are b n part p
  same_all b n p few =
      ap (λ c. c && list_all (λ x. x == b) (slice_range file (at + p) (at + p + n))) (both_there p n few)
      ∙ ap (λ xs. nat_le (p + n) (length part) && list_all (λ x. x == b) xs) (same_bytes p n few)

  pub same_number : (p : ℕ) → p + 4 ≤ length part → number_at file (at + p) ≡ number_at part p
  same_number p few =
      ap (λ c. cond c (big_number 4 (slice_range file (at + p) (at + p + 4))) 0) (both_there p 4 few)
      ∙ ap (λ xs. cond (nat_le (p + 4) (length part)) (big_number 4 xs) 0) (same_bytes p 4 few)

  module _ (g : Group) (unit : 64 ≤ g.size) (order : g.first ≤ g.last) (whole : end_of_last g ≤ length part) where
    pub same_start : (p : ℕ) → p + 64 ≤ length part → is_start file (moved at g) (at + p) ≡ is_start part g p
    same_start p few =
        ap (λ c. c && is_member g.key (key_at file (at + p))) (both_there p 64 few)
        ∙ ap (λ xs. nat_le (p + 64) (length part) && is_member g.key (key_in xs)) (same_bytes p 64 few)

    pub same_blocks : blocks (moved at g) ≡ blocks g
    same_blocks = let e : at + g.last - (at + g.first) ≡ g.last - g.first = omega arith in ap (λ n. n / g.size + 1) e

    block_inside : (i : ℕ) → i < blocks g → block_at g i + g.size ≤ length part
    block_inside i below =
        let e : i * g.size ≤ (g.last - g.first) / g.size * g.size = mul-le-mul_right g.size (omega (arith, below)) in
        let f = mod-add-div' (g.last - g.first) g.size in omega (arith, e, f, order, whole)

    module _ (t u : ℕ → Bool) (agree : (p : ℕ) → p + g.size ≤ length part → t (at + p) ≡ u p) where
      tests_agree : (i : ℕ) → i < blocks g
          → is_start file (moved at g) (block_at (moved at g) i) && t (block_at (moved at g) i) ≡ is_start part g (block_at g i) && u (block_at g i)
      tests_agree i below =
          let inside = block_inside i below in
          let place : block_at (moved at g) i ≡ at + block_at g i = omega arith in
          ap (λ p. is_start file (moved at g) p && t p) place
          ∙ ap (λ b. b && t (at + block_at g i)) (same_start (block_at g i) (omega (arith, inside, unit)))
          ∙ ap (λ b. is_start part g (block_at g i) && b) (agree (block_at g i) inside)

      -- one of the eraseblocks passes a test, or so many do
      pub same_some : some_start file (moved at g) t ≡ some_start part g u
      same_some =
          ap (λ n. list_any (λ i. is_start file (moved at g) (block_at (moved at g) i) && t (block_at (moved at g) i)) (range_with_len 0 n)) same_blocks
          ∙ any_same _ _ (blocks g) tests_agree

      pub same_count : count_starts file (moved at g) t ≡ count_starts part g u
      same_count =
          ap (λ n. count_by (λ i. is_start file (moved at g) (block_at (moved at g) i) && t (block_at (moved at g) i)) (range_with_len 0 n)) same_blocks
          ∙ count_same _ _ (blocks g) tests_agree
