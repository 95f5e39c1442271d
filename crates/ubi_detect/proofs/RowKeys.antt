-- What the headers of a file name that are those of one image: its key, or its offsets without a number.
use Rattle.ubi_detect.proofs.Prelude.{◌≡◌, ℕ, ◌+◌, ◌*◌, ◌/◌, ◌%◌, ◌<◌, ◌≤◌, ◌⊎◌, Bool, true, false, cond, List, [], ◌∷◌, ◌++◌, length, slice_range, zero, suc, inl, inr, refl, ap, sym, ◌∙◌, subst, arith, fold, list_all, list_any, ◌==◌, ◌||◌, IsTrue, None, Option, Some, map, not, option_map, option_to_list, length-append, and_from, and_parts, eq-eqb, eqb-true, or_left, or_right, same_Some, list_all-append, list_any-append, list_any_at, below_or_last, IsImage, Says, greatest_size, no_key, heads_of, heads_to, is_of, key_at, key_count, keys_of, most_keys, same_key, same_offsets, speaks, step, with_key, block_at, Group, Head, Key, head_in, unnumbered, AreHeadersOf}
use Rattle.ubi_detect.proofs.BestGroup.{same_spoken}
use Rattle.ubi_detect.proofs.JoinedKeys.{owns}
use Rattle.ubi_detect.proofs.NewGroups.{any_key}
use Rattle.ubi_detect.proofs.OnePlain.{same_keys}
use Rattle.ubi_detect.proofs.PartGroups.{first_of, from_keys, is_quiet, keys_fold}
use Rattle.ubi_detect.proofs.RowPlaces.{block_unit, block_whole, row_group, unit_size}
use Rattle.ubi_detect.proofs.SaidGroups.{same_itself}
use Rattle.ubi_detect.proofs.Surveyed.{heads_more, unit_inside}

-- what the headers of a file name, unit by unit
module _ (bytes : List ℕ) (t : Key → Bool) where
  abbrev test : Head → Bool
  test h = t h.key

  all_at : (n : ℕ) (o : Option Key) → ((l : Key) → o ≡ Some l → t l ≡ true)
      → list_all test (option_to_list (option_map (λ l. record { place = n * step; key = l }) o)) ≡ true
  all_at n None pass = refl
  all_at n (Some l) pass = and_from (t l) true (pass l refl) refl

  all_heads : (n : ℕ) → ((u : ℕ) (l : Key) → u < n → key_at bytes (u * step) ≡ Some l → t l ≡ true)
      → list_all test (heads_to bytes n) ≡ true
  all_heads zero pass = refl
  all_heads (suc n) pass =
      let e : suc n ≡ n + 1 = omega arith in
      ap (λ m. list_all test (heads_to bytes m)) e ∙ ap (list_all test) (heads_more bytes n)
      ∙ list_all-append test (heads_to bytes n) (head_in (n * step) (slice_range bytes (n * step) (n * step + 64)))
      ∙ and_from _ _ (all_heads n (λ u l below. pass u l (omega (arith, below))))
      (all_at n (key_at bytes (n * step)) (λ l here. pass n l (omega arith) here))

  any_at : (n : ℕ) (l : Key) → key_at bytes (n * step) ≡ Some l → t l ≡ true
      → list_any test (head_in (n * step) (slice_range bytes (n * step) (n * step + 64))) ≡ true
  any_at n l here pass =
      ap (λ o. list_any test (option_to_list (option_map (λ k. record { place = n * step; key = k }) o))) here
      ∙ or_left (t l) false pass

  any_heads : (n u : ℕ) (l : Key) → u < n → key_at bytes (u * step) ≡ Some l → t l ≡ true → list_any test (heads_to bytes n) ≡ true
  any_heads zero u l below here pass = absurd (omega (arith, below))
  any_heads (suc n) u l below here pass =
      let e : suc n ≡ n + 1 = omega arith in
      ap (λ m. list_any test (heads_to bytes m)) e ∙ ap (list_any test) (heads_more bytes n)
      ∙ list_any-append test (heads_to bytes n) (head_in (n * step) (slice_range bytes (n * step) (n * step + 64)))
      ∙ elim (below_or_last u n (omega (arith, below))) [
        | inl less ↦ or_left _ _ (any_heads n u l less here pass)
        | inr same ↦ or_right _ _ (any_at n l (ap (λ v. key_at bytes (v * step)) (sym same) ∙ here) pass)
      ]

-- headers that name one of two keys name two at most
abbrev gap : Key → List Key → ℕ
gap k ks = cond (list_any (same_key k) ks) 0 1

less_gap : (a b : Bool) → cond (a || b) 0 1 ≤ cond a 0 1
less_gap true b = omega arith
less_gap false true = omega arith
less_gap false false = omega arith

module _ (a b : Key) where
  gaps_by : (ks : List Key) (c : Bool) → list_any (same_key a) ks ≡ c
      → length (cond c ks (ks ++ a ∷ [])) + (gap a (cond c ks (ks ++ a ∷ [])) + gap b (cond c ks (ks ++ a ∷ [])))
      ≤ length ks + (gap a ks + gap b ks)
  gaps_by ks true e = omega arith
  gaps_by ks false e =
      let was : gap a ks ≡ 1 = ap (λ c. cond c 0 1) e in
      let is : gap a (ks ++ a ∷ []) ≡ 0 = ap (λ c. cond c 0 1)
      (list_any-append (same_key a) ks (a ∷ []) ∙ or_right _ _ (or_left (same_key a a) false (same_itself a))) in
      let other : gap b (ks ++ a ∷ []) ≡ cond (list_any (same_key b) ks || (same_key b a || false)) 0 1 =
      ap (λ c. cond c 0 1) (list_any-append (same_key b) ks (a ∷ [])) in
      let less = less_gap (list_any (same_key b) ks) (same_key b a || false) in
      let n = length-append ks (a ∷ []) in
      omega (arith, was, is, other, less, n)

  gaps_with : (ks : List Key) → length (with_key ks a) + (gap a (with_key ks a) + gap b (with_key ks a)) ≤ length ks + (gap a ks + gap b ks)
  gaps_with ks = gaps_by ks (list_any (same_key a) ks) refl

-- a header of a group names its key, or no number
key_or_none : (k l : Key) → IsTrue (is_of k l) → (k ≡ l) ⊎ (unnumbered k ≡ l)
key_or_none k l e =
    let o = owns k l e in
    elim o.seq [
      | inl same ↦ inl (same_keys k l o.vid o.content (sym same))
      | inr none ↦ inr (same_keys (unnumbered k) l o.vid o.content (sym none))
    ]

module _ (k : Key) where
  abbrev Few : List Key → List Key → Type 0
  Few more ks = length more + (gap k more + gap (unnumbered k) more) ≤ length ks + (gap k ks + gap (unnumbered k) ks)

  gaps_one : (ks : List Key) (l : Key) → IsTrue (is_of k l) → Few (with_key ks l) ks
  gaps_one ks l e =
      let P : Key → Type 0 = λ x. Few (with_key ks x) ks in
      elim (key_or_none k l e) [
        | inl same ↦ subst P same (gaps_with k (unnumbered k) ks)
        | inr none ↦ subst P none (let h = gaps_with (unnumbered k) k ks in omega (arith, h))
      ]

  few_by : (ks : List Key) (heads : List Head) → list_all (λ h. is_of k h.key) heads ≡ true
      → length (fold with_key ks (map (λ h. h.key) heads)) ≤ length ks + (gap k ks + gap (unnumbered k) ks)
  few_by ks [] all = omega arith
  few_by ks (h ∷ heads) all =
      let both = and_parts _ _ all in
      let one = gaps_one ks h.key both.0 in
      let rest = few_by (with_key ks h.key) heads both.1 in omega (arith, one, rest)

  few_of : (heads : List Head) → list_all (λ h. is_of k h.key) heads ≡ true → length (keys_of heads) ≤ 2
  few_of heads all = few_by [] heads all

module _ (bytes : List ℕ) (g : Group) (are : AreHeadersOf bytes g) (some : 1 ≤ g.size) (units : g.size % step ≡ 0) where
  abbrev heads : List Head
  heads = heads_of bytes

  each_owned : (u : ℕ) (l : Key) → u < length bytes / step → key_at bytes (u * step) ≡ Some l → IsTrue (is_of g.key l)
  each_owned u l below here =
      let found = are.only u l (unit_inside u (length bytes) below) here in
      let h = are.each found.0 found.1 in
      let P : Key → Type 0 = λ k. IsTrue (is_of g.key k) in
      subst P (same_Some h.0 l (sym h.1 ∙ ap (key_at bytes) (sym found.2) ∙ here)) h.2

  all_owned : list_all (λ h. is_of g.key h.key) heads ≡ true
  all_owned = all_heads bytes (is_of g.key) (length bytes / step) each_owned

  pub few_keys : key_count bytes ≤ most_keys
  few_keys = let f = few_of g.key heads all_owned in omega (arith, f)

  -- the key of the image is among those that are named
  has_key : list_any (same_key g.key) (keys_of heads) ≡ true
  has_key =
      let h = are.named in
      let u = block_unit bytes g are some units h.0 in
      let place : block_at g h.0 / step * step ≡ block_at g h.0 = omega (arith, u) in
      let w = block_whole bytes g are some units h.0 h.1 in
      let s = unit_size bytes g are some units in
      any_key g.key heads
      ∙ any_heads bytes (same_key g.key) (length bytes / step) (block_at g h.0 / step) g.key (omega (arith, w, s, place))
      (ap (key_at bytes) place ∙ h.2) (same_itself g.key)

  -- it speaks: if it has no number no header has one
  quiet : (g.key.image_seq == 0) ≡ true → (u : ℕ) (l : Key) → u < length bytes / step → key_at bytes (u * step) ≡ Some l
      → is_quiet g.key l ≡ true
  quiet none u l below here =
      let o = owns g.key l (each_owned u l below here) in
      or_right (not (same_offsets g.key l)) (l.image_seq == 0) (elim o.seq [
        | inl same ↦ ap (λ n. n == 0) same ∙ none
        | inr zero_number ↦ eq-eqb l.image_seq 0 zero_number
      ])

  speaks_by : (b : Bool) → (g.key.image_seq == 0) ≡ b → speaks (keys_of heads) g.key ≡ true
  speaks_by false e = ap (λ b. not b || list_all (is_quiet g.key) (keys_of heads)) e
  speaks_by true e =
      ap (λ b. not b || list_all (is_quiet g.key) (keys_of heads)) e
      ∙ keys_fold (is_quiet g.key) [] heads refl (all_heads bytes (is_quiet g.key) (length bytes / step) (quiet e))

  -- no other group says a size
  module _ (i : ℕ) (f : Group) (says : Says heads i f) where
    owned : IsTrue (is_of g.key f.key)
    owned =
        from_keys (is_of g.key) (keys_of heads) f.key (keys_fold (is_of g.key) [] heads refl all_owned)
        (list_any_at (same_key f.key) (keys_of heads) i no_key says.inside (ap (same_key f.key) (sym says.key) ∙ same_itself f.key))

    unnamed : f.key.image_seq ≡ 0 → g.key.image_seq ≡ 0
    unnamed none =
        let o = owns g.key f.key owned in
        let all : list_all (is_quiet f.key) (keys_of heads) ≡ true =
        sym (ap (λ b. not b || list_all (is_quiet f.key) (keys_of heads)) (eq-eqb f.key.image_seq 0 none)) ∙ says.speaks in
        let offsets : same_offsets f.key g.key ≡ true =
        and_from _ _ (eq-eqb f.key.offsets.vid_offset g.key.offsets.vid_offset (sym o.vid))
        (eq-eqb f.key.offsets.data_offset g.key.offsets.data_offset (sym o.content)) in
        eqb-true g.key.image_seq 0 (sym (ap (λ b. not b || (g.key.image_seq == 0)) offsets)
        ∙ from_keys (is_quiet f.key) (keys_of heads) g.key all has_key)

    said_key : f.key ≡ g.key
    said_key =
        let o = owns g.key f.key owned in
        same_keys f.key g.key (sym o.vid) (sym o.content) (elim o.seq [
          | inl same ↦ same
          | inr none ↦ none ∙ sym (unnamed none)
        ])

  module _ (most : g.size ≤ greatest_size) where
    pub row_index : ℕ
    row_index = (first_of g.key (keys_of heads) has_key).0

    pub row_says : Says (heads_of bytes) row_index g
    unfolding row_index
    row_says =
        let found = first_of g.key (keys_of heads) has_key in
        record {
          inside = found.1;
          key = found.2;
          group = row_group bytes g are some units;
          speaks = speaks_by (g.key.image_seq == 0) refl;
          two = are.two;
          from = some;
          to = most;
        }

    pub row_image : IsImage (heads_of bytes) row_index g
    unfolding row_index
    row_image = record {
      says = row_says;
      most = λ i f other.
          let found = first_of g.key (keys_of heads) has_key in
          let same = said_key i f other in
          inr (same_spoken heads f g other.group row_says.group same, found.3 i other.inside (sym same ∙ other.key));
    }
