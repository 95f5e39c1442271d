-- The headers of a file in which some bytes lie: those before them, their own, and those after them.
use Rattle.ubi_detect.proofs.Prelude.{◌≡◌, ℕ, ◌+◌, ◌-◌, ◌*◌, ◌/◌, ◌<◌, ◌≤◌, ◌⊎◌, Bool, true, List, [], ◌++◌, length, slice_range, zero, suc, inl, inr, refl, ap, sym, ◌∙◌, arith, list_all, option_to_list, ◌&&◌, None, Option, Some, map, not, option_map, mod-add-div', and_from, not_from_false, append-nil, map-append, list_all-append, heads_of, heads_to, is_of, key_at, key_in, step, LiesAt, NoneOutside, Head, Key, head_in, append_assoc}
use Rattle.ubi_detect.proofs.Surveyed.{heads_more, inner_range}

-- whether a header is of another image than one that names k
abbrev pub is_apart : Key → Head → Bool
is_apart k h = not (is_of k h.key) && not (is_of h.key k)

-- a header so many bytes further behind
abbrev pub moved_head : ℕ → Head → Head
moved_head at h = record h { place = at + h.place }

-- headers are those of another list, so many bytes further behind, and others before and behind them
pub record HoldsHeads (k : Key) (at : ℕ) (heads own : List Head) : Type 0 where
  pub before : List Head
  pub behind : List Head
  pub are : heads ≡ before ++ map (moved_head at) own ++ behind
  pub before_apart : list_all (is_apart k) before ≡ true
  pub behind_apart : list_all (is_apart k) behind ≡ true

-- the header in some bytes, so many bytes further behind
moved_by : (at place : ℕ) (o : Option Key)
    → option_to_list (option_map (λ l. record { place = at + place; key = l }) o)
    ≡ map (moved_head at) (option_to_list (option_map (λ l. record { place = place; key = l }) o))
moved_by at place None = refl
moved_by at place (Some l) = refl

module _ (file part : List ℕ) (at : ℕ) (lies : LiesAt file at part) where
  -- the unit where they begin
  abbrev first : ℕ
  first = at / step

  begins : first * step ≡ at
  begins = let e = mod-add-div' at step in let f = lies.unit in omega (arith, e, f)

  -- their first units hold their own headers
  own_to : (m : ℕ) → m * step ≤ length part → heads_to file (first + m) ≡ heads_to file first ++ map (moved_head at) (heads_to part m)
  own_to zero few = let e : first + 0 ≡ first = omega arith in ap (heads_to file) e ∙ sym (append-nil (heads_to file first))
  own_to (suc m) few =
      let next : first + suc m ≡ first + m + 1 = omega arith in
      let also : m + 1 ≡ suc m = omega arith in
      let b = begins in
      let place : (first + m) * step ≡ at + m * step = omega (arith, b) in
      let read = slice_range part (m * step) (m * step + 64) in
      ap (heads_to file) next ∙ heads_more file (first + m)
      ∙ ap (λ hs. hs ++ head_in ((first + m) * step) (slice_range file ((first + m) * step) ((first + m) * step + 64)))
      (own_to m (omega (arith, few)))
      ∙ ap (λ p. (heads_to file first ++ map (moved_head at) (heads_to part m)) ++ head_in p (slice_range file p (p + 64))) place
      ∙ ap (λ xs. (heads_to file first ++ map (moved_head at) (heads_to part m)) ++ head_in (at + m * step) xs)
      (inner_range file part at (m * step) 64 lies.bytes (omega (arith, few)))
      ∙ ap (λ hs. (heads_to file first ++ map (moved_head at) (heads_to part m)) ++ hs) (moved_by at (m * step) (key_in read))
      ∙ append_assoc (heads_to file first) (map (moved_head at) (heads_to part m)) (map (moved_head at) (head_in (m * step) read))
      ∙ ap (λ hs. heads_to file first ++ hs)
      (sym (map-append (moved_head at) (heads_to part m) (head_in (m * step) read))
      ∙ ap (map (moved_head at)) (sym (heads_more part m) ∙ ap (heads_to part) also))

  module _ (k : Key) (none : NoneOutside file at (length part) k) where
    -- a unit that isn't wholly in these bytes
    abbrev IsOutside : ℕ → Type 0
    IsOutside u = (u * step + step ≤ length file) × ((u * step < at) ⊎ (at + length part < u * step + step))

    apart_by : (u : ℕ) (o : Option Key) → key_at file (u * step) ≡ o → IsOutside u
        → list_all (is_apart k) (option_to_list (option_map (λ l. record { place = u * step; key = l }) o)) ≡ true
    apart_by u None e out = refl
    apart_by u (Some l) e out =
        let both = none u l out.0 e out.1 in
        and_from _ _ (and_from _ _ (not_from_false _ both.0) (not_from_false _ both.1)) refl

    -- the headers in units outside
    apart_to : (n j : ℕ) → ((u : ℕ) → n ≤ u → u < n + j → IsOutside u)
        → (hs : List Head) × (heads_to file (n + j) ≡ heads_to file n ++ hs) × (list_all (is_apart k) hs ≡ true)
    apart_to n zero out = let e : n + 0 ≡ n = omega arith in ([], ap (heads_to file) e ∙ sym (append-nil (heads_to file n)), refl)
    apart_to n (suc j) out =
        let next : n + suc j ≡ n + j + 1 = omega arith in
        let rest = apart_to n j (λ u low high. out u low (omega (arith, high))) in
        let new = head_in ((n + j) * step) (slice_range file ((n + j) * step) ((n + j) * step + 64)) in
        let here = apart_by (n + j) (key_at file ((n + j) * step)) refl (out (n + j) (omega arith) (omega arith)) in (
          rest.0 ++ new,
          ap (heads_to file) next ∙ heads_more file (n + j) ∙ ap (λ hs. hs ++ new) rest.1 ∙ append_assoc (heads_to file n) rest.0 new,
          list_all-append (is_apart k) rest.0 new ∙ and_from _ _ rest.2 here,
        )

    pub part_heads : HoldsHeads k at (heads_of file) (heads_of part)
    part_heads =
        let b = begins in
        let i = lies.inside in
        let n = mod-add-div' (length part) step in
        let all = mod-add-div' (length file) step in
        let own = own_to (length part / step) (omega arith) in
        let front = apart_to 0 first (λ u low high. (omega (arith, high, b, i), inl (omega (arith, high, b)))) in
        let whole : first + length part / step + (length file / step - (first + length part / step)) ≡ length file / step =
        omega (arith, b, i) in
        let back = apart_to (first + length part / step) (length file / step - (first + length part / step))
        (λ u low high. (omega (arith, high, whole), inr (omega (arith, low, b)))) in
        let start : 0 + first ≡ first = omega arith in
        record {
          before = front.0;
          behind = back.0;
          are = ap (heads_to file) (sym whole) ∙ back.1 ∙ ap (λ hs. hs ++ back.0) own
              ∙ ap (λ hs. hs ++ map (moved_head at) (heads_of part) ++ back.0) (ap (heads_to file) (sym start) ∙ front.1);
          before_apart = front.2;
          behind_apart = back.2;
        }
