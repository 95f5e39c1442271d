-- The groups of a plan by their places.
use Rattle.ubi_change.proofs.Prelude.{◌≡◌, ℕ, zero, suc, ◌+◌, ◌<◌, ◌≤◌, List, [], ◌∷◌, length, drop, get_or, refl, ap, ap₂, sym, ◌∙◌, arith, Some, slice_get, Sizes, Found, Holders, Site, Step, VidHeader, trimmed, copy_steps, groups_from, header_at, lay_steps, table_groups, lay_on, Laying, piece_bytes}

module _ (s : Sizes) (scan : Found) (contents pages : List ℕ) (old : Holders) where
  abbrev groups : ℕ → List Laying → List Site → List (List Step)
  groups = groups_from s scan contents pages old

  -- that of a piece
  pub lay_at : (k : ℕ) (ls : List Laying) (ts : List Site) (i : ℕ) (d : Laying) (t : Site) → i < length ls → length ls ≤ length ts
      → slice_get (groups k ls ts) i ≡ Some (lay_steps s scan contents (k + i) (get_or ls i d).piece (get_or ts i t))
  lay_at k [] ts i d t l m = absurd (omega arith)
  lay_at k (x ∷ ls) [] i d t l m = absurd (omega arith)
  lay_at k (x ∷ ls) (y ∷ ts) zero d t l m =
      let same : k ≡ k + 0 = omega arith in ap (λ n. Some (lay_steps s scan contents n x.piece y)) same
  lay_at k (x ∷ ls) (y ∷ ts) (suc i) d t l m =
      let same : k + 1 + i ≡ k + suc i = omega arith in
      lay_at (k + 1) ls ts i d t (omega arith) (omega arith)
      ∙ ap (λ n. Some (lay_steps s scan contents n (get_or ls i d).piece (get_or ts i t))) same

  pub group_laid : (ls : List Laying) (ts : List Site) (k : ℕ) (d : Laying) (t : Site) → k < length ls → length ls ≤ length ts
      → d ≡ get_or ls k d → t ≡ get_or ts k t → (header : VidHeader) (text : List ℕ) (steps : List Step)
      → header ≡ header_at s scan contents k d.piece → text ≡ trimmed s (piece_bytes s contents d.piece)
      → steps ≡ lay_on s scan t header text → slice_get (groups 0 ls ts) k ≡ Some steps
  group_laid ls ts k d t l m piece site header text steps head bytes is =
      let none : 0 + k ≡ k = omega arith in
      lay_at 0 ls ts k d t l m
      ∙ ap (λ n. Some (lay_steps s scan contents n (get_or ls k d).piece (get_or ts k t))) none
      ∙ ap₂ (λ (x : Laying) (y : Site). Some (lay_steps s scan contents k x.piece y)) (sym piece) (sym site)
      ∙ ap Some (sym (is ∙ ap₂ (lay_on s scan t) head bytes))

  -- those after the pieces
  behind : (k : ℕ) (ls : List Laying) (ts : List Site) (j : ℕ) → length ls ≤ length ts
      → slice_get (groups k ls ts) (length ls + j) ≡ slice_get (table_groups s scan pages old (k + length ls) (drop (length ls) ts)) j
  behind k [] ts j m =
      let same : k ≡ k + 0 = omega arith in
      let none : 0 + j ≡ j = omega arith in
      ap (slice_get (table_groups s scan pages old k ts)) none
      ∙ ap (λ n. slice_get (table_groups s scan pages old n ts) j) same
  behind k (x ∷ ls) [] j m = absurd (omega arith)
  behind k (x ∷ ls) (y ∷ ts) j m =
      let next : suc (length ls) + j ≡ suc (length ls + j) = omega arith in
      let same : k + 1 + length ls ≡ k + suc (length ls) = omega arith in
      ap (slice_get (groups k (x ∷ ls) (y ∷ ts))) next
      ∙ behind (k + 1) ls ts j (omega arith)
      ∙ ap (λ n. slice_get (table_groups s scan pages old n (drop (length ls) ts)) j) same

  two_left : (n : ℕ) (ts : List Site) (t u : Site) → n + 2 ≤ length ts
      → (rest : List Site) × (drop n ts ≡ get_or ts n t ∷ get_or ts (n + 1) u ∷ rest)
  two_left n [] t u m = absurd (omega arith)
  two_left zero (x ∷ []) t u m = absurd (omega arith)
  two_left zero (x ∷ y ∷ ts) t u m = (ts, refl)
  two_left (suc n) (x ∷ ts) t u m =
      let h = two_left n ts t u (omega arith) in
      let next : suc n + 1 ≡ suc (n + 1) = omega arith in
      (h.0, h.1 ∙ ap (λ i. get_or ts n t ∷ get_or (x ∷ ts) i u ∷ h.0) (sym next))

  -- and those of the copies
  pub first_at : (ls : List Laying) (ts : List Site) (t : Site) → length ls + 2 ≤ length ts
      → slice_get (groups 0 ls ts) (length ls) ≡ Some (copy_steps s scan pages 0 (length ls) (get_or ts (length ls) t) old.first)
  first_at ls ts t m =
      let h = two_left (length ls) ts t t m in
      let same : length ls ≡ length ls + 0 = omega arith in
      ap (slice_get (groups 0 ls ts)) same ∙ behind 0 ls ts 0 (omega (arith, m))
      ∙ ap (λ (xs : List Site). slice_get (table_groups s scan pages old (0 + length ls) xs) 0) h.1
      ∙ ap (λ n. Some (copy_steps s scan pages 0 n (get_or ts (length ls) t) old.first)) (omega arith)

  pub second_at : (ls : List Laying) (ts : List Site) (k : ℕ) (t : Site) → k ≡ length ls + 1 → length ls + 2 ≤ length ts
      → slice_get (groups 0 ls ts) k ≡ Some (copy_steps s scan pages 1 k (get_or ts k t) old.second)
  second_at ls ts k t is m =
      let h = two_left (length ls) ts t t m in
      ap (slice_get (groups 0 ls ts)) is ∙ behind 0 ls ts 1 (omega (arith, m))
      ∙ ap (λ (xs : List Site). slice_get (table_groups s scan pages old (0 + length ls) xs) 1) h.1
      ∙ ap (λ n. Some (copy_steps s scan pages 1 n (get_or ts (length ls + 1) t) old.second)) (let e : 0 + length ls + 1 ≡ length ls + 1 = omega arith in e)
      ∙ ap (λ n. Some (copy_steps s scan pages 1 n (get_or ts n t) old.second)) (sym is)
