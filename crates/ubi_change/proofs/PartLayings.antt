-- The volumes that edits write are laid out piece by piece.
use Rattle.ubi_change.proofs.Prelude.{◌≡◌, ℕ, ◌+◌, ◌<◌, ◌≤◌, Bool, true, false, List, [], ◌∷◌, ◌++◌, length, map, refl, ap, ap₂, sym, ◌∙◌, None, Some, AllByRecursion, filter_map, flat_map, range_with_len, empty, nat_cmp, nat_cmp_total, Sizes, Volume, rec_fault, laid_blocks, NewVolume, Part, Laid, part_in, parts_of, placed, cons_option, Less, map-append, sorted_entries, by_order, put, nat_cmp_is, if◌then◌else◌, part_laid, Rises, pieces_of, built_piece, is_left_out, kept_piece, kept_pieces, laid_piece, piece_text, Piece, volume_of, all_layings, laying_of, laying_with, layings_of, Laying}
use Rattle.std.specs.FinMap as finite

entries-empty : finite.entries (empty {K = ℕ} {X = Volume} {R = nat_cmp}) ≡ []
entries-empty = sorted_entries {X = Volume} [] refl

module _ (s : Sizes) (contents : List ℕ) where
  -- the eraseblock of a LEB that is written
  abbrev pub laid_as : Laying → Laid
  laid_as l = laid_piece s contents l.piece

  -- those of a part are those of its pieces that are kept
  pieces_laid : (f : ℕ → Piece) (xs : List ℕ)
      → map laid_as (filter_map (λ x. laying_of s contents (f x)) xs) ≡ map (laid_piece s contents) (flat_map (λ x. kept_piece s contents (f x)) xs)
  pieces_laid f [] = refl
  pieces_laid f (x ∷ xs) = by (is_left_out (f x).header.kind (piece_text s (f x).origin (f x).len contents)) (pieces_laid f xs)
    where
      by : (b : Bool) → map laid_as (filter_map (λ y. laying_of s contents (f y)) xs) ≡ map (laid_piece s contents) (flat_map (λ y. kept_piece s contents (f y)) xs)
          → map laid_as (cons_option (if b then None else Some (laying_with s contents (f x))) (filter_map (λ y. laying_of s contents (f y)) xs))
          ≡ map (laid_piece s contents) ((if b then [] else f x ∷ []) ++ flat_map (λ y. kept_piece s contents (f y)) xs)
      by true rest = rest
      by false rest = ap (λ ys. laid_piece s contents (f x) ∷ ys) rest

  part_layings : (p : Part) → map laid_as (layings_of s contents p) ≡ map (laid_piece s contents) (kept_pieces s contents p)
  part_layings p = pieces_laid (built_piece s p) (range_with_len 0 (pieces_of s p))

  -- the entries of the volumes that are placed in slots that rise
  abbrev pairs : List ℕ → List NewVolume → List (ℕ × Volume)
  pairs (j ∷ js) (v ∷ vs) = (j, volume_of s contents v) ∷ pairs js vs
  pairs _ _ = []

  put_first : (j : ℕ) (v : Volume) (js : List ℕ) (vs : List NewVolume) → AllByRecursion (λ i. j < i) js
      → put nat_cmp j v (pairs js vs) ≡ (j, v) ∷ pairs js vs
  put_first j v [] vs h = refl
  put_first j v (i ∷ js) [] h = refl
  put_first j v (i ∷ js) (w ∷ vs) h =
      let es = pairs js vs in
      let x = volume_of s contents w in
      ap (λ o. by_order o ((j, v) ∷ (i, x) ∷ es) ((i, v) ∷ es) ((i, x) ∷ put nat_cmp j v es)) (sym (nat_cmp_is j i Less h.0))

  pub placed_entries : (js : List ℕ) (vs : List NewVolume) → Rises (λ j. j) js
      → finite.entries (placed empty js (map (volume_of s contents) vs)) ≡ pairs js vs
  placed_entries [] vs h = entries-empty
  placed_entries (j ∷ js) [] h = entries-empty
  placed_entries (j ∷ js) (v ∷ vs) h =
      finite.entries-insert nat_cmp_total (placed empty js (map (volume_of s contents) vs)) j (volume_of s contents v)
      ∙ ap (put nat_cmp j (volume_of s contents v)) (placed_entries js vs h.1)
      ∙ put_first j (volume_of s contents v) js vs h.0

  pub parts_laid : (js : List ℕ) (vs : List NewVolume) → AllByRecursion (λ (p : Part). rec_fault s p.entry ≡ None) (parts_of js vs)
      → AllByRecursion (λ (p : Part). p.start + p.len ≤ length contents) (parts_of js vs)
      → laid_blocks s (pairs js vs) ≡ map laid_as (all_layings s contents (parts_of js vs))
  parts_laid [] vs sound reach = refl
  parts_laid (j ∷ js) [] sound reach = refl
  parts_laid (j ∷ js) (v ∷ vs) sound reach =
      let p = part_in v j in
      ap₂ (λ (xs ys : List Laid). xs ++ ys) (part_laid s p sound.0 contents reach.0 ∙ sym (part_layings p)) (parts_laid js vs sound.1 reach.1)
      ∙ sym (map-append laid_as (layings_of s contents p) (all_layings s contents (parts_of js vs)))
