-- The pieces of a part: each that isn't left out is the eraseblock of a LEB of its volume.
use Rattle.ubi_laid.proofs.Prelude.{◌≡◌, ℕ, ◌+◌, ◌-◌, ◌*◌, ◌<◌, ◌≤◌, Bool, true, false, cond, zero, suc, List, [], ◌∷◌, ◌++◌, length, map, slice_range, take, drop, refl, ap, sym, ◌∙◌, arith, inl, inr, None, Option, Some, take-take, take_all, usable_some, within_or_past, blank, filled, is_blank, Sizes, VolKind, data_pad, usable, crc_of, plain, pieces, share, share_len, flat_map, option_map_or, unwrap_or, range_with_len, text_of, content_of, lebs_of, Part, Laid, dynamic_block, piece_header, static_part, volume_blocks, rec_fault, map-append, ◌==◌, ◌&&◌, not, nat_cmp, drop-drop, drop-take, length-take, min, list_all-append, length-share, piece_begins, filled-is, get_without_blank, is_kept, without_blank, lebs_without_blank, laid_piece, kept_piece, kept_pieces, piece_of_kind, piece_text, pieces_of}
use Rattle.ubi_media.specs.declared.vid.VolKind.TheVariants as kind
use Rattle.std.specs.FinMap as finite
use Rattle.ubi_laid.proofs.EntriesByNumber.{entries_by_number, same_range}
use Rattle.ubi_laid.proofs.PartContents.{leb_of, leb_there, leb_within, text_size}

-- the first of the first
two_takes : (a m : ℕ) (xs : List ℕ) → take a (take m xs) ≡ take (min a m) xs
two_takes a m xs = elim (within_or_past a m) [
  | inl few ↦ take-take a m xs few ∙ ap (λ n. take n xs) (let e : a ≡ min a m = omega arith in e)
  | inr more ↦ take_all a (take m xs) (let n = length-take m xs in omega (arith, n, more))
      ∙ ap (λ n. take n xs) (let e : m ≡ min a m = omega arith in e)
]

-- a piece lies at its place
pub share_read : (bytes : List ℕ) (p : Part) (size lnum at len : ℕ) → lnum * size ≤ p.len → at ≡ p.start + lnum * size
    → len ≡ share_len size p.len lnum → slice_range bytes at (at + len) ≡ share size (text_of bytes p) lnum
share_read bytes p size lnum at len inside begin count =
    let k = lnum * size in
    let rest : ℕ = p.len - k in
    let all : p.len ≡ k + rest = omega arith in
    let room : at + len - at ≡ len = omega arith in
    ap (λ n. take n (drop at bytes)) (room ∙ count) ∙ sym (two_takes size rest (drop at bytes))
    ∙ ap (λ n. take size (take rest (drop n bytes))) begin
    ∙ ap (λ xs. take size (take rest xs)) (sym (drop-drop k p.start bytes))
    ∙ ap (take size) (sym (drop-take k rest (drop p.start bytes)))
    ∙ ap (λ n. take size (drop k (take n (drop p.start bytes)))) (sym all)

-- 0xFF behind a text doesn't tell whether it is 0xFF throughout
blank_all : (n : ℕ) → is_blank (blank n) ≡ true
blank_all zero = refl
blank_all (suc n) = blank_all n

and_true : (b : Bool) → (b && true) ≡ b
and_true true = refl
and_true false = refl

pub blank_filled : (size : ℕ) (text : List ℕ) → is_blank (filled size text) ≡ is_blank text
blank_filled size text =
    let k : ℕ = size - length text in
    ap is_blank (filled-is size text) ∙ list_all-append (λ b. b == 255) text (blank k)
    ∙ ap (λ b. is_blank text && b) (blank_all k) ∙ and_true (is_blank text)

map_singles : {X Y : Type 0} (f : X → Y) (xs : List X) → map f xs ≡ flat_map (λ x. f x ∷ []) xs
map_singles f [] = refl
map_singles f (x ∷ xs) = ap (λ ys. f x ∷ ys) (map_singles f xs)

map_flat : {X Y Z : Type 0} (f : Y → Z) (g : X → List Y) (xs : List X)
    → map f (flat_map g xs) ≡ flat_map (λ x. map f (g x)) xs
map_flat f g [] = refl
map_flat f g (x ∷ xs) = map-append f (g x) (flat_map g xs) ∙ ap (λ ys. map f (g x) ++ ys) (map_flat f g xs)

-- what is kept was there before
kept_some : (b : Bool) (o : Option (List ℕ)) (x : List ℕ) → cond b o None ≡ Some x → o ≡ Some x
kept_some true o x e = e
kept_some false o x e = absurd (cc)

module _ (s : Sizes) (p : Part) (sound : rec_fault s p.entry ≡ None) (bytes : List ℕ) (reaches : p.start + p.len ≤ length bytes) where
  abbrev size : ℕ
  size = usable s p.entry

  abbrev text : List ℕ
  text = text_of bytes p

  abbrev n : ℕ
  n = pieces size (length text)

  abbrev kept : finite.FinMap nat_cmp (List ℕ)
  kept = lebs_without_blank (lebs_of size text)

  some : 1 ≤ size
  some = usable_some s p.entry sound

  abbrev piece_in : VolKind → ℕ → List Laid
  piece_in k lnum = map (laid_piece s bytes) (kept_piece s bytes (piece_of_kind k s p lnum))

  module _ (lnum : ℕ) (inside : lnum < n) where
    abbrev part : List ℕ
    part = share size text lnum

    read : slice_range bytes (p.start + lnum * size) (p.start + lnum * size + share_len size p.len lnum) ≡ part
    read =
        let begins = piece_begins size some (length text) lnum inside in
        share_read bytes p size lnum (p.start + lnum * size) (share_len size p.len lnum)
        (omega (arith, begins, text_size bytes p reaches)) refl refl

    long : length part ≡ share_len size p.len lnum
    long = length-share size some text lnum ∙ ap (λ n. share_len size n lnum) (text_size bytes p reaches)

    static_in : piece_in kind.Static lnum ≡ static_part (data_pad s p.entry) size p.id text lnum ∷ []
    static_in =
        let f : ℕ → ℕ → List ℕ → List Laid = λ n l t.
        (record { header = piece_header (plain kind.Static 0 (data_pad s p.entry) p.id lnum) (pieces size n) l (crc_of t); text = t } ∷ []) in
        ap (f p.len (share_len size p.len lnum)) read ∙ ap (λ l. f p.len l part) (sym long)
        ∙ ap (λ n. f n (length part) part) (sym (text_size bytes p reaches))

    dynamic_in : piece_in kind.Dynamic lnum
        ≡ cond (is_blank (filled size part)) [] (dynamic_block (data_pad s p.entry) p.id (lnum, filled size part) ∷ [])
    dynamic_in =
        let h = plain kind.Dynamic 0 (data_pad s p.entry) p.id lnum in
        let q = piece_of_kind kind.Dynamic s p lnum in
        let by : (b : Bool) (t : List ℕ) → map (laid_piece s bytes) (cond b [] (q ∷ [])) ≡ cond b [] (laid_piece s bytes q ∷ []) =
        λ b t. elim b as (λ b. map (laid_piece s bytes) (cond b [] (q ∷ [])) ≡ cond b [] (laid_piece s bytes q ∷ [])) [ true ↦ refl | false ↦ refl ] in
        by (is_blank (piece_text s q.origin q.len bytes)) []
        ∙ ap (λ (t : List ℕ). cond (is_blank t) [] (record { header = h; text = filled size t } ∷ [])) read
        ∙ ap (λ b. cond b [] (record { header = h; text = filled size part } ∷ [])) (sym (blank_filled size part))

  within : (lnum : ℕ) (x : List ℕ) → finite.get kept lnum ≡ Some x → lnum < n
  within lnum x e = leb_within size text lnum x
      (kept_some (is_kept (lebs_of size text) lnum) (finite.get (lebs_of size text) lnum) x
      (sym (get_without_blank (lebs_of size text) lnum) ∙ e))

  abbrev block_at : ℕ → List ℕ → List Laid
  block_at lnum x = dynamic_block (data_pad s p.entry) p.id (lnum, x) ∷ []

  leb_in : (lnum : ℕ) → lnum < n → option_map_or (block_at lnum) (finite.get kept lnum) [] ≡ piece_in kind.Dynamic lnum
  leb_in lnum below =
      ap (λ o. option_map_or (block_at lnum) o []) (get_without_blank (lebs_of size text) lnum)
      ∙ ap (λ o. option_map_or (block_at lnum) (cond (not (is_blank (unwrap_or o []))) o None) [])
      (leb_there size text lnum below)
      ∙ by (is_blank (leb_of size text lnum))
      ∙ sym (dynamic_in lnum below)
    where
      by : (b : Bool) → option_map_or (block_at lnum) (cond (not b) (Some (leb_of size text lnum)) None) []
          ≡ cond b [] (block_at lnum (leb_of size text lnum))
      by true = refl
      by false = refl

  of_kind : (k : VolKind)
      → volume_blocks s p.id p.entry (without_blank (content_of k size text)) ≡ flat_map (piece_in k) (range_with_len 0 n)
  of_kind kind.Static =
      map_singles (static_part (data_pad s p.entry) size p.id text) (range_with_len 0 n)
      ∙ same_range _ _ 0 n (λ lnum low high. sym (static_in lnum (omega arith)))
  of_kind kind.Dynamic =
      map_singles (dynamic_block (data_pad s p.entry) p.id) (finite.entries kept)
      ∙ entries_by_number (λ e. block_at e.0 e.1) kept n within
      ∙ same_range _ _ 0 n (λ lnum low high. leb_in lnum (omega arith))

  -- the eraseblocks of the volume of a part are its pieces
  pub part_laid : volume_blocks s p.id p.entry (without_blank (content_of p.entry.kind size text))
      ≡ map (laid_piece s bytes) (kept_pieces s bytes p)
  part_laid =
      of_kind p.entry.kind
      ∙ ap (λ len. flat_map (piece_in p.entry.kind) (range_with_len 0 (pieces size len))) (text_size bytes p reaches)
      ∙ sym (map_flat (laid_piece s bytes) (λ lnum. kept_piece s bytes (piece_of_kind p.entry.kind s p lnum))
      (range_with_len 0 (pieces_of s p)))
