-- What is known of each logical eraseblock that a plan writes.
use Rattle.ubi_change.proofs.Prelude.{AllByRecursion, Bool, Laying, List, None, Part, Sizes, Some, Static, VidHeader, VolKind, [], all_append, all_layings, arith, block, blocks_of, built_piece, cond, cons_option, drop, false, filter_map, is_left_out, laying_of, laying_with, layings_of, leb, length, pages_needed, part_header, piece_text, pieces_of, range_with_len, refl, true, whole_text, ℕ, ◌+◌, ◌-◌, ◌∷◌, ◌≡◌, ◌≤◌, length-take, checked_header, Origin}
use Rattle.ubi_laid.specs.declared.pieces.Origin.TheVariants as origin
use Rattle.ubi_media.specs.declared.vid.VolKind.TheVariants as kind

-- the bytes of a piece fit into a logical eraseblock
pub piece_short : (s : Sizes) (o : Origin) (len : ℕ) (contents : List ℕ) → length (piece_text s o len contents) ≤ len
piece_short s origin.Nowhere len contents = omega arith
piece_short s (origin.Block p) len contents = let e = length-take len (leb s (block (blocks_of s contents) p)) in omega (arith, e)
piece_short s (origin.Bytes start) len contents = let e = length-take (start + len - start) (drop start contents) in omega (arith, e)

-- a header keeps its compatibility with the CRC of its data
pub checked_compat : (k : VolKind) (s : Sizes) (h : VidHeader) (o : Origin) (len : ℕ) (contents : List ℕ)
    → (checked_header k s h o len contents).compat ≡ h.compat
checked_compat kind.Static s h o len contents = refl
checked_compat kind.Dynamic s h o len contents = refl

module _ (s : Sizes) (contents : List ℕ) where
  -- the pages are counted as the contents have them, and the volume isn't one that a kernel may not know
  pub record IsCounted (l : Laying) : Type 0 where
    pub pages : l.pages ≡ pages_needed s (whole_text s (piece_text s l.piece.origin l.piece.len contents))
    pub compat : l.piece.header.compat ≡ 0

  abbrev pub AllCounted : List Laying → Type 0
  AllCounted = AllByRecursion IsCounted

  plain : (k : VolKind) (p : Part) (lnum len : ℕ) → (part_header k s p lnum len).compat ≡ 0
  plain kind.Static p lnum len = refl
  plain kind.Dynamic p lnum len = refl

  built : (p : Part) (lnum : ℕ) → IsCounted (laying_with s contents (built_piece s p lnum))
  built p lnum = record { pages = refl; compat = plain p.entry.kind p lnum _ }

  pieces_counted : (p : Part) (ns : List ℕ) → AllCounted (filter_map (λ lnum. laying_of s contents (built_piece s p lnum)) ns)
  pieces_counted p [] = tt
  pieces_counted p (n ∷ ns) =
      by (is_left_out (built_piece s p n).header.kind (piece_text s (built_piece s p n).origin (built_piece s p n).len contents)) (pieces_counted p ns)
    where
      by : (b : Bool) → AllCounted (filter_map (λ lnum. laying_of s contents (built_piece s p lnum)) ns)
          → AllCounted (cons_option (cond b None (Some (laying_with s contents (built_piece s p n))))
          (filter_map (λ lnum. laying_of s contents (built_piece s p lnum)) ns))
      by true rest = rest
      by false rest = (built p n, rest)

  pub all_counted : (ps : List Part) → AllCounted (all_layings s contents ps)
  all_counted [] = tt
  all_counted (p ∷ ps) =
      all_append IsCounted (layings_of s contents p) (all_layings s contents ps) (pieces_counted p (range_with_len 0 (pieces_of s p))) (all_counted ps)
