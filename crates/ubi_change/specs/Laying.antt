-- What is written of the pieces of new volumes.
use Rattle.std.specs.Prelude.{◌≡◌, ℕ, if◌then◌else◌, List, filter_map, flat_map, Option, Some, None, Result, Err}
use Rattle.std.specs.List.{range_with_len}
use Rattle.ubi_media.specs.Geometry.{Sizes}
use Rattle.ubi_scan.specs.Source.{Source, failed}
use Rattle.ubi_laid.specs.Parts.{pieces_of}
use Rattle.ubi_laid.specs.Pieces.{IsReadOf, built_piece, is_left_out, piece_text}
use Rattle.ubi_laid.specs.declared.part.Part.{Part}
use Rattle.ubi_laid.specs.declared.pieces.Piece.{Piece}
use Rattle.ubi_change.specs.CommitPlan.{whole_text}
use Rattle.ubi_change.specs.Weak.{pages_needed}
use Rattle.ubi_change.specs.declared.errors.ContentsError.{ContentsError}
use Rattle.ubi_change.specs.declared.errors.ContentsError.TheVariants as contents
use Rattle.ubi_change.specs.declared.laying.Laying.{Laying}

module _ (s : Sizes) (bytes : List ℕ) where
  -- the bytes of a piece
  abbrev pub piece_bytes : Piece → List ℕ
  piece_bytes q = piece_text s q.origin q.len bytes

  -- a piece that is written, with how many pages of it are programmed
  abbrev pub laying_with : Piece → Laying
  laying_with q = record { piece = q; pages = pages_needed s (whole_text s (piece_bytes q)) }

  -- what is written of a piece; there is nothing if it is left out
  abbrev pub laying_of : Piece → Option Laying
  laying_of q = if is_left_out q.header.kind (piece_bytes q) then None else Some (laying_with q)

  -- what is written of a part
  abbrev pub layings_of : Part → List Laying
  layings_of p = filter_map (λ lnum. laying_of (built_piece s p lnum)) (range_with_len 0 (pieces_of s p))

  -- what is written of parts
  abbrev pub all_layings : List Part → List Laying
  all_layings ps = flat_map layings_of ps

-- what is known of a source of contents after a call: one read failed if the answer says so
abbrev pub after_contents : {A : Type 0} → Source → Result A ContentsError → Source
after_contents k (Err (contents.Read _)) = failed k
after_contents k _ = k

-- a source of contents has the size that it had, and is promised to hold what it was
pub record StaysOpen (old new : Source) : Type 0 where
  pub size : new.size ≡ old.size
  pub held : new.held ≡ old.held

-- a read of a piece failed, which began at this place
abbrev pub IsReadOfPiece : Sizes → Piece → ℕ → ContentsError → Type 0
IsReadOfPiece s q at (contents.Read id) = IsReadOf s q.origin q.header at id
IsReadOfPiece s q at contents.Memory = ⊥
