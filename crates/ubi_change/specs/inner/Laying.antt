-- What private functions find when contents are read.
use Rattle.std.specs.Prelude.{◌≡◌, ℕ, ◌+◌, ◌-◌, ◌*◌, ◌^◌, ◌<◌, ◌≤◌, List, None, Some, slice_get}
use Rattle.std.specs.List.{AllByRecursion}
use Rattle.ubi_media.specs.Geometry.{Sizes}
use Rattle.ubi_media.specs.Record.{rec_fault, usable}
use Rattle.ubi_volume.specs.Meant.{pieces}
use Rattle.ubi_laid.specs.Pieces.{number_of}
use Rattle.ubi_laid.specs.declared.part.Part.{Part}
use Rattle.ubi_laid.specs.declared.pieces.Origin.{Origin}
use Rattle.ubi_laid.specs.declared.pieces.Origin.TheVariants as origin
use Rattle.ubi_laid.specs.declared.pieces.Piece.{Piece}
use Rattle.ubi_change.specs.EditsAsked.{news_of}
use Rattle.ubi_change.specs.declared.edit.Edit.{Edit}
use Rattle.ubi_change.specs.declared.laying.Laying.{Laying}
use Rattle.ubi_change.specs.declared.errors.ContentsError.{ContentsError}
use Rattle.ubi_change.specs.declared.errors.ContentsError.TheVariants as contents
use Rattle.ubi_change.specs.declared.errors.UpdateError.{UpdateError}
use Rattle.ubi_change.specs.declared.errors.UpdateError.TheVariants as error
use Rattle.ubi_change.specs.declared.errors.UpdateRefusal.TheVariants as refusal

-- a source of this size has the bytes of a part, and these are no more than its volume holds
pub record IsPartReadable (s : Sizes) (size : ℕ) (p : Part) : Type 0 where
  pub sound : rec_fault s p.entry ≡ None
  pub fits : p.len ≤ p.entry.reserved * usable s p.entry
  pub reaches : p.start + p.len ≤ size
  pub narrow : size < 2 ^ 64

-- a piece is what another one has in its last page, and begins so many whole pages behind it
pub record IsLastPage (s : Sizes) (q last : Piece) : Type 0 where
  pub start : ℕ
  pub before : ℕ
  pub from : q.origin ≡ origin.Bytes start
  pub at : last.origin ≡ origin.Bytes (start + before * s.page)
  pub all : before * s.page + last.len ≡ q.len
  pub some : 0 < last.len
  pub within : last.len ≤ s.page
  pub header : last.header ≡ q.header

-- a piece all whose pages are programmed
abbrev pub full_laying : Sizes → Piece → Laying
full_laying s q = record { piece = q; pages = pieces s.page q.len }

-- a failed read of a piece of contents began at a place, in these bytes
abbrev pub IsPlaceIn : Origin → ℕ → ℕ → Type 0
IsPlaceIn (origin.Bytes start) len at = (start ≤ at) × (at ≤ start + (len - 1))
IsPlaceIn _ len at = Unit {0}

-- a read for a piece failed, which began at this place
abbrev pub IsPieceUnread : Piece → ℕ → ContentsError → Type 0
IsPieceUnread q at (contents.Read id) = (id ≡ number_of q.origin q.header) × IsPlaceIn q.origin q.len at
IsPieceUnread q at contents.Memory = ⊥

-- a read for a part failed, which began at this place; or memory ran out
abbrev pub IsPartUnread : Part → ℕ → ContentsError → Type 0
IsPartUnread p at (contents.Read id) = (id ≡ p.id) × (p.start ≤ at) × (at < p.start + p.len)
IsPartUnread p at contents.Memory = Unit {0}

-- a read for one of some parts failed, which is named by its place among them; or memory ran out
abbrev pub IsContentsError : List Part → ℕ → UpdateError → Type 0
IsContentsError ps at (error.Contents i) = (p : Part) × (slice_get ps i ≡ Some p) × (p.start ≤ at) × (at < p.start + p.len)
IsContentsError ps at (error.Refused c) = c ≡ refusal.Memory
IsContentsError ps at _ = ⊥

-- a source that has the bytes of all new volumes has those of the parts that are placed
abbrev pub AreReadable : Sizes → List Edit → List Part → Type 0
AreReadable s es ps = (size : ℕ) → size < 2 ^ 64 → AllByRecursion (λ v. v.start + v.len ≤ size) (news_of es)
    → AllByRecursion (IsPartReadable s size) ps

-- what an error of contents says about a plan, if the i-th of the volumes that are written was read
abbrev pub contents_error : ℕ → ContentsError → UpdateError
contents_error i (contents.Read id) = error.Contents i
contents_error i contents.Memory = error.Refused refusal.Memory
