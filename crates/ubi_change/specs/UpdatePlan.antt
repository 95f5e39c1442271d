-- The groups of steps of a plan of edits: one for each LEB that is written, and one for each copy of the volume table.
use Rattle.std.specs.Prelude.{◌≡◌, ℕ, ◌+◌, ◌/◌, ◌%◌, ◌^◌, ◌<◌, ◌≤◌, ◌==◌, All, Bool, count_by, false, List, [], ◌∷◌, flat_map, length, map, Result, Err, Some, slice_get}
use Rattle.std.specs.List.{AllByRecursion}
use Rattle.ubi_media.specs.Fields.{AreBytes}
use Rattle.ubi_media.specs.Geometry.{IsGeometry, Sizes, leb_size}
use Rattle.ubi_media.specs.declared.vid.VidHeader.{VidHeader}
use Rattle.ubi_scan.specs.Image.{IsWholeSize}
use Rattle.ubi_scan.specs.Marks.{is_listed}
use Rattle.ubi_scan.specs.Scan.{Found}
use Rattle.ubi_scan.specs.Source.{Source, blocks_in, failed}
use Rattle.ubi_laid.specs.Pieces.{LiesIn, checked_header}
use Rattle.ubi_laid.specs.declared.pieces.Piece.{Piece}
use Rattle.ubi_change.specs.Avoided.{raised}
use Rattle.ubi_change.specs.CommitPlan.{trimmed}
use Rattle.ubi_change.specs.Laying.{IsReadOfPiece, all_layings, piece_bytes}
use Rattle.ubi_change.specs.Pages.{line_of}
use Rattle.ubi_change.specs.RenamePlan.{layout_header}
use Rattle.ubi_change.specs.Sites.{BothFit, FitsIn, copy_on, lay_on}
use Rattle.ubi_change.specs.declared.copies.Holders.{Holders}
use Rattle.ubi_change.specs.declared.errors.ContentsError.{ContentsError}
use Rattle.ubi_change.specs.declared.errors.ContentsError.TheVariants as contents
use Rattle.ubi_change.specs.declared.errors.UpdateError.{UpdateError}
use Rattle.ubi_change.specs.declared.errors.UpdateError.TheVariants as error
use Rattle.ubi_change.specs.declared.laying.Laying.{Laying}
use Rattle.ubi_change.specs.declared.sites.Site.{Site}
use Rattle.ubi_change.specs.declared.step.Step.{Step}
use Rattle.ubi_change.specs.declared.update.UpdatePlan.{UpdatePlan}

module _ (s : Sizes) (scan : Found) where
  module _ (contents : List ℕ) where
    -- the header of a piece, with the sequence number of the k-th eraseblock that is taken
    abbrev pub header_at : ℕ → Piece → VidHeader
    header_at k q =
        record (checked_header q.header.kind s q.header q.origin q.len contents) { sqnum = scan.top_sqnum + 1 + k }

    -- a piece is written to the k-th eraseblock that is taken
    abbrev pub lay_steps : ℕ → Piece → Site → List Step
    lay_steps k q t = lay_on s scan t (header_at k q) (trimmed s (piece_bytes s contents q))

  -- a copy of the table with these pages is written to the k-th eraseblock that is taken, and then the one that held it is erased
  abbrev pub copy_steps : List ℕ → ℕ → ℕ → Site → Site → List Step
  copy_steps pages c k t old = copy_on s scan t (layout_header c (scan.top_sqnum + 1 + k) pages) pages old old.ec

  -- both copies, from the k-th eraseblock on
  abbrev pub table_groups : List ℕ → Holders → ℕ → List Site → List (List Step)
  table_groups pages old k (t ∷ u ∷ ts) = copy_steps pages 0 k t old.first ∷ copy_steps pages 1 (k + 1) u old.second ∷ []
  table_groups pages old k _ = []

  -- pieces, from the k-th eraseblock on, and then both copies
  abbrev pub groups_from : List ℕ → List ℕ → Holders → ℕ → List Laying → List Site → List (List Step)
  groups_from contents pages old k [] ts = table_groups pages old k ts
  groups_from contents pages old k (l ∷ ls) [] = []
  groups_from contents pages old k (l ∷ ls) (t ∷ ts) = lay_steps contents k l.piece t ∷ groups_from contents pages old (k + 1) ls ts

-- what the headers of a plan are made from: what a scan found, with sequence numbers from those on that it may give out
abbrev pub base_of : UpdatePlan → Found
base_of p = raised p.above p.surveyed.scan

-- the groups of steps of a plan, by the bytes of the source of contents
abbrev pub plan_groups : Sizes → UpdatePlan → List ℕ → List (List Step)
plan_groups s p contents = groups_from s (base_of p) contents p.pages.items p.holders 0 p.layings.items p.sites.items

-- how many LEBs of the volume in a slot are written
abbrev pub leb_count : UpdatePlan → ℕ → ℕ
leb_count p id = count_by (λ l. l.piece.header.vol_id == id) p.layings.items

-- groups of steps, one after the other
abbrev pub in_order : List (List Step) → List Step
in_order groups = flat_map (λ steps. steps) groups

-- the eraseblocks of a plan lie in the image, its pieces lie in a source of contents of this size, and there are as many sequence
-- numbers as it needs
pub record FitsUpdate (s : Sizes) (size : ℕ) (p : UpdatePlan) : Type 0 where
  pub sound : IsGeometry s
  pub sites : AllByRecursion (FitsIn (length p.surveyed.states)) p.sites.items
  pub enough : length p.layings.items + 2 ≤ length p.sites.items
  pub holders : BothFit (length p.surveyed.states) p.holders
  pub lie : AllByRecursion (λ l. LiesIn s size l.piece) p.layings.items
  pub paged : length p.pages.items % s.page ≡ 0
  pub short : length p.pages.items < 2 ^ 31
  pub fit : length p.pages.items ≤ leb_size s
  pub bytes : AreBytes p.pages.items
  pub few : (base_of p).top_sqnum + (length p.layings.items + 2) ≤ 0xFFFFFFFFFFFFFFFF

-- of each volume that a plan writes it has what there is to be written, if the source of contents holds these bytes
abbrev pub IsLaidFrom : Sizes → List ℕ → UpdatePlan → Type 0
IsLaidFrom s contents p = p.layings.items ≡ all_layings s contents p.parts.items

-- these are the steps of the k-th group without the bytes that they program, if the source of contents holds these bytes
abbrev pub IsOutline : Sizes → List ℕ → UpdatePlan → ℕ → List Step → Type 0
IsOutline s contents p k steps = (group : List Step) × (slice_get (plan_groups s p contents) k ≡ Some group) × (steps ≡ map line_of group)

-- a source has whole eraseblocks, as many as a plan knows of
pub record IsPlanOf (s : Sizes) (k : Source) (p : UpdatePlan) : Type 0 where
  pub whole : IsWholeSize s k.size
  pub count : length p.surveyed.states ≡ blocks_in s k

-- none of the eraseblocks that a plan works on is listed
pub record IsBeside (marks : List Bool) (p : UpdatePlan) : Type 0 where
  pub sites : All (λ t. is_listed marks t.pnum ≡ false) p.sites.items
  pub first : is_listed marks p.holders.first.pnum ≡ false
  pub second : is_listed marks p.holders.second.pnum ≡ false

-- why a group isn't made: a read of its piece failed, which began at this place; or memory ran out
abbrev pub IsGroupError : Sizes → UpdatePlan → ℕ → ℕ → ContentsError → Type 0
IsGroupError s p k at (contents.Read id) =
    (l : Laying) × (slice_get p.layings.items k ≡ Some l) × IsReadOfPiece s l.piece at (contents.Read id)
IsGroupError s p k at contents.Memory = Unit {0}

-- what is known of the source of the image after a call: one read failed if the answer is Read
abbrev pub after_update : {A : Type 0} → Source → Result A UpdateError → Source
after_update k (Err (error.Read p)) = failed k
after_update k _ = k

-- what is known of the source of contents after a call: one read failed if the answer is Contents
abbrev pub contents_after_update : {A : Type 0} → Source → Result A UpdateError → Source
contents_after_update k (Err (error.Contents id)) = failed k
contents_after_update k _ = k

-- a failed read of the image, which began at a place, names the eraseblock in which the place lies
abbrev pub NamesUnread : Sizes → ℕ → UpdateError → Type 0
NamesUnread s at (error.Read p) = p ≡ at / s.peb_size
NamesUnread s at _ = Unit {0}
