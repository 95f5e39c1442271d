-- What a plan has to know of an eraseblock, read of a source.
use Rattle.std.specs.Prelude.{◌≡◌, ℕ, ◌&&◌, if◌then◌else◌, List, drop, Option, Some, IfSome, option_map}
use Rattle.ubi_media.specs.Fields.{is_blank}
use Rattle.ubi_media.specs.Geometry.{Sizes}
use Rattle.ubi_media.specs.declared.ec.EcHeader.{EcHeader}
use Rattle.ubi_scan.specs.Image.{block, ec_area}
use Rattle.ubi_scan.specs.Scan.{Found}
use Rattle.ubi_scan.specs.Source.{Agreed, Source, WhereHeld, blocks_in, blocks_of}
use Rattle.ubi_volume.specs.declared.attached.BlockState.{BlockState}
use Rattle.ubi_change.specs.Plan.{next_ec}
use Rattle.ubi_change.specs.Takeable.{ec_at, is_clean, is_free}
use Rattle.ubi_change.specs.Sites.{FitsIn}
use Rattle.ubi_change.specs.declared.sites.Site.{Site}

-- what has to be known of p
abbrev pub site_at : Sizes → List (List ℕ) → List BlockState → ℕ → Site
site_at s bs states p = record { pnum = p; ec_area = ec_area (block bs p); ec = ec_at s bs p; is_clean = is_clean s bs states p }

-- what has to be known of p in this state
abbrev pub site_in : Sizes → List (List ℕ) → ℕ → BlockState → Site
site_in s bs p st =
    record { pnum = p; ec_area = ec_area (block bs p); ec = ec_at s bs p; is_clean = is_free st && is_blank (drop 64 (block bs p)) }

-- what was read of p, which is in this state
pub record IsSiteOf (s : Sizes) (k : Source) (agrees : Agreed) (p : ℕ) (st : BlockState) (t : Site) : Type 0 where
  pub number : t.pnum ≡ p
  pub fits : FitsIn (blocks_in s k) t
  pub held : WhereHeld agrees (λ bytes. t ≡ site_in s (blocks_of s bytes) p st)

-- what was read of an eraseblock, if there is one
pub record IsSiteAt (s : Sizes) (k : Source) (agrees : Agreed) (states : List BlockState) (o : Option ℕ) (t : Option Site) : Type 0 where
  pub fits : IfSome t (FitsIn (blocks_in s k))
  pub held : WhereHeld agrees (λ bytes. t ≡ option_map (site_at s (blocks_of s bytes) states) o)

-- the erase-counter header of the site once it is ready
abbrev pub ready_on : Found → Site → Option EcHeader
ready_on scan t = if t.is_clean then t.ec else Some (next_ec scan t.ec)
