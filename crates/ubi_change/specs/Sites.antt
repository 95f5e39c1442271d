-- What a plan knows of the eraseblocks that it touches, and the parts of a plan, given that.
use Rattle.std.specs.Prelude.{◌≡◌, ℕ, ◌<◌, ◌≤◌, ◌==◌, ◌&&◌, ◌||◌, Bool, not, if◌then◌else◌, List, [], ◌∷◌, ◌++◌, length, Option, IfSome}
use Rattle.std.specs.Option.{option_map_or}
use Rattle.ubi_media.specs.Ec.{ec_bytes}
use Rattle.ubi_media.specs.Geometry.{Sizes}
use Rattle.ubi_media.specs.declared.ec.EcHeader.{EcHeader}
use Rattle.ubi_media.specs.declared.vid.VidHeader.{VidHeader}
use Rattle.ubi_scan.specs.Scan.{Found}
use Rattle.ubi_change.specs.Plan.{next_ec, program_header, program_text, renew}
use Rattle.ubi_change.specs.Takeable.{is_worn}
use Rattle.ubi_change.specs.declared.copies.Holders.{Holders}
use Rattle.ubi_change.specs.declared.sites.Site.{Site}
use Rattle.ubi_change.specs.declared.step.Step.{Step}

-- a counter that was read has 31 bits
abbrev pub HasCounter : Site → Type 0
HasCounter t = IfSome t.ec (λ h. h.counter ≤ 0x7FFFFFFF)

-- the site is one of n eraseblocks, and its header has 64 bytes, whatever is held
pub record FitsIn (n : ℕ) (t : Site) : Type 0 where
  pub inside : t.pnum < n
  pub area : length t.ec_area ≡ 64
  pub counter : HasCounter t

-- both eraseblocks that hold a copy
pub record BothFit (n : ℕ) (two : Holders) : Type 0 where
  pub first : FitsIn n two.first
  pub second : FitsIn n two.second

-- whether the site is the sole carrier of the image sequence number
abbrev pub is_sole_on : Found → Site → Bool
is_sole_on scan t = not (option_map_or (λ h. h.image_seq) t.ec 0 == 0) && (scan.carriers == 1)

-- whether the site, whose Valid erase-counter header is now this, is never erased
abbrev pub stays_on : Found → Site → Option EcHeader → Bool
stays_on scan t now = is_worn now || is_sole_on scan t

module _ (s : Sizes) (scan : Found) where
  -- the site is made ready and gets a volume-identifier header
  abbrev pub mount_on : Site → VidHeader → List Step
  mount_on t h =
      (if t.is_clean then [] else renew s t.pnum (next_ec scan t.ec))
      ++ program_header s t.pnum (if t.is_clean then t.ec_area else ec_bytes s (next_ec scan t.ec)) h ∷ []

  -- an old winner, whose erase-counter header is now this, is erased, or left if it stays
  abbrev pub release_on : Site → Option EcHeader → List Step
  release_on t now = if stays_on scan t now then [] else renew s t.pnum (next_ec scan now)

  -- contents are written to b under a header
  abbrev pub lay_on : Site → VidHeader → List ℕ → List Step
  lay_on b h new = mount_on b h ++ program_text s b.pnum new

  -- and then the old winner of its LEB is erased
  abbrev pub copy_on : Site → VidHeader → List ℕ → Site → Option EcHeader → List Step
  copy_on b h new old now = lay_on b h new ++ release_on old now
