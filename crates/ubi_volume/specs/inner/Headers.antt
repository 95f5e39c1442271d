-- What a scan keeps of the header of a winner, and when it is unlike its record.
use Rattle.std.specs.Prelude.{◌≡◌, ◌≢◌, ◌⊎◌, ℕ, false, List, Option, Some, None, MatchOption}
use Rattle.ubi_media.specs.Geometry.{Sizes}
use Rattle.ubi_media.specs.Record.{data_pad}
use Rattle.ubi_media.specs.declared.record.VolumeRecord.{VolumeRecord}
use Rattle.ubi_scan.specs.Members.{Leb, Wins}
use Rattle.ubi_scan.specs.Scan.{IsHeader}
use Rattle.ubi_scan.specs.declared.found.MemberHeader.{MemberHeader}
use Rattle.ubi_scan.specs.declared.found.ScanState.{ScanState}
use Rattle.ubi_scan.specs.declared.found.ScanState.TheVariants as state
use Rattle.ubi_volume.specs.Accepts.{IsWithin}

-- a header's type or padding isn't that of a record
abbrev pub IsOther : Sizes → VolumeRecord → MemberHeader → Type 0
IsOther s r h = (h.kind ≢ r.kind) ⊎ (h.data_pad ≢ data_pad s r)

-- a header counts for a volume that isn't marked, and is unlike its record
abbrev pub Disagrees : Sizes → VolumeRecord → MemberHeader → Type 0
Disagrees s r h = (r.marker ≡ false) × IsWithin r h.leb.1 × IsOther s r h

-- what a scan keeps of the header of a winner
abbrev pub winner_header : ScanState → Option MemberHeader
winner_header (state.Winner h) = Some h
winner_header _ = None

-- the header of p, if p wins its LEB
abbrev pub WinnerHeaderIs : Sizes → List (List ℕ) → ℕ → Option MemberHeader → Type 0
WinnerHeaderIs s bs p header = MatchOption header
    ((of : Leb) → Wins s bs of p → ⊥)
    (λ h. IsHeader s bs p h × Wins s bs h.leb p)
