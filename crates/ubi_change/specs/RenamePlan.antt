-- The plan of a rename: both copies of the volume table are rewritten.
use Rattle.std.specs.Prelude.{ℕ, ◌+◌, ◌*◌, List, ◌++◌, length}
use Rattle.std.specs.FinMap.{get}
use Rattle.std.specs.Option.{option_map_or}
use Rattle.ubi_media.specs.Fields.{filled}
use Rattle.ubi_media.specs.Geometry.{Sizes}
use Rattle.ubi_media.specs.Vid.{plain}
use Rattle.ubi_media.specs.declared.vid.VidHeader.{VidHeader}
use Rattle.ubi_media.specs.declared.vid.VolKind.TheVariants as kind
use Rattle.ubi_scan.specs.Members.{layout}
use Rattle.ubi_table.specs.Records.{Records, table_bytes}
use Rattle.ubi_volume.specs.Attached.{AttachValue}
use Rattle.ubi_volume.specs.Meant.{Meant, pieces, records_of}
use Rattle.ubi_change.specs.Plan.{atomic_copy, copy_header, taken}
use Rattle.ubi_change.specs.Renamed.{renamed}
use Rattle.ubi_change.specs.Takeable.{ec_at}
use Rattle.ubi_change.specs.declared.step.Step.{Step}

-- the bytes of a table, and then 0xFF to whole pages
abbrev pub table_pages : Sizes → Records → List ℕ
table_pages s t = filled (pieces s.page (length (table_bytes t)) * s.page) (table_bytes t)

-- what a rename writes: the pages of the table of the renamed meaning
abbrev pub renamed_pages : Sizes → Meant → ℕ → List ℕ → List ℕ
renamed_pages s m id name = table_pages s (records_of (renamed m id name))

-- the header of copy c of the table with these pages
abbrev pub layout_header : ℕ → ℕ → List ℕ → VidHeader
layout_header c sqnum new = copy_header (plain kind.Dynamic 5 0 layout c) sqnum new

module _ (s : Sizes) (bs : List (List ℕ)) (a : AttachValue) where
  -- the eraseblock that holds copy c of the table
  abbrev pub holder : ℕ → ℕ
  holder c = option_map_or (λ p. p) (get a.scan.winners (layout, c)) 0

  -- copy c is written to the k-th eraseblock that is taken, and then its holder is erased
  abbrev pub copy_plan : List ℕ → ℕ → ℕ → ℕ → List Step
  copy_plan new c k sqnum = atomic_copy s bs a (taken s bs a k) (layout_header c sqnum new) new (holder c) (ec_at s bs (holder c))

  -- copy 0, and then copy 1
  abbrev pub rename_plan : ℕ → List ℕ → List Step
  rename_plan id name =
      copy_plan (renamed_pages s a.meaning id name) 0 0 (a.scan.top_sqnum + 1)
      ++ copy_plan (renamed_pages s a.meaning id name) 1 1 (a.scan.top_sqnum + 2)
