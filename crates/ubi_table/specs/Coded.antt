-- What holds for the records that a table keeps, and how they are stored.
use Rattle.std.specs.Prelude.{◌≡◌, ℕ, ◌<◌, IsTrue, List, All, None, refl}
use Rattle.std.specs.Coded.{Coded, code_by, coded×, coded_ℕ}
use Rattle.std.specs.FinMap.{is_sorted, FinMap, code}
use Rattle.std.specs.Ordering.{nat_cmp}
use Rattle.ubi_media.specs.Geometry.{Sizes, slots}
use Rattle.ubi_media.specs.Record.{rec_fault}
use Rattle.ubi_media.specs.declared.record.VolumeRecord.{VolumeRecord}
use Rattle.ubi_media.specs.contracts.record.VolumeRecord as record_type
use Rattle.ubi_table.specs.Records.{twice, Records}

-- what holds for the records that a table keeps: their numbers ascend and are below that of the slots, they break no
-- rule, and no name comes twice
pub record AreKept (s : Sizes) (es : List (ℕ × VolumeRecord)) : Type 0 where
  pub sorted : IsTrue (is_sorted nat_cmp es)
  pub slot : All (λ e. e.0 < slots s) es
  pub sound : All (λ e. rec_fault s e.1 ≡ None) es
  pub once : twice es ≡ None

-- sizes are stored as the tuple of their numbers
abbrev pub sizes_code : Coded Sizes
sizes_code =
    code_by (ℕ × (ℕ × (ℕ × (ℕ × ℕ)))) (coded× coded_ℕ (coded× coded_ℕ (coded× coded_ℕ (coded× coded_ℕ coded_ℕ))))
    (λ s. (s.peb_size, (s.page, (s.vid_offset, (s.data_offset, s.pebs)))))
    (λ p. record { peb_size = p.0; page = p.1.0; vid_offset = p.1.1.0; data_offset = p.1.1.1.0; pebs = p.1.1.1.1 })
    (λ _. refl)

-- records are stored with their sizes
abbrev pub records_code : Coded Records
records_code =
    code_by (Sizes × FinMap nat_cmp VolumeRecord) (coded× sizes_code (code coded_ℕ record_type.the_row.coded))
    (λ t. (t.sizes, t.of)) (λ p. record { sizes = p.0; of = p.1 }) (λ _. refl)
