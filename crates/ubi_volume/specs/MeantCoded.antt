-- What holds for the volumes that a meaning keeps, and how it is stored.
use Rattle.std.specs.Prelude.{ℕ, IsTrue, List, refl}
use Rattle.std.specs.Coded.{Coded, code_by, coded×, coded_ℕ}
use Rattle.std.specs.FinMap.{from_entries, is_sorted, code}
use Rattle.std.specs.Ordering.{nat_cmp}
use Rattle.ubi_media.specs.Geometry.{Sizes}
use Rattle.ubi_table.specs.Coded.{sizes_code}
use Rattle.ubi_volume.specs.Meant.{VolumeMap, Meant, IsMeaning}
use Rattle.ubi_volume.specs.declared.content.Volume.{Volume}
use Rattle.ubi_volume.specs.contracts.content.Volume as volume_type

-- volumes are stored by their number
abbrev pub volumes_code : Coded VolumeMap
volumes_code = code coded_ℕ volume_type.the_row.coded

-- a meaning is stored with its sizes and its image sequence number
abbrev pub meant_code : Coded Meant
meant_code =
    code_by (Sizes × (ℕ × VolumeMap)) (coded× sizes_code (coded× coded_ℕ volumes_code))
    (λ m. (m.sizes, (m.image_seq, m.volumes)))
    (λ p. record { sizes = p.0; image_seq = p.1.0; volumes = p.1.1 }) (λ _. refl)

-- what holds for the volumes that a meaning keeps: their numbers ascend
pub record AreVolumes (s : Sizes) (seq : ℕ) (items : List (ℕ × Volume)) : Type 0 where
  pub sorted : IsTrue (is_sorted nat_cmp items)
  pub meaning : IsMeaning (record { sizes = s; image_seq = seq; volumes = from_entries items })
