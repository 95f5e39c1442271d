-- How places are stored.
use Rattle.std.specs.Prelude.{ℕ, refl}
use Rattle.std.specs.Coded.{Coded, code_by, coded×, coded_ℕ}
use Rattle.std.specs.FinMap.{FinMap, code}
use Rattle.std.specs.Ordering.{nat_cmp}
use Rattle.ubi_scan.specs.Scan.{leb_cmp}
use Rattle.ubi_table.specs.Records.{Records}
use Rattle.ubi_table.specs.Coded.{records_code}
use Rattle.ubi_volume.specs.Places.{Placed}
use Rattle.ubi_volume.specs.contracts.places.PlaceContent as place_type
use Rattle.ubi_volume.specs.declared.places.PlaceContent.{PlaceContent}

-- places as the tuple of their fields
abbrev pub placed_code : Coded Placed
placed_code =
    code_by (Records × (FinMap leb_cmp ℕ × (FinMap nat_cmp PlaceContent × ℕ)))
    (coded× records_code (coded× (code (coded× coded_ℕ coded_ℕ) coded_ℕ) (coded× (code coded_ℕ place_type.the_row.coded) coded_ℕ)))
    (λ p. (p.records, (p.winners, (p.contents, p.image_seq))))
    (λ t. record { records = t.0; winners = t.1.0; contents = t.1.1.0; image_seq = t.1.1.1 }) (λ _. refl)
