-- The records of a meaning are those of the table that it was made from.
use Rattle.ubi_volume.proofs.Prelude.{◌≡◌, ℕ, ◌+◌, List, refl, ap, sym, ◌∙◌, Option, Some, None, option_map, sum_by, Sizes, VolumeRecord, get_revalued, revalued_is, sum_revalued, Records, space, IsTable, Means, SlotMeans, Meant, records_of, Volume, table_records}
use Rattle.std.specs.FinMap as finite
use Rattle.ubi_volume.proofs.Gathered.{record_at}

-- the record of a volume of a meaning
pub record_of : (m : Meant) (id : ℕ) → finite.get (records_of m).of id
    ≡ option_map (λ (v : Volume). v.entry) (finite.get m.volumes id)
record_of m id = get_revalued record_at m.volumes id

same_record : (s : Sizes) (bs : List (List ℕ)) (id : ℕ) (r : Option VolumeRecord) (v : Option Volume)
    → SlotMeans s bs id r v → option_map (λ (v : Volume). v.entry) v ≡ r
same_record s bs id None None h = refl
same_record s bs id (Some r) (Some v) h = ap Some h.0
same_record s bs id None (Some v) h = absurd h
same_record s bs id (Some r) None h = absurd h

pub records_meant : (s : Sizes) (bs : List (List ℕ)) (t : Records) (m : Meant) → IsTable s bs t → Means s bs t m
    → records_of m ≡ t
records_meant s bs t m is means =
    let sizes : m.sizes ≡ t.sizes = means.sizes ∙ sym (table_records s bs t is).0 in
    let same = revalued_is record_at m.volumes t.of (λ id. sym (same_record s bs id _ _ (means.slots id))) in
    λ i. record { sizes = sizes i; of = same i }

-- how much the records of a meaning reserve
pub space_of : (m : Meant) → space (records_of m) ≡ 2 + sum_by (λ (v : Volume). v.entry.reserved)
    (finite.values m.volumes)
space_of m = ap (λ n. 2 + n) (sum_revalued record_at m.volumes (λ (v : Volume). v.entry.reserved)
    (λ (r : VolumeRecord). r.reserved) (λ k v. refl))
