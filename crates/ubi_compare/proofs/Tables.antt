-- Whether two tables have the same records.
use Rattle.ubi_compare.proofs.Prelude.{◌≡◌, ℕ, Bool, ap, ◌==◌, ◌&&◌, Decides, Decides-and, Decides-like, slice_eq-Decides, unsigned_Decides, pointwise, FinMap, same_entries_map, nat_cmp, VolumeRecord, record_Decides}
use Rattle.std.specs.FinMap as finite
use Rattle.ubi_media.specs.contracts.record.VolumeRecordPartialEq.TheImpl as record_eq

entry_Decides : (p q : ℕ × VolumeRecord) → Decides ((p.0 == q.0) && (record_eq.ghosts).eq p.1 q.1) (p ≡ q)
entry_Decides p q = Decides-like _ (λ e i. (e.0 i, e.1 i)) (λ e. (ap (λ x. x.0) e, ap (λ x. x.1) e))
    (Decides-and _ _ (unsigned_Decides p.0 q.0) (record_Decides p.1 q.1))

pub records_Decides : (a b : FinMap nat_cmp VolumeRecord) (r : Bool)
    → r ≡ pointwise (λ p q. (p.0 == q.0) && (record_eq.ghosts).eq p.1 q.1) (finite.entries a) (finite.entries b)
    → Decides r (a ≡ b)
records_Decides a b r e = Decides-like r (same_entries_map a b) (ap finite.entries)
    (slice_eq-Decides entry_Decides (finite.entries a) (finite.entries b) r e)
