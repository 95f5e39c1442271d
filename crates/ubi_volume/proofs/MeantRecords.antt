-- The records of a meaning are records of a table, and fit the device.
use Rattle.ubi_volume.proofs.Prelude.{◌≡◌, ℕ, refl, sym, ap, ◌∙◌, subst, arith, IfSome, None, Option, Some, option_map, same_Some, rec_fault, VolumeRecord, AreRecords, HasSpace, IsMeaning, IsVolume, Meant, records_of, Volume}
use Rattle.std.specs.FinMap as finite
use Rattle.ubi_volume.proofs.Recorded.{record_of, space_of}

entry_some : (o : Option Volume) (r : VolumeRecord) → option_map (λ (v : Volume). v.entry) o ≡ Some r
    → (v : Volume) × (o ≡ Some v) × (v.entry ≡ r)
entry_some None r e = absurd (cc)
entry_some (Some v) r e = (v, refl, same_Some v.entry r e)

-- a record of a meaning is that of one of its volumes
pub meant_by : (m : Meant) (id : ℕ) (r : VolumeRecord) → finite.get (records_of m).of id ≡ Some r
    → (v : Volume) × (finite.get m.volumes id ≡ Some v) × (v.entry ≡ r)
meant_by m id r e = entry_some (finite.get m.volumes id) r (sym (record_of m id) ∙ e)

module _ (m : Meant) (is : IsMeaning m) where
  pub volume_is : (id : ℕ) (v : Volume) → finite.get m.volumes id ≡ Some v → IsVolume m.sizes id v
  volume_is id v e = subst (λ (o : Option Volume). IfSome o (IsVolume m.sizes id)) e (is.each id)

  pub records_are : AreRecords (records_of m)
  records_are = record {
    slot = λ id r e. (let h = meant_by m id r e in (volume_is id h.0 h.1).slot);
    sound = λ id r e. (let h = meant_by m id r e in
        subst (λ (r : VolumeRecord). rec_fault m.sizes r ≡ None) h.2 (volume_is id h.0 h.1).sound);
    apart = λ i j r q e f same.
        (let a = meant_by m i r e in let b = meant_by m j q f in
        is.names i j a.0 b.0 a.1 b.1 (ap (λ (r : VolumeRecord). r.name) a.2 ∙ same
        ∙ ap (λ (r : VolumeRecord). r.name) (sym b.2)));
  }

  pub records_fit : HasSpace m.sizes (records_of m)
  records_fit = let sum = space_of m in let room = is.space in omega arith
