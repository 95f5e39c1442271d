-- A volume that is listed is one of its meaning.
use Rattle.ubi_volume.proofs.Prelude.{◌≡◌, ℕ, ◌<◌, ◌∙◌, length, get_or, IfSome, Option, nat_cmp_total, find_at, IsMeaning, IsVolume, Meant, Volume}
use Rattle.std.proofs.Common.{Some}
use Rattle.std.specs.FinMap as finite

-- what holds of an option's value
of_some : {A : Type 0} (P : A → Type 0) (o : Option A) (x : A) → IfSome o P → o ≡ Some x → P x
of_some P o x holds e = rw e at holds

pub listed_volume : (m : Meant) → IsMeaning m → (i : ℕ) (d : ℕ × Volume) → i < length (finite.entries m.volumes)
    → IsVolume m.sizes (get_or (finite.entries m.volumes) i d).0 (get_or (finite.entries m.volumes) i d).1
listed_volume m meaning i d inside =
    let item = get_or (finite.entries m.volumes) i d in
    of_some (IsVolume m.sizes item.0) (finite.get m.volumes item.0) item.1 (meaning.each item.0)
    (finite.get-entries m.volumes item.0
    ∙ find_at nat_cmp_total (finite.entries m.volumes) i d (finite.entries_sorted m.volumes) inside)
