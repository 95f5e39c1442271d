-- Laws of comparing, as they stand on functions that do nothing.
use Rattle.std.specs.Prelude.{◌≡◌, ◌↔◌, []}
use Rattle.ubi_volume.specs.Meant.{IsMeaning, Meant}
use Rattle.ubi_compare.specs.Differences.{differences}

-- there is no difference exactly if two meanings are the same
abbrev pub NothingDiffers : Type 0
NothingDiffers = (m n : Meant) → IsMeaning m → IsMeaning n → m.sizes ≡ n.sizes → (differences m n ≡ []) ↔ (m ≡ n)
