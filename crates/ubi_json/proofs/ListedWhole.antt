-- The JSON of volumes has no float, and nests little.
use Rattle.ubi_json.proofs.Prelude.{◌≡◌, ◌≤◌, List, [], ◌∷◌, arith, false, map, refl, depth, items_depth, items_of, has_float, items_have_float, Sizes, VolumeRecord, Amount, listed_data, record_members, volume_data, with_amount, ListedVolume, ℕ, members_depth, members_have_float}
use Rattle.ubi_volume.specs.declared.block.Amount.TheVariants as amount

volume_whole : (s : Sizes) (id : ℕ) (r : VolumeRecord) (a : Amount) → members_have_float (with_amount a (record_members s id r)) ≡ false
volume_whole s id r amount.Updating = refl
volume_whole s id r amount.Damaged = refl
volume_whole s id r (amount.Bytes n) = refl
volume_whole s id r (amount.Lebs n) = refl

volume_flat : (s : Sizes) (id : ℕ) (r : VolumeRecord) (a : Amount) → members_depth (with_amount a (record_members s id r)) ≡ 0
volume_flat s id r amount.Updating = refl
volume_flat s id r amount.Damaged = refl
volume_flat s id r (amount.Bytes n) = refl
volume_flat s id r (amount.Lebs n) = refl

items_whole : (s : Sizes) (vs : List ListedVolume) → items_have_float (items_of (map (volume_data s) vs)) ≡ false
items_whole s [] = refl
items_whole s (v ∷ vs) = rw (volume_whole s v.id v.entry v.amount) (items_whole s vs)

items_flat : (s : Sizes) (vs : List ListedVolume) → items_depth (items_of (map (volume_data s) vs)) ≤ 1
items_flat s [] = omega arith
items_flat s (v ∷ vs) =
    let rest = items_flat s vs in
    let here = volume_flat s v.id v.entry v.amount in
    rw here (omega (arith, rest))

pub listed_whole : (s : Sizes) (vs : List ListedVolume) → has_float (listed_data s vs) ≡ false
listed_whole s vs = rw (items_whole s vs) refl

pub listed_flat : (s : Sizes) (vs : List ListedVolume) → depth (listed_data s vs) ≤ 127
listed_flat s vs = let flat = items_flat s vs in omega (arith, flat)
