-- The eraseblocks of a normal image can be laid out, and are of different LEBs.
use Rattle.ubi_compose.proofs.Prelude.{◌≡◌, ℕ, ◌<◌, refl, ap, arith, AllByRecursion, IsGeometry, Leb, layout, IsMeaning, Meant, Laid, laid_blocks, layout_block, normal_blocks, volume_is, apart_blocks, fine_blocks, all_from, AreApart, CanBeLaid, Differ, its_volume}
use Rattle.std.specs.FinMap as finite
use Rattle.ubi_compose.proofs.Headers.{layout_fits, layout_placed, layout_sound}
use Rattle.ubi_compose.proofs.Table.{table_fits}

module _ (m : Meant) (g : IsGeometry m.sizes) (is : IsMeaning m) where
  fine_layout : (copy : ℕ) → copy < 2 → CanBeLaid m.sizes (layout_block m copy)
  fine_layout copy l = record {
    room = table_fits m is g;
    fits = layout_fits copy l;
    sound = layout_sound m.sizes g copy l;
    known = refl;
    placed = layout_placed copy l;
    number = refl;
    original = refl;
  }

  pub fine_normal : AllByRecursion (CanBeLaid m.sizes) (normal_blocks m)
  fine_normal = (
    fine_layout 0 (omega arith),
    (fine_layout 1 (omega arith), fine_blocks m.sizes m.volumes is.each g),
  )

  -- none of a volume of a user is of the layout volume
  from_layout : (copy : ℕ) → AllByRecursion (Differ (layout_block m copy)) (laid_blocks m.sizes (finite.entries m.volumes))
  from_layout copy =
      all_from (Differ (layout_block m copy)) (laid_blocks m.sizes (finite.entries m.volumes)) (λ l h same.
      let e = its_volume m.sizes m.volumes l h in
      let slot = (volume_is m is e.0 e.1 e.2).slot in
      let own = e.4 in
      let one : l.header.vol_id ≡ layout = ap (λ (of : Leb). of.0) same in
      omega arith)

  pub apart_normal : AreApart (normal_blocks m)
  apart_normal = (
    ((λ same. let one : 1 ≡ 0 = ap (λ (of : Leb). of.1) same in omega arith), from_layout 0),
    (from_layout 1, apart_blocks m.sizes m.volumes),
  )
