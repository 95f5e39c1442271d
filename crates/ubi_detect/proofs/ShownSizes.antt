-- The size of the eraseblocks of an image that a file shows is sure.
use Rattle.ubi_detect.proofs.Prelude.{◌≡◌, ℕ, ◌+◌, ◌-◌, ◌*◌, ◌/◌, ◌%◌, ◌<◌, ◌≤◌, Bool, true, List, length, refl, ap, sym, ◌∙◌, arith, ◌&&◌, Contains, and_from, eq-eqb, le-leb, lt-ltb, ne_eqb, not_from_false, or_left, list_any_at, dvd_of_mod-eq-zero, dvd_trans, mod-add-div', mul-le-mul_right, kept_limits, IsGeometry, Sizes, slots, record_size, step, layout_sizes, has_vid, has_vote, all_are, block_at, blocks, copy_at, ends_blank, have_copies, holds_table, is_blank_at, is_member, is_start, is_sure, meets, number_at, some_ends_blank, some_start, tables_meet, plain_ways, put, Group, Way, mod-eq-zero_of_dvd, mul-div_cancel, HoldsTable, ShowsImage, way_without}
use Rattle.ubi_detect.proofs.Tested.{any_here}
use Rattle.ubi_detect.proofs.OnePlain.{next_mul}
use Rattle.ubi_detect.proofs.OwnGeometry.{own_way}
use Rattle.ubi_detect.proofs.RowPlaces.{block_whole, unit_size}

module _ (bytes : List ℕ) (g : Group) (page : ℕ) (shows : ShowsImage bytes g page) where
  abbrev pub own_sizes : Sizes
  own_sizes = layout_sizes g.size g.key.offsets page

  abbrev w : Way
  w = way_without g page

  pub own_geometry : IsGeometry (layout_sizes g.size g.key.offsets page)
  own_geometry = (kept_limits own_sizes).0 shows.sizes

  pub some_bytes : 1 ≤ g.size
  some_bytes = let p = own_geometry.page_from in let q = own_geometry.peb_from in omega (arith, p, q)

  pub whole_units : g.size % step ≡ 0
  whole_units =
      mod-eq-zero_of_dvd step (dvd_trans step (dvd_of_mod-eq-zero step own_geometry.page_multiple)
      (dvd_of_mod-eq-zero page own_geometry.peb_pages))

  inside : (i : ℕ) → i < g.count → block_at g i + g.size ≤ length bytes
  inside = block_whole bytes g shows.headers some_bytes whole_units

  unit : step ≤ g.size
  unit = unit_size bytes g shows.headers some_bytes whole_units

  -- each eraseblock from the first to the last starts with a header
  blocks_are : blocks g ≡ g.count
  blocks_are =
      let two = shows.headers.two in
      let last = shows.headers.last in
      let some = some_bytes in
      let far : g.last - g.first ≡ (g.count - 1) * g.size = omega (arith, last) in
      let n : (g.last - g.first) / g.size ≡ g.count - 1 = ap (λ x. x / g.size) far ∙ mul-div_cancel (g.count - 1) some in
      omega (arith, n, two)

  starts : (i : ℕ) → i < g.count → is_start bytes g (block_at g i) ≡ true
  starts i below =
      let h = shows.headers.each i below in
      let w = inside i below in
      let s = unit in
      and_from _ _ (le-leb (block_at g i + 64) (length bytes) (omega (arith, w, s))) (ap (is_member g.key) h.1 ∙ h.2)

  passes : (t : ℕ → Bool) (i : ℕ) → i < g.count → t (block_at g i) ≡ true → some_start bytes g t ≡ true
  passes t i below pass =
      let b = blocks_are in
      any_here (λ j. is_start bytes g (block_at g j) && t (block_at g j)) (blocks g) i (omega (arith, b, below))
      (and_from _ _ (starts i below) pass)

  -- one of them ends blank
  blank_end : some_ends_blank bytes g ≡ true
  blank_end =
      let b = shows.blank in
      let s = unit in
      let place : block_at g b.0 + g.size - 16 ≡ block_at g b.0 + (g.size - 16) = omega (arith, s) in
      or_left _ _ (passes (ends_blank bytes g 0) b.0 b.1 (ap (all_are 0xFF 16 bytes) place ∙ b.2))

  -- without out-of-band bytes each place is where it is
  put_there : (x : ℕ) → put w x ≡ x
  put_there x =
      let none : page + 0 ≡ page = omega arith in
      let m = ap (λ n. x / page * n) none in
      let split = mod-add-div' x page in omega (arith, m, split)

  module _ (at lnum : ℕ) (holds : HoldsTable bytes own_sizes at lnum) where
    magic_there : has_vid bytes w at ≡ true
    magic_there = eq-eqb _ _ (ap (λ x. number_at bytes (at + x)) (put_there g.key.offsets.vid_offset) ∙ holds.magic)

    table_there : holds_table bytes w at ≡ true
    table_there =
        and_from _ _
        (and_from _ _ magic_there
        (eq-eqb _ _ (ap (λ x. number_at bytes (at + x + 8)) (put_there g.key.offsets.vid_offset) ∙ holds.volume)))
        (not_from_false _ (ap (λ x. is_blank_at bytes (at + x)) (put_there (g.key.offsets.data_offset + record_size * (slots own_sizes - 1))) ∙ holds.last))

    copy_there : copy_at bytes w at ≡ lnum
    copy_there =
        let place : at + (g.key.offsets.vid_offset + 12) ≡ at + g.key.offsets.vid_offset + 12 = omega arith in
        ap (λ x. number_at bytes (at + (x + 12))) (put_there g.key.offsets.vid_offset) ∙ ap (number_at bytes) place ∙ holds.leb

  -- two that follow each other hold the two copies
  index_inside : shows.tables.index < g.count
  index_inside = let i = shows.tables.inside in omega (arith, i)

  copies_there : (p next : ℕ) → p ≡ block_at g shows.tables.index → next ≡ block_at g (shows.tables.index + 1)
      → have_copies bytes w p next ≡ true
  copies_there p next e f =
      let t = shows.tables in
      let one = ap (copy_at bytes w) e ∙ copy_there (block_at g t.index) t.lnum t.first in
      let two = ap (copy_at bytes w) f ∙ copy_there (block_at g (t.index + 1)) t.other t.second in
      and_from _ _
      (and_from _ _ (ap (holds_table bytes w) e ∙ table_there (block_at g t.index) t.lnum t.first)
      (ap (holds_table bytes w) f ∙ table_there (block_at g (t.index + 1)) t.other t.second))
      (not_from_false _ (ne_eqb _ _ (λ same. t.unlike (sym one ∙ same ∙ two))))

  pub meets_there : some_start bytes g (meets bytes g w) ≡ true
  meets_there =
      let t = shows.tables in
      let i = t.index in
      let below = t.inside in
      let last = shows.headers.last in
      let n = next_mul i g.size in
      let next : block_at g i + g.size ≡ block_at g (i + 1) = omega (arith, n) in
      let far : (i + 1) * g.size ≤ (g.count - 1) * g.size = mul-le-mul_right g.size (omega (arith, below)) in
      passes (meets bytes g w) i index_inside
      (and_from _ _
      (and_from _ _ (le-leb (block_at g i + g.size) g.last (omega (arith, next, far, last)))
      (ap (is_start bytes g) next ∙ starts (i + 1) t.inside))
      (copies_there (block_at g i) (block_at g i + g.size) refl next))

  pub vote_there : has_vote bytes g w ≡ true
  vote_there =
      let t = shows.tables in
      passes (has_vid bytes w) t.index index_inside (magic_there (block_at g t.index) t.lnum t.first)

  copies_meet : tables_meet bytes g ≡ true
  copies_meet =
      let among : Contains (plain_ways g.size g.key.offsets) w = own_way g.size g.key.offsets page shows.sizes shows.data_offset in
      or_left _ _ (list_any_at (λ v. some_start bytes g (meets bytes g v)) (plain_ways g.size g.key.offsets) among.0 w among.1
      (ap (λ v. some_start bytes g (meets bytes g v)) among.2 ∙ meets_there))

  pub shown_sure : is_sure bytes g ≡ true
  shown_sure =
      let b = blocks_are in
      let two = shows.headers.two in
      let leb = own_geometry.leb in
      and_from _ _
      (and_from _ _
      (and_from _ _ (le-leb (g.key.offsets.data_offset + 64) g.size (omega (arith, leb)))
      (lt-ltb (blocks g) (2 * g.count) (omega (arith, b, two))))
      shows.seen)
      (and_from _ _ (or_left _ _ (eq-eqb g.count (blocks g) (sym blocks_are)))
      (and_from _ _ blank_end (or_left _ _ copies_meet)))
