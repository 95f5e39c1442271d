-- What is composed shows its image, and its own geometry is found in it.
use Rattle.ubi_commands.proofs.Prelude.{◌≡◌, ℕ, ◌+◌, ◌*◌, ◌<◌, ◌≤◌, List, length, inl, inr, refl, ap, sym, ◌∙◌, subst, arith, None, Some, IsGeometry, Detected, IsMeaning, Meant, composed, ◌-◌, ◌/◌, ◌%◌, Contains, IsTrue, mod-add-div', mul-le-mul_right, mul-mod_left, none-some, below_same_or_above, kept_limits, offsets_in, first_broken, AreHeadersOf, HoldsTable, ShowsImage, way_without, key_at, step, layout_sizes, end_of_image, start_of_image, told_by, all_are, block_at, Group, Key, owns_itself, image_is_found, normal_blocks, ComposedIsFound, IsDetectable, group_composed, own_detected, told}
use Rattle.ubi_commands.proofs.ComposedBlocks.{block_count, byte_count, header_there}
use Rattle.ubi_commands.proofs.ComposedTables.{blank_end, blank_table, table_in}

module _ (m : Meant) (spares : ℕ) (g : IsGeometry m.sizes) (is : IsMeaning m) (seen : IsDetectable m spares) where
  abbrev q : ℕ
  q = m.sizes.peb_size

  abbrev file : List ℕ
  file = composed m spares

  abbrev group : Group
  group = group_composed m spares

  abbrev n : ℕ
  n = length (normal_blocks m) + spares

  block_is : (i : ℕ) → block_at group i ≡ i * q
  block_is i = omega arith

  key_there : (i : ℕ) → i < n → key_at file (block_at group i) ≡ Some group.key
  key_there i below =
      let c = block_count m g is spares in
      ap (key_at file) (block_is i) ∙ header_there m g is spares i (omega (arith, c, below))

  by_place : (u : ℕ) (k : Key) → u * step + step ≤ length file → key_at file (u * step) ≡ Some k
      → (i : ℕ) × (i < n) × (u * step ≡ block_at group i)
  by_place u k inside here = elim (below_same_or_above ((u * step) % q) 0) [
    | inl under ↦ absurd (omega (arith, under))
    | inr w ↦ elim w [
      | inl start ↦ (let split = mod-add-div' (u * step) q in
          let i = (u * step) / q in
          let all = byte_count m g is spares in
          let place : u * step ≡ i * q = omega (arith, split, start) in
          (i, number_below i (omega (arith, place, inside, all)), place ∙ sym (block_is i)))
      | inr inner ↦ absurd (none-some k (sym (seen.alone u inside (λ e. omega (arith, e, inner))) ∙ here))
    ]
  ]
    where
      number_below : (i : ℕ) → i * q < n * q → i < n
      number_below i less = elim (below_same_or_above i n) [
        | inl below ↦ below
        | inr w ↦ elim w [
          | inl same ↦ absurd (let e = ap (λ j. j * q) same in omega (arith, e, less))
          | inr more ↦ absurd (let m : n * q ≤ i * q = mul-le-mul_right q (omega (arith, more)) in omega (arith, m, less))
        ]
      ]

  last_block : (n - 1) * q + q ≡ n * q
  last_block =
      let some : 1 ≤ n = omega arith in
      let e : n - 1 + 1 ≡ n = omega (arith, some) in
      let next : (n - 1 + 1) * q ≡ (n - 1) * q + q = grind arith in
      sym next ∙ ap (λ j. j * q) e

  headers : AreHeadersOf file group
  headers = record {
    two = omega arith;
    unit = refl;
    last = sym (block_is (n - 1));
    whole = (let all = byte_count m g is spares in let e = last_block in omega (arith, all, e));
    each = λ i below. (group.key, key_there i below, owns_itself group.key);
    named = (0, omega arith, key_there 0 (omega arith));
    only = by_place;
  }

  limits : first_broken (layout_sizes q (offsets_in m.sizes) m.sizes.page) ≡ None
  limits = (kept_limits (layout_sizes q (offsets_in m.sizes) m.sizes.page)).1 (record {
    page = g.page;
    page_multiple = g.page_multiple;
    page_from = g.page_from;
    peb_from = g.peb_from;
    peb_to = g.peb_to;
    peb_pages = g.peb_pages;
    vid_from = g.vid_from;
    vid_multiple = g.vid_multiple;
    data_from = g.data_from;
    data_pages = g.data_pages;
    leb = g.leb;
    pebs_from = omega arith;
    pebs_to = omega arith;
  })

  copy_there : (c : ℕ) → c < 2 → HoldsTable file (layout_sizes q (offsets_in m.sizes) m.sizes.page) (block_at group c) c
  copy_there c few =
      let P : ℕ → Type 0 = λ at. HoldsTable file (layout_sizes q (offsets_in m.sizes) m.sizes.page) at c in
      subst P (sym (block_is c)) (table_in m g is spares c few)

  blank_there : (i : ℕ) × (i < n) × IsTrue (all_are 0xFF 16 file (block_at group i + (q - 16)))
  blank_there = elim seen.blank [
    | inl some ↦ (n - 1, omega (arith, some), blank_at (n - 1) (blank_end m g is spares (n - 1) some (omega (arith, some))))
    | inr room ↦ (0, omega arith, blank_at 0 (blank_table m g is spares room))
  ]
    where
      blank_at : (i : ℕ) → IsTrue (all_are 0xFF 16 file (i * q + (q - 16))) → IsTrue (all_are 0xFF 16 file (block_at group i + (q - 16)))
      blank_at i e = ap (λ p. all_are 0xFF 16 file (p + (q - 16))) (block_is i) ∙ e

  shown : ShowsImage file group m.sizes.page
  shown = record {
    headers = headers;
    sizes = limits;
    data_offset = seen.data_offset;
    tables = record {
      index = 0;
      inside = omega arith;
      lnum = 0;
      other = 1;
      unlike = λ e. omega (arith, e);
      first = copy_there 0 (omega arith);
      second = copy_there 1 (omega arith);
    };
    blank = blank_there;
    seen = seen.seen;
    without = seen.without;
  }

  all_of_it : told_by (start_of_image group) (end_of_image file group) (way_without group m.sizes.page) ≡ own_detected m spares
  all_of_it =
      let all = byte_count m g is spares in
      let zero_times : 0 ≡ 0 * q = omega arith in
      let none : start_of_image group ≡ 0 = ap (λ k. k % q) zero_times ∙ mul-mod_left 0 q in
      let rest : (length file - start_of_image group) % q ≡ 0 =
      ap (λ k. (length file - k) % q) none ∙ ap (λ k. k % q) (all_is all) ∙ mul-mod_left n q in
      let end : end_of_image file group - start_of_image group ≡ length file = omega (arith, none, rest) in
      let P : ℕ → ℕ → Detected = λ start size. record { geometry = layout_sizes q (offsets_in m.sizes) m.sizes.page; oob = 0; start = start; length = size } in
      ap (λ start. P start (end_of_image file group - start_of_image group)) none ∙ ap (P 0) end
    where
      all_is : length file ≡ n * q → length file - 0 ≡ n * q
      all_is e = omega (arith, e)

pub composed_is_found : ComposedIsFound
composed_is_found m spares g is seen =
    let shown = shown m spares g is seen in
    let found = image_is_found (composed m spares) (group_composed m spares) m.sizes.page shown in
    let P : Detected → Type 0 = λ d. Contains (told (composed m spares) (group_composed m spares)) d in
    (shown, found.0, found.1, subst P (all_of_it m spares g is seen) found.2)
