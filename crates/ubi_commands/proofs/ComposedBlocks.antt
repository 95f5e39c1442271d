-- The eraseblocks of what is composed: each starts with a header of the image.
use Rattle.ubi_commands.proofs.Prelude.{◌≡◌, ℕ, ◌+◌, ◌*◌, ◌^◌, ◌<◌, ◌≤◌, List, [], ◌++◌, length, take, drop, refl, ap, sym, ◌∙◌, arith, Some, map, AllByRecursion, All-map, IsGeometry, Sizes, IsMeaning, Meant, composed, normal_bytes, ◌-◌, slice_range, replicate, concat, take_at, All-append, All-from_recursion, All-replicate, All-weaker, mul-le-mul_right, big_number-reads_back, ec_bytes, offsets_in, ec_fields, blank, vid_bytes, valid_starts, block, first_chunks-concat, get_or-first_chunks, filled-by, length-filled, key_at, key_by, key_in, Key, CanBeLaid, Laid, spare, laid_bytes, new_ec, normal_blocks, length-composed, new_ec_back, concat-image_blocks, image_blocks, length-image_blocks, fine_normal, Option}
use Rattle.std.specs.List.{All}
use Rattle.ubi_scan.proofs.Parts as parts
use Rattle.ubi_commands.proofs.HeldBlocks.{key_here}

module _ (s : Sizes) (g : IsGeometry s) (seq : ℕ) where
  -- an eraseblock with the header of an image
  pub record IsBlock (b : List ℕ) : Type 0 where
    pub size : length b ≡ s.peb_size
    pub front : take 64 b ≡ ec_bytes s (new_ec seq)

  laid_block : (l : Laid) → CanBeLaid s l → IsBlock (laid_bytes s (new_ec seq) l)
  laid_block l one = record {
    size = parts.length-laid s g (ec_bytes s (new_ec seq)) (vid_bytes l.header) refl refl l.text one.room;
    front = parts.ec-laid s g (ec_bytes s (new_ec seq)) (vid_bytes l.header) refl refl l.text one.room;
  }

  pub spare_is : spare s seq ≡ ec_bytes s (new_ec seq) ++ blank (s.peb_size - 64)
  spare_is = filled-by s.peb_size 64 (ec_bytes s (new_ec seq)) refl

  spare_block : IsBlock (spare s seq)
  spare_block = record {
    size = (let n : length (ec_bytes s (new_ec seq)) ≡ 64 = refl in
        length-filled s.peb_size (ec_bytes s (new_ec seq)) (omega (arith, n, g.page_from, g.peb_from)));
    front = ap (take 64) spare_is ∙ take_at (ec_bytes s (new_ec seq)) (blank (s.peb_size - 64)) 64 refl;
  }

  all_blocks : (ls : List Laid) (spares : ℕ) → AllByRecursion (CanBeLaid s) ls → All IsBlock (image_blocks s seq ls spares)
  all_blocks ls spares fine =
      All-append IsBlock (map (laid_bytes s (new_ec seq)) ls) (replicate spares (spare s seq))
      (All-map IsBlock (laid_bytes s (new_ec seq)) ls
      (All-weaker (CanBeLaid s) (λ l. IsBlock (laid_bytes s (new_ec seq) l)) laid_block ls (All-from_recursion (CanBeLaid s) ls fine)))
      (All-replicate IsBlock spares (spare s seq) spare_block)

  -- what such a header names
  header_names : seq < 2 ^ 32 → key_in (ec_bytes s (new_ec seq)) ≡ Some (record { offsets = offsets_in s; image_seq = seq })
  unfolding ec_fields
  header_names narrow =
      let b = ec_bytes s (new_ec seq) in
      let P : ℕ → Option Key = λ n. Some (record { offsets = offsets_in s; image_seq = n }) in
      ap (key_by b) (valid_starts s b (new_ec seq) (new_ec_back s g seq narrow)) ∙ ap P (big_number-reads_back 4 seq [] narrow)

module _ (m : Meant) (g : IsGeometry m.sizes) (is : IsMeaning m) (spares : ℕ) where
  abbrev q : ℕ
  q = m.sizes.peb_size

  abbrev pub own_blocks : List (List ℕ)
  own_blocks = image_blocks m.sizes m.image_seq (normal_blocks m) spares

  are : All (IsBlock m.sizes g m.image_seq) own_blocks
  are = all_blocks m.sizes g m.image_seq (normal_blocks m) spares (fine_normal m g is)

  pub sized : (p : ℕ) → p < length own_blocks → length (block own_blocks p) ≡ q
  sized p below = (are p [] below).size

  bytes_are : concat own_blocks ≡ composed m spares
  unfolding normal_bytes
  bytes_are = concat-image_blocks m.sizes m.image_seq (normal_blocks m) spares

  pub block_count : length own_blocks ≡ length (normal_blocks m) + spares
  block_count = length-image_blocks m.sizes g m.image_seq is.image_seq (normal_blocks m) spares (fine_normal m g is)

  pub byte_count : length (composed m spares) ≡ (length (normal_blocks m) + spares) * q
  byte_count = length-composed m g is spares

  -- one of them lies where its number says
  cut : (p : ℕ) → p < length own_blocks → slice_range (composed m spares) (p * q) (p * q + q) ≡ block own_blocks p
  cut p below =
      let count : p * q + q - p * q ≡ q = omega arith in
      ap (λ k. take k (drop (p * q) (composed m spares))) count
      ∙ ap (λ f. take q (drop (p * q) f)) (sym bytes_are)
      ∙ sym (get_or-first_chunks q (length own_blocks) (concat own_blocks) p [] below)
      ∙ ap (λ xs. block xs p) (first_chunks-concat q own_blocks sized)

  pub lies : (p : ℕ) → p < length own_blocks
      → slice_range (composed m spares) (p * q) (p * q + length (block own_blocks p)) ≡ block own_blocks p
  lies p below = ap (λ n. slice_range (composed m spares) (p * q) (p * q + n)) (sized p below) ∙ cut p below

  pub lies_inside : (p : ℕ) → p < length own_blocks → p * q + length (block own_blocks p) ≤ length (composed m spares)
  lies_inside p below =
      let n = block_count in
      let all = byte_count in
      let one = sized p below in
      let next : (p + 1) * q ≡ p * q + q = grind arith in
      let few : (p + 1) * q ≤ (length (normal_blocks m) + spares) * q = mul-le-mul_right q (omega (arith, below, n)) in
      omega (arith, all, one, next, few)

  pub header_there : (p : ℕ) → p < length own_blocks
      → key_at (composed m spares) (p * q) ≡ Some (record { offsets = offsets_in m.sizes; image_seq = m.image_seq })
  header_there p below =
      let one = sized p below in
      let b = block own_blocks p in
      key_here (composed m spares) b (p * q) (lies p below) (lies_inside p below) (omega (arith, one, g.page_from, g.peb_from))
      ∙ ap key_in (are p [] below).front ∙ header_names m.sizes g m.image_seq is.image_seq
